-- The table after an effect: its length is kept, it passes the check, and its records are those that the effect gives. Assumes nothing.
use Prim.Native.Nat.{ℕ, ◌+◌, ◌≤◌}
use mathlib.Core.Path.{◌≡◌, refl}
use mathlib.Core.Bool.{Bool, true, false}
use mathlib.Core.List.{List, [], ◌∷◌}
use native.Mathlib.Omega.{arith}
use native.Mathlib.Numerals.{add-one}
use borrow.Author.Tests.{ltb-false}
use lib.ListN.{length, get_or}
use Rattle.rights.specs.Record.{node_record}
use Rattle.rights.specs.Table.{count, records, record_ok, records_ok, level, table_ok}
use Rattle.rights.proofs.TableLaws.{both, table_records}
use Rattle.rights.proofs.RecordOfLaws.{length_node, node_ok}
use Rattle.views.specs.Change.{remove, placed, removed, relabel, renamed, redate, redated, changed, free}
use Rattle.views.specs.Nodes.{Nested, All}
use Rattle.views.proofs.TableLaws.{facts}
use Rattle.views.proofs.TableKept.{Full, StoredAs, removed-stored, renamed-stored, redated-stored, placed-stored, changed-ok, length-changed, records-changed, count-changed, loosen, length-records, length-placed}
use Rattle.views.proofs.InsertionLaws.{length-rename}
use Rattle.forms.specs.Form.{ReadForm}
use Rattle.lines.specs.Effect.{Effect, policy, root, insertion, renaming, removal, redating, login, dating, reading, records_after, table_after}
use Rattle.guarantee.proofs.Sound.{RootSound, EffectSound}

-- the levels of a table's records
records-nested : (low high : ℕ) (rs : List (List ℕ)) → records_ok low high rs ≡ true → Nested level high rs
unfolding records_ok
records-nested low high [] e = tt
records-nested low high (r ∷ rs) e =
    let f = both (record_ok low high r) (records_ok 1 (level r + 1) rs) e in
    ((loosen low high r f.0).1, rw (← add-one (level r)) (records-nested 1 (level r + 1) rs f.1))

pub table_nested : (t : List ℕ) → table_ok t ≡ true → Nested level 0 (records t)
table_nested t e = records-nested 0 0 (records t) (table_records t e)

pub record TableHolds (t t' : List ℕ) (rs : List (List ℕ)) : Type 0 where
  pub ok : table_ok t' ≡ true
  pub same_length : length t' ≡ length t
  pub held : records t' ≡ rs
  pub rooted : 1 ≤ count t → 1 ≤ count t'

same_table : (t : List ℕ) → table_ok t ≡ true → TableHolds t t (records t)
same_table t ok = record { ok = ok; same_length = refl; held = refl; rooted = λ h. h }

changed_table : (t : List ℕ) (rs : List (List ℕ)) → StoredAs t rs → (1 ≤ count t → 1 ≤ length rs) → TableHolds t (changed t rs) rs
changed_table t rs x h = record { ok = x.ok; same_length = x.same_length; held = x.held; rooted = λ k. rw x.counted (h k) }

-- the root alone
root_stored : (s t l : List ℕ) → table_ok t ≡ true → RootSound s t l → StoredAs t (node_record 0 l ∷ [])
unfolding records_ok
root_stored s t l ok x =
    let f = facts t ok in
    let rs : List (List ℕ) = node_record 0 l ∷ [] in
    let k = ltb-false (free t) 1 x.has_room in
    let full : All Full rs = (length_node 0 l x.label.short, tt) in
    let r = node_ok 0 l x.label.some x.label.short x.label.bytes x.label.free 0 0 (omega arith) (omega arith) (omega arith) in
    record {
      ok = changed-ok t rs f.head (omega (arith, k)) full (rw r);
      same_length = length-changed t rs f.head (omega (arith, k)) full;
      held = records-changed t rs f.head (omega (arith, k)) full;
      counted = count-changed t rs f.head (omega (arith, k)) full;
    }

-- a removal that spares the first record leaves one
remove-some : (ms : List Bool) (rs : List (List ℕ)) → get_or ms 0 false ≡ false → 1 ≤ length rs → 1 ≤ length (remove level ms rs)
unfolding remove
remove-some ms [] e h = absurd (omega arith)
remove-some ms (r ∷ rs) e h = rw e (omega arith)

pub table_after_lem : (f : ReadForm) (s t : List ℕ) → table_ok t ≡ true → (e : Effect) → EffectSound f s t e → TableHolds t (table_after e t) (records_after e (records t))
table_after_lem f s t ok (policy p g) x = same_table t ok
table_after_lem f s t ok (root l) x = changed_table t (node_record 0 l ∷ []) (root_stored s t l ok x) (λ i. omega arith)
table_after_lem f s t ok (insertion at ms m tree g) x =
    changed_table t (placed at m tree ms (records t)) (placed-stored at t ms tree m ok x.good x.shallow x.has_room x.spared)
    (λ i. omega (arith, i, length-placed at t ms tree m))
table_after_lem f s t ok (renaming l ms) x =
    changed_table t (renamed l ms (records t)) (renamed-stored t ms l ok x.label)
    (λ i. omega (arith, i, length-rename level (relabel l) ms (records t), length-records t))
table_after_lem f s t ok (removal ms) x =
    changed_table t (removed ms (records t)) (removed-stored t ms ok)
    (λ i. remove-some ms (records t) x.spared (omega (arith, i, length-records t)))
table_after_lem f s t ok (redating g l ms) x =
    changed_table t (redated g l ms (records t)) (redated-stored t ms g l ok x.window x.spared)
    (λ i. omega (arith, i, length-rename level (redate g l) ms (records t), length-records t))
table_after_lem f s t ok (login u) x = same_table t ok
table_after_lem f s t ok (dating d) x = same_table t ok
table_after_lem f s t ok reading x = same_table t ok
