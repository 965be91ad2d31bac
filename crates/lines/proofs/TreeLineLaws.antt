-- The lines that write a tree: its labels, the table of the root alone, the last child of the root. Assumes nothing.
use Rattle.std.specs.List.{list_any, range_with_len}
use Prim.Native.Nat.{ℕ, zero, suc, ◌+◌, ◌-◌, ◌*◌, ◌≤◌, ◌<◌}
use mathlib.Core.Bool.{true, false, not, ◌||◌, beq, false≢true}
use mathlib.Core.Path.{◌≡◌, refl, sym, ap, ap₂, ◌∙◌}
use mathlib.Core.List.{List, [], ◌∷◌, ◌++◌, append-nil}
use native.Mathlib.Omega.{arith}
use borrow.Author.Tests.{leb-false, lt-leb, lt-ltb}
use lib.Dec.{leb, ltb}
use lib.ListN.{length, get_or, take, drop, set, replicate, length-take, length-drop}
use lib.Seq.{take-take, drop-drop, drop_at, get_or-take, get_or-drop, length-take-le}
use Rattle.rights.specs.Bytes.{all, is_zero}
use Rattle.rights.specs.Labels.{same_label, restricted}
use Rattle.rights.specs.Policy.{some}
use Rattle.rights.specs.Record.{node_record, pasted}
use Rattle.rights.specs.Table.{level, label, count, capacity, records, record_ok, records_ok, table_ok}
use Rattle.rights.proofs.TableLaws.{both, capacity_exact, table_long}
use Rattle.rights.proofs.LabelLaws.{same_differ}
use Rattle.rights.proofs.ListLaws.{by_case}
use Rattle.rights.proofs.RecordOfLaws.{pasted_record}
use Rattle.rights.specs.Marks.{marks_of, mark_count}
use Rattle.views.specs.Change.{chunks, le4, join, changed, put_behind, insert_behind, raise, lower, placed, deepest, too_deep, free, has_room}
use Rattle.views.specs.declared.insert.Place.TheVariants.{Append}
use Rattle.rights.proofs.TextLaws.{drop-take}
use Rattle.views.proofs.TableLaws.{facts}
use Rattle.rights.proofs.PlaceLaws.{zero_replicate}
use Rattle.views.proofs.TableKept.{length-records, loosen}
use Rattle.lines.specs.State.{stage, store_ok}
use Rattle.lines.specs.Refusal.{check, level_too_deep, table_full}
use Rattle.lines.specs.Work.{tree_restricted, root_alone, insert_checks}
use Rattle.lines.proofs.StateLaws.{store_held}

-- the label of a record in a tree's bytes
module _ (tree : List ℕ) (at n : ℕ) (inside : at + 32 ≤ length tree) (e : n ≡ get_or tree (at + 1) 0) where
  length_byte : get_or (take 32 (drop at tree)) 1 0 ≡ n
  length_byte = get_or-take 32 (drop at tree) 1 0 (omega arith) ∙ get_or-drop at tree 1 0 ∙ sym e

  pub label_part : n ≤ 24 → take n (drop (at + 2) tree) ≡ label (take 32 (drop at tree))
  label_part h =
      let z : n ≤ 30 = omega arith in
      rw length_byte (sym (ap (take n) (drop-take 2 30 (drop at tree)) ∙ take-take n 30 (drop 2 (drop at tree)) z ∙ ap (take n) (drop-drop 2 at tree)))

  pub label_long : 24 < n → false ≡ same_label (label (take 32 (drop at tree))) restricted
  label_long h =
      let k : length (take 32 (drop at tree)) ≡ 32 = length-take-le 32 (drop at tree) (omega (arith, length-drop at tree)) in
      sym (same_differ (label (take 32 (drop at tree))) restricted
      (λ q. let z : length (label (take 32 (drop at tree))) ≡ 10 = q in
      omega (arith, z, k, length_byte, length-drop 2 (take 32 (drop at tree)), length-take (get_or (take 32 (drop at tree)) 1 0) (drop 2 (take 32 (drop at tree))))))

-- the records of a tree by their numbers, from record j on
pub restricted_any : (tree : List ℕ) (m j : ℕ)
    → list_any (λ i. same_label (label (take 32 (drop (i * 32) tree))) restricted) (range_with_len j m) ≡ tree_restricted m (drop (j * 32) tree)
unfolding tree_restricted some chunks
restricted_any tree zero j = refl
restricted_any tree (suc m) j =
    let k : (j + 1) * 32 ≡ j * 32 + 32 = omega arith in
    ap (λ b. same_label (label (take 32 (drop (j * 32) tree))) restricted || b) (restricted_any tree m (j + 1) ∙ rw (k, ← drop-drop 32 (j * 32) tree) refl)

-- no record is held before the root line
pub no_records : (s t : List ℕ) → store_ok s t ≡ true → stage s < 2 → count t ≡ 0
no_records s t ok h =
    let e : beq (leb 2 (stage s)) (leb 1 (count t)) ≡ true = (store_held s t ok).root in
    by_case (leb 1 (count t))
    (λ z. let f : false ≡ true = rw (lt-leb 2 (stage s) h, z) at e in absurd (false≢true f))
    (λ z. omega (arith, leb-false 1 (count t) z))

-- the table of the root alone
zeros-behind : (n : ℕ) (x : List ℕ) → all is_zero x ≡ true → all is_zero (drop n x) ≡ true
unfolding all
zeros-behind zero x e = e
zeros-behind (suc n) [] e = refl
zeros-behind (suc n) (b ∷ x) e = zeros-behind n x (both (is_zero b) (all is_zero x) e).1

pub root_room : (t : List ℕ) → table_ok t ≡ true → 1 ≤ capacity (length t) → 36 ≤ length t
root_room t ok h = ((capacity_exact (length t) 1 (table_long t ok)).0 h).0

pub root_put : (t l p q : List ℕ) → table_ok t ≡ true → count t ≡ 0 → 1 ≤ capacity (length t) → length l ≤ 24
    → p ≡ pasted t 4 (node_record 0 l) → q ≡ le4 1 ++ drop 4 p → q ≡ changed t (node_record 0 l ∷ [])
unfolding changed join
root_put t l p q ok n h k ep eq =
    let g : 36 ≤ length t = root_room t ok h in
    let a : p ≡ take 4 t ++ (node_record 0 l ++ drop 36 t) = ep ∙ pasted_record t 4 0 l _ k refl in
    let b : drop 4 p ≡ node_record 0 l ++ drop 36 t =
    ap (drop 4) a ∙ drop_at (take 4 t) (node_record 0 l ++ drop 36 t) 4 (length-take-le 4 t (omega arith)) in
    let z : 4 + count t * 32 ≡ 4 = omega (arith, n) in
    let c : all is_zero (drop 4 t) ≡ true = rw z at (facts t ok).clear in
    let d : all is_zero (drop 36 t) ≡ true = rw (drop-drop 32 4 t) at (zeros-behind 32 (drop 4 t) c) in
    let e : drop 36 t ≡ replicate (length t - 36) 0 = zero_replicate (drop 36 t) d ∙ ap (λ i. replicate i 0) (length-drop 36 t) in
    eq ∙ ap (λ x. le4 1 ++ x) (b ∙ ap (λ x. node_record 0 l ++ x) e ∙ ap (λ x. x ++ replicate (length t - 36) 0) (sym (append-nil (node_record 0 l))))

-- Where no byte is set nothing is marked
none-behind : (y : List ℕ → List (List ℕ)) (n : ℕ) (rs : List (List ℕ)) → insert_behind level y (marks_of (replicate n 0)) rs ≡ rs
unfolding insert_behind
none-behind y n [] = refl
none-behind y zero (r ∷ rs) = ap (λ (u : List (List ℕ)). r ∷ u) (none-behind y zero rs)
none-behind y (suc n) (r ∷ rs) = ap (λ (u : List (List ℕ)). r ∷ u) (none-behind y n rs)

none_deep : (d n : ℕ) (rs : List (List ℕ)) → too_deep d (marks_of (replicate n 0)) rs ≡ false
unfolding too_deep
none_deep d n [] = refl
none_deep d zero (r ∷ rs) = none_deep d zero rs
none_deep d (suc n) (r ∷ rs) = none_deep d n rs

none_counted : (k n : ℕ) → mark_count (take k (marks_of (replicate n 0))) ≡ 0
none_counted zero n = refl
none_counted (suc k) zero = refl
none_counted (suc k) (suc n) = none_counted k n

-- The bytes that `child` writes hold the marks of the root alone
abbrev root_bytes : List ℕ
root_bytes = set (replicate 16384 0) 0 1

module _ (m : ℕ) (tree t : List ℕ) where
  root_placed_on : (rs : List (List ℕ)) → placed Append m tree (marks_of root_bytes) rs ≡ placed Append m tree root_alone rs
  unfolding insert_behind
  root_placed_on [] = refl
  root_placed_on (r ∷ rs) =
      let y : List ℕ → List (List ℕ) = λ x. raise (suc (level x)) (chunks m tree) in
      ap (λ (u : List (List ℕ)). r ∷ put_behind level (level r) (y r) u) (none-behind y 16383 rs ∙ sym (none-behind y 0 rs))

  pub root_placed : placed Append m tree (marks_of root_bytes) (records t) ≡ placed Append m tree root_alone (records t)
  root_placed = root_placed_on (records t)

  root_deep_on : (d : ℕ) (rs : List (List ℕ)) → too_deep d (marks_of root_bytes) rs ≡ too_deep d root_alone rs
  unfolding too_deep
  root_deep_on d [] = refl
  root_deep_on d (r ∷ rs) = ap (λ b. ltb 11 (level r + d) || b) (none_deep d 16383 rs ∙ sym (none_deep d 0 rs))

  pub root_deep : too_deep (lower Append + deepest (chunks m tree)) (marks_of root_bytes) (records t) ≡ too_deep (lower Append + deepest (chunks m tree)) root_alone (records t)
  root_deep = root_deep_on (lower Append + deepest (chunks m tree)) (records t)

  root_counted : (k : ℕ) → mark_count (take k (marks_of root_bytes)) ≡ mark_count (take k root_alone)
  root_counted zero = refl
  root_counted (suc k) = ap suc (none_counted k 16383 ∙ sym (none_counted k 0))

  pub root_fits : has_room t (marks_of root_bytes) m ≡ has_room t root_alone m
  root_fits = ap (λ n. leb (n * m) (free t)) (root_counted (count t))

  pub root_checks_lem : insert_checks Append (marks_of root_bytes) m tree t ≡ insert_checks Append root_alone m tree t
  root_checks_lem = ap₂ (λ a b. check level_too_deep a ∷ check table_full (not b) ∷ []) root_deep root_fits

-- "last child of the root": what is inserted behind the root and all below it stands at the end.
put_last : (n : ℕ) (y rs : List (List ℕ)) → records_ok 1 n rs ≡ true → put_behind level 0 y rs ≡ rs ++ y
unfolding put_behind records_ok
put_last n y [] e = refl
put_last n y (r ∷ rs) e =
    let f = both (record_ok 1 n r) (records_ok 1 (level r + 1) rs) e in
    let g : ltb 0 (level r) ≡ true = lt-ltb 0 (level r) (omega (arith, (loosen 1 n r f.0).0)) in
    rw g (ap (λ (u : List (List ℕ)). r ∷ u) (put_last (level r + 1) y rs f.1))

behind_root : (k : ℕ) (tree : List ℕ) (rs : List (List ℕ)) → 1 ≤ length rs → records_ok 0 0 rs ≡ true
    → placed Append k tree root_alone rs ≡ rs ++ raise 1 (chunks k tree)
unfolding insert_behind records_ok
behind_root k tree [] h e = absurd (omega arith)
behind_root k tree (r ∷ rs) h e =
    let f = both (record_ok 0 0 r) (records_ok 1 (level r + 1) rs) e in
    let z : level r ≡ 0 = omega (arith, (loosen 0 0 r f.0).1) in
    rw (none-behind (λ x. raise (suc (level x)) (chunks k tree)) 0 rs, z) (ap (λ (u : List (List ℕ)). r ∷ u) (put_last (level r + 1) (raise 1 (chunks k tree)) rs f.1))

pub child_last : (t tree : List ℕ) (m : ℕ) → table_ok t ≡ true → 1 ≤ count t → placed Append m tree root_alone (records t) ≡ records t ++ raise 1 (chunks m tree)
child_last t tree m ok h = behind_root m tree (records t) (omega (arith, h, length-records t)) (facts t ok).nested
