-- Each form's effect is sound where the form stands in its stage, its parts are what was read, and its checks pass. Assumes nothing.
use Rattle.std.specs.Prelude.{Option}
use Rattle.std.specs.Prelude as found
use Prim.Native.Nat.{ℕ, zero, suc, ◌+◌, ◌≤◌, ◌<◌}
use mathlib.Core.Path.{◌≡◌, refl, sym, ap, ◌∙◌}
use mathlib.Core.Bool.{Bool, true, false, not, ◌&&◌, beq, and-false, false≢true, true≢false}
use mathlib.Core.List.{List, [], ◌∷◌}
use native.Mathlib.Omega.{arith}
use borrow.Author.Tests.{eq-eqb, ne_eqb, leb-true, leb-false, not-true, not-false}
use lib.Dec.{leb, ltb, eqb}
use lib.ListN.{length, get_or, drop}
use Rattle.rights.specs.Labels.{same_label, restricted}
use Rattle.rights.specs.Path.{Path}
use Rattle.rights.specs.PathReader.{Got, got, bad, path_of}
use Rattle.rights.specs.Policy.{Policy, Right, bit_of, policy_word, read, update}
use Rattle.rights.specs.PolicyBytes.{subject_count, isa_count, rule_count, subject_at, isa_at}
use Rattle.rights.specs.PolicyCheck.{bit_ok}
use Rattle.rights.specs.Record.{name_record}
use Rattle.rights.specs.Rights.{holds}
use Rattle.rights.specs.Table.{count, records, records_from, record_at, record_ok, records_ok, level, day_ok, window_ok, table_ok}
use Rattle.rights.proofs.TableLaws.{both, sound}
use Rattle.rights.proofs.RecordOfLaws.{length_name}
use Rattle.rights.proofs.XPathLists.{or_right}
use Rattle.views.specs.Change.{lower, has_room}
use Rattle.views.specs.Done.{Asked, is_root, renamable, does, asked_of}
use Rattle.rights.specs.Marks.{bit, each_from}
use Rattle.rights.specs.Nodes.{Node}
use Rattle.views.specs.Nodes.{All}
use Rattle.views.specs.How.Pass.{AtDone}
use Rattle.views.specs.declared.done.Change.{Change}
use Rattle.views.specs.declared.done.Change.TheVariants as change
use Rattle.views.specs.declared.insert.Place.{Place}
use Rattle.views.specs.declared.insert.Place.TheVariants as place
use Rattle.views.proofs.TableLaws.{facts}
use Rattle.views.proofs.TableKept.{loosen, records-kept}
use Rattle.forms.specs.declared.layout.Word.TheVariants as word
use Rattle.forms.specs.Tree.{records_of}
use Rattle.forms.specs.TreeText.{GoodLabel}
use Rattle.forms.specs.Command.{command, form_of}
use Rattle.lines.specs.PolicyEdit.{subject_named, has_bracket, Plain, steps_in, with_subject, with_isa, with_rule, is_unknown, number_in}
use Rattle.lines.specs.State.{stage_d, stage, policy_bytes, policy_in, store_ok}
use Rattle.lines.specs.Refusal.{Passed}
use Rattle.views.specs.Shown.{shown}
use Rattle.lines.specs.UserView.{rights_in, stored_in, not_path, selected_in, done_in}
use Rattle.lines.specs.Work.{tree_restricted, root_alone, change_at, insert_checks, work_subject, work_isa, work_rule, work_root, work_child, work_user, work_rename, work_insert, work_day, work_window}
use Rattle.lines.proofs.EditBytes.{line_byte_lem}
use Rattle.rights.proofs.PolicyPartLaws.{parts}
use Rattle.lines.proofs.EditTests.{unknown_new, found_subject}
use Rattle.lines.proofs.PolicyEdits.{subject_keeps, isa_keeps, rule_keeps}
use Rattle.rights.proofs.HeldPolicyLaws.{right_bit_lem}
use Rattle.lines.proofs.StateLaws.{Held, store_held}
use Rattle.lines.proofs.StoredPaths.{plain}
use Rattle.lines.proofs.StoredSteps.{or-none}
use Rattle.store.specs.Line.{in_stage}
use Rattle.store.proofs.FormParts.{TreePart}
use Rattle.store.proofs.TreeNodesLaws.{label-ok}
use Rattle.guarantee.proofs.Sound.{NoWord, Whole, PolicySound, RootSound, InsertSound, RenameSound, RemoveSound, RedateSound, LoginSound, DaySound}
use Rattle.guarantee.proofs.TreeRecords.{tree_ok}

-- The stages in which a form is taken

pub stage_reached : (k g : ℕ) → in_stage k g ≡ true → g ≤ k
stage_reached k g e = leb-true g k (both (leb g k) (beq (ltb 2 k) (leb 2 g)) e).0

pub agree : (a b : Bool) → beq a b ≡ true → b ≡ a
agree true true e = refl
agree true false e = absurd (false≢true e)
agree false true e = absurd (false≢true e)
agree false false e = refl

pub before_root : (g : ℕ) → in_stage 2 g ≡ true → g < 2
before_root g e = leb-false 2 g (agree false (leb 2 g) (both (leb g 2) (beq (ltb 2 2) (leb 2 g)) e).1)

-- the stages behind C are reached with a root
pub behind_root : (k g : ℕ) → ltb 2 k ≡ true → in_stage k g ≡ true → 2 ≤ g
behind_root k g b e = leb-true 2 g (agree (ltb 2 k) (leb 2 g) (both (leb g k) (beq (ltb 2 k) (leb 2 g)) e).1 ∙ b)

-- What a check that passed says

unknown : (f : Option ℕ) → not (is_unknown f) ≡ false → f ≡ found.None
unknown (found.Some u) e = absurd (true≢false e)
unknown found.None e = refl

known : (f : Option ℕ) → is_unknown f ≡ false → f ≡ found.Some (number_in f)
known (found.Some u) e = refl
known found.None e = absurd (true≢false e)

path_plain : (path : List ℕ) → not_path (path_of path) ≡ false → has_bracket path ≡ false → Plain path
path_plain path e b = go (path_of path) refl e
  where
    go : (g : Got Path) → path_of path ≡ g → not_path g ≡ false → Plain path
    go (got q i) w k = plain path i (rw w) b
    go bad w k = absurd (true≢false k)

accept_small : (a : Bool) → bit a ≤ 1
accept_small true = omega arith
accept_small false = omega arith

-- The nodes that a change does

-- a change that leaves the root alone
abbrev Spares : Change → Type 0
Spares c = (a : Asked) → is_root a ≡ true → does c a ≡ false

spares_remove : Spares change.Remove
spares_remove a e = simp (e, and-false)

spares_window : Spares change.Window
spares_window a e = simp (e, and-false)

spares_beside : (at : Place) → lower at ≡ 0 → Spares (change_at at)
spares_beside place.Append h a e = absurd (omega (arith, h))
spares_beside place.After h a e = simp (e, and-false)
spares_beside place.Before h a e = simp (e, and-false)

first_level : (t : List ℕ) (n : ℕ) → records_ok 0 0 (records_from t n 0) ≡ true → 1 ≤ n → level (record_at t 0) ≡ 0
unfolding records_from records_ok
first_level t zero e h = absurd (omega arith)
first_level t (suc n) e h =
    let f = both (record_ok 0 0 (record_at t 0)) (records_ok 1 (level (record_at t 0) + 1) (records_from t n 1)) e in
    omega (arith, (loosen 0 0 (record_at t 0) f.0).1)

first_each : (f : ℕ → Bool) (n : ℕ) → (1 ≤ n → f 0 ≡ false) → get_or (each_from f 0 n) 0 false ≡ false
unfolding each_from
first_each f zero h = refl
first_each f (suc n) h = h (omega arith)

root_spared : (c : Change) → Spares c → (s t path : List ℕ) → table_ok t ≡ true → get_or (done_in c s t path) 0 false ≡ false
root_spared c h s t path ok =
    let asked : ℕ → Asked = asked_of (policy_word (policy_in s)) t (rights_in s t) (shown (stored_in s t)) (selected_in s t path) in
    first_each (λ i. does c (asked i)) (count t)
    (λ k. h (asked 0) (eq-eqb (level (record_at t 0)) 0 (first_level t (count t) (facts t ok).nested k)))

-- what a rename or an update does has no policy word as its label
abbrev pub Frees : Change → Type 0
Frees c = (a : Asked) → does c a ≡ true → a.word ≡ false

renamable-free : (a : Asked) → renamable a ≡ true → a.word ≡ false
renamable-free a e =
    let f = both (holds read a.rights) (holds update a.rights && not a.word) e in
    not-true a.word (both (holds update a.rights) (not a.word) f.1).1

pub rename_frees : Frees change.Rename
rename_frees a e = renamable-free a (both a.selected (renamable a) e).1

pub update_frees : Frees change.Update
update_frees a e = renamable-free a (both (a.shown && a.parent_selected) (renamable a) e).1

each_free : (c : Change) → Frees c → (P : Policy) (t ss : List ℕ) (bs ms : List Bool) (n i : ℕ)
    → AtDone (NoWord P) (each_from (λ k. does c (asked_of (policy_word P) t ss bs ms k)) i n) (records_from t n i)
unfolding each_from records_from
each_free c r P t ss bs ms zero i = tt
each_free c r P t ss bs ms (suc n) i = ((λ d. r (asked_of (policy_word P) t ss bs ms i) d), each_free c r P t ss bs ms n (suc i))

done_free : (c : Change) → Frees c → (s t path : List ℕ) → AtDone (NoWord (policy_in s)) (done_in c s t path) (records t)
done_free c r s t path = each_free c r (policy_in s) t (rights_in s t) (shown (stored_in s t)) (selected_in s t path) (count t) 0

-- each record of a table is whole
all_whole : (low high : ℕ) (rs : List (List ℕ)) → records_ok low high rs ≡ true → All (λ r. length r ≡ 32) rs → All Whole rs
unfolding records_ok
all_whole low high [] e a = tt
all_whole low high (r ∷ rs) e a =
    let f = both (record_ok low high r) (records_ok 1 (level r + 1) rs) e in
    ((a.0, (sound low high r f.0).short_label), all_whole 1 (level r + 1) rs f.1 a.1)

records_whole : (t : List ℕ) → table_ok t ≡ true → All Whole (records t)
records_whole t ok = let k = records-kept t ok in all_whole 0 0 (records t) k.0 k.1

all_done : (Q : List ℕ → Type 0) (ms : List Bool) (rs : List (List ℕ)) → All Q rs → AtDone Q ms rs
all_done Q ms [] a = tt
all_done Q ms (r ∷ rs) a = ((λ e. a.0), all_done Q (drop 1 ms) rs a.1)

-- Each form

module _ (s t : List ℕ) (ok : store_ok s t ≡ true) where
  abbrev bytes : List ℕ
  bytes = policy_bytes s

  abbrev named : List ℕ → Option ℕ
  named x = subject_named (policy_in s) x

  held : Held s t
  held = store_held s t ok

  pub subject_sound : (name : List ℕ) → in_stage 0 (stage s) ≡ true → GoodLabel name → Passed (work_subject s name).checks
      → PolicySound s (with_subject bytes name) (stage s)
  subject_sound name i g p =
      let few : subject_count bytes < 64 = leb-false 64 (subject_count bytes) p.1.0 in
      let r : rule_count (with_subject bytes name) ≡ rule_count bytes =
      line_byte_lem bytes (name_record 0 name) 0 (subject_at (subject_count bytes)) (omega arith) (omega (arith, few, length_name 0 name g.1, (parts bytes held.policy).long)) 2
      (λ e. omega arith) (omega arith) in
      let l = stage_reached 0 (stage s) i in
      record {
        early = omega (arith, l);
        before_root = omega (arith, l);
        ok = subject_keeps bytes name held.policy few g.1 g.0 g.2 p.1.1.0 (unknown_new (policy_in s) name (unknown (named name) p.0));
        rules = rw r held.rules;
      }

  pub isa_sound : (member role : List ℕ) → in_stage 0 (stage s) ≡ true → Passed (work_isa s member role).checks
      → PolicySound s (with_isa bytes (number_in (named member)) (number_in (named role))) (stage s)
  isa_sound member role i p =
      let n : ℕ = number_in (named member) in
      let r : ℕ = number_in (named role) in
      let few : isa_count bytes < 128 = leb-false 128 (isa_count bytes) p.1.1.1.1.0 in
      let q : rule_count (with_isa bytes n r) ≡ rule_count bytes =
      line_byte_lem bytes (n ∷ r ∷ []) 1 (isa_at (isa_count bytes)) (omega arith) (omega (arith, few, (parts bytes held.policy).long)) 2 (λ e. omega arith) (omega arith) in
      let l = stage_reached 0 (stage s) i in
      record {
        early = omega (arith, l);
        before_root = omega (arith, l);
        ok =
            isa_keeps bytes n r held.policy few (leb-false n r p.1.1.0) (found_subject bytes member n held.policy (known (named member) p.0)).declared p.1.1.1.0;
        rules = rw q held.rules;
      }

  pub rule_sound : (a : Bool) (b : ℕ) (path name : List ℕ) → in_stage 1 (stage s) ≡ true → (r : Right) → b ≡ bit_of r → Passed (work_rule s (bit a) b path name).checks
      → PolicySound s (with_rule bytes (bit a) b (number_in (named name)) (steps_in path)) 1
  rule_sound a b path name i r e p =
      let u : ℕ = number_in (named name) in
      let l = stage_reached 1 (stage s) i in
      record {
        early = omega (arith, l);
        before_root = omega arith;
        ok =
            rule_keeps bytes (bit a) b u path held.policy (leb-false 128 (rule_count bytes) p.1.1.1.0) (path_plain path p.0 p.1.1.0) (accept_small a)
            (ap bit_ok e ∙ right_bit_lem r) (found_subject bytes name u held.policy (known (named name) p.1.0)).declared p.1.1.1.1.0;
        rules = or_right (eqb (rule_count (with_rule bytes (bit a) b u (steps_in path))) 0) true refl;
      }

  pub root_sound : (l : List ℕ) → in_stage 2 (stage s) ≡ true → GoodLabel l → Passed (work_root t l).checks → RootSound s t l
  root_sound l i g p = record { early = before_root (stage s) i; label = label-ok l g p.0; has_room = p.1.0 }

  -- an insertion into the stage g
  inserted : (line : List ℕ) (at : Place) (ms : List Bool) (ns : List Node) (g : ℕ) → 2 ≤ stage s → 2 ≤ g → g ≤ 4 → eqb g 4 ≡ eqb (stage s) 4 → TreePart line ns
      → (lower at ≡ 0 → get_or ms 0 false ≡ false) → tree_restricted (length ns) (records_of ns) ≡ false
      → Passed (insert_checks at ms (length ns) (records_of ns) t) → InsertSound s t at ms (length ns) (records_of ns) g
  inserted line at ms ns g l k n e w q r p = record {
    rooted = l;
    behind_root = k;
    stages = n;
    session = e;
    good = tree_ok line ns w r;
    shallow = p.0;
    has_room = not-false (has_room t ms (length ns)) p.1.0;
    spared = q;
  }

  pub child_sound : (line : List ℕ) (ns : List Node) → in_stage 3 (stage s) ≡ true → TreePart line ns → Passed (work_child t (length ns) (records_of ns)).checks
      → InsertSound s t place.Append root_alone (length ns) (records_of ns) stage_d
  child_sound line ns i w p =
      let l = stage_reached 3 (stage s) i in
      inserted line place.Append root_alone ns 3 (behind_root 3 (stage s) refl i) (omega arith) (omega arith) (sym (ne_eqb (stage s) 4 (λ e. omega (arith, l, e)))) w
      (λ e. absurd (omega (arith, e))) p.0 p.1

  pub user_sound : (n : List ℕ) → in_stage 4 (stage s) ≡ true → Passed (work_user s n).checks → LoginSound (form_of (command word.User (n, tt))) s (number_in (named n))
  user_sound n i p = record { name = n; form = refl; named = known (named n) p.0; rooted = behind_root 4 (stage s) refl i }

  pub rename_sound : (c : Change) (path l : List ℕ) → in_stage 4 (stage s) ≡ true → Frees c → GoodLabel l → Passed (work_rename c s t path l).checks
      → RenameSound s t l (done_in c s t path)
  rename_sound c path l i f g p =
      let n = or-none (same_label l restricted) (policy_word (policy_in s) l) p.1.1.0 in
      record { rooted = behind_root 4 (stage s) refl i; label = label-ok l g n.0; no_word = n.1; no_words = done_free c f s t path }

  pub insert_sound : (line : List ℕ) (at : Place) (path : List ℕ) (ns : List Node) → in_stage 4 (stage s) ≡ true → TreePart line ns
      → Passed (work_insert at s t path (length ns) (records_of ns)).checks
      → InsertSound s t at (done_in (change_at at) s t path) (length ns) (records_of ns) (stage s)
  insert_sound line at path ns i w p =
      let k = behind_root 4 (stage s) refl i in
      inserted line at (done_in (change_at at) s t path) ns (stage s) k k held.stages refl w
      (λ e. root_spared (change_at at) (spares_beside at e) s t path held.table) p.1.1.0 p.1.1.1

  pub day_sound : (d : ℕ) → in_stage 4 (stage s) ≡ true → Passed (work_day d).checks → DaySound s d
  day_sound d i p = record { rooted = behind_root 4 (stage s) refl i; day = not-false (day_ok d) p.0 }

  pub window_sound : (p : List ℕ) (f l : ℕ) → in_stage 4 (stage s) ≡ true → Passed (work_window s t p f l).checks → RedateSound s t f l (done_in change.Window s t p)
  window_sound p f l i q = record {
    rooted = behind_root 4 (stage s) refl i;
    window = not-false (window_ok f l) q.1.1.0;
    spared = root_spared change.Window spares_window s t p held.table;
    whole = all_done Whole (done_in change.Window s t p) (records t) (records_whole t held.table);
  }

  pub remove_sound : (p : List ℕ) → in_stage 4 (stage s) ≡ true → RemoveSound (form_of (command word.Remove (p, tt))) s t (done_in change.Remove s t p)
  remove_sound p i = record {
    path = p;
    form = refl;
    rooted = behind_root 4 (stage s) refl i;
    spared = root_spared change.Remove spares_remove s t p held.table;
  }
