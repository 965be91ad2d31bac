-- What a view is like: the numbers of its nodes give its levels and labels, it is a tree, and every number is that of a record. Assumes nothing.
use Prim.Native.Nat.{ℕ, zero, suc, ◌+◌, ◌%◌, ◌≤◌, ◌<◌, min}
use mathlib.Core.Bool.{Bool, true, false, cond}
use mathlib.Core.Path.{◌≡◌, refl, ap₂, ◌∙◌}
use mathlib.Core.List.{List, [], ◌∷◌, map}
use native.Mathlib.Nat.{mod-eq_of_lt, add-mod_right}
use native.Mathlib.Omega.{arith}
use borrow.Author.Tests.{leb-true, le-leb, lt-leb}
use lib.Dec.{leb}
use lib.ListN.{length, get_or, length-map}
use Rattle.rights.specs.Marks.{keep}
use Rattle.rights.specs.Labels.{restricted}
use Rattle.rights.specs.Table.{record_at, records_from, records, level, label, day_ok, record_ok, records_ok, table_ok, count}
use Rattle.rights.specs.Policy.{read}
use Rattle.rights.specs.How.Places.{Text}
use Rattle.rights.specs.Rights.{holds}
use Rattle.rights.specs.Nodes.{node, Nodes, TreeShaped}
use Rattle.rights.specs.Held.{node_in, stored_nodes}
use Rattle.rights.specs.How.Numbers.{record_place, seen, view_of, Fits}
use Rattle.rights.proofs.TableLaws.{both, record_levels, record_parts, spare_year}
use Rattle.rights.proofs.ListLaws.{by_case}
use Rattle.rights.proofs.TreeShapeLaws.{Linked, linked_nested, nothing_nested}
use Rattle.views.specs.Shown.{Stored, stored_from, stored, stored_level, grants, in_window, showable, shown, carried, view}
use Rattle.views.specs.Nodes.{All}
use Rattle.views.specs.How.Numbers.{is_shown_at, shown_from, shown_number, shown_numbers}
use Rattle.views.proofs.StoredLaws.{record_text, table_by_depth}
use Rattle.views.proofs.TableLaws.{facts}

-- Numbers of records

pub number_mod : (x : Stored) → x.number < 16384 → shown_number x % 16384 ≡ x.number
number_mod x h =
    by_case (holds read x.rights)
    (λ e. rw e (mod-eq_of_lt h))
    (λ e. rw e (add-mod_right x.number 16384 ∙ mod-eq_of_lt h))

number_hidden : (x : Stored) → x.number < 16384 → cond (leb 16384 (shown_number x)) restricted (label x.bytes) ≡ carried x
number_hidden x h =
    by_case (holds read x.rights)
    (λ e. rw (e, lt-leb 16384 x.number h))
    (λ e. rw (e, le-leb 16384 (x.number + 16384) (omega arith)))

-- a shown node by its number is what the view has of it
seen-number : (t : List ℕ) (x : Stored) → x.number < 16384 → x.bytes ≡ record_at t x.number → seen t (shown_number x) ≡ node (stored_level x) (carried x)
unfolding seen record_place
seen-number t x h e = rw (number_mod x h, ← e, number_hidden x h)

-- a test that passes at every element
pub all_keep : {A : Type 0} (P : A → Type 0) (bs : List Bool) (xs : List A) → All P xs → All P (keep bs xs)
unfolding keep
all_keep P [] xs p = tt
all_keep P (b ∷ bs) [] p = tt
all_keep P (true ∷ bs) (x ∷ xs) p = (p.0, all_keep P bs xs p.1)
all_keep P (false ∷ bs) (x ∷ xs) p = all_keep P bs xs p.1

pub all_map : {A B : Type 0} (P : A → Type 0) (Q : B → Type 0) (f : A → B) → ((x : A) → P x → Q (f x)) → (xs : List A) → All P xs → All Q (map f xs)
all_map P Q f g [] p = tt
all_map P Q f g (x ∷ xs) p = (g x p.0, all_map P Q f g xs p.1)

map_same : {A B C : Type 0} (P : A → Type 0) (f : B → C) (g : A → B) (h : A → C) → ((x : A) → P x → f (g x) ≡ h x) → (xs : List A) → All P xs → map f (map g xs) ≡ map h xs
map_same P f g h e [] p = refl
map_same P f g h e (x ∷ xs) p = ap₂ ◌∷◌ (e x p.0) (map_same P f g h e xs p.1)

pub all_at : (P : ℕ → Type 0) (xs : List ℕ) (i : ℕ) → All P xs → i < length xs → P (get_or xs i 0)
all_at P [] i p h = absurd (omega arith)
all_at P (x ∷ xs) zero p h = p.0
all_at P (x ∷ xs) (suc i) p h = all_at P xs i p.1 (omega arith)

-- a node of the table t, whose records are n
abbrev Own : List ℕ → ℕ → Stored → Type 0
Own t n x = (x.number < n) × (x.bytes ≡ record_at t x.number)

own : (day : ℕ) (t : List ℕ) (n i m : ℕ) (ss : List ℕ) → i + n ≤ m → All (Own t m) (stored_from day i (records_from t n i) ss)
unfolding stored_from records_from
own day t zero i m ss h = tt
own day t (suc n) i m [] h = tt
own day t (suc n) i m (s ∷ ss) h = ((omega arith, refl), own day t n (suc i) m ss (omega arith))

module _ (day : ℕ) (t ss : List ℕ) (ok : table_ok t ≡ true) where
  shown-own : All (Own t (count t)) (keep (shown (stored day t ss)) (stored day t ss))
  shown-own = all_keep (Own t (count t)) (shown (stored day t ss)) (stored day t ss) (own day t (count t) 0 (count t) ss (omega arith))

  -- the numbers give the view
  pub view_by_numbers : view_of t (shown_numbers (stored day t ss)) ≡ view (stored day t ss)
  unfolding view_of
  view_by_numbers =
      map_same (Own t (count t)) (seen t) shown_number (λ x. node (stored_level x) (carried x))
      (λ x p. let g = facts t ok in seen-number t x (omega (arith, g.few, p.0)) p.1)
      (keep (shown (stored day t ss)) (stored day t ss)) shown-own

  -- every number is that of a record
  pub numbers_below : (j : ℕ) → j < length (shown_numbers (stored day t ss)) → get_or (shown_numbers (stored day t ss)) j 0 % 16384 < count t
  numbers_below j h =
      all_at (λ m. m % 16384 < count t) (shown_numbers (stored day t ss)) j
      (all_map (Own t (count t)) (λ m. m % 16384 < count t) shown_number
      (λ x p. let g = facts t ok in rw (number_mod x (omega (arith, g.few, p.0))) p.0)
      (keep (shown (stored day t ss)) (stored day t ss)) shown-own)
      h

-- A view is a tree

-- what is shown of these nodes, below a shown chain of depth d
abbrev view_from : ℕ → List Stored → Nodes
view_from d xs = map (λ x. node (stored_level x) (carried x)) (keep (shown_from stored_level showable d xs) xs)

levels : (low high : ℕ) (r : List ℕ) (rs : List (List ℕ)) → records_ok low high (r ∷ rs) ≡ true → (low ≤ level r) × (level r ≤ high) × (records_ok 1 (level r + 1) rs ≡ true)
unfolding records_ok
levels low high r rs e =
    let w = both (record_ok low high r) (records_ok 1 (level r + 1) rs) e in
    let f = record_levels low high r w.0 in
    (f.0, f.1, w.1)

linked_from : (l d high day i : ℕ) (rs : List (List ℕ)) (ss : List ℕ) → d ≤ suc l → records_ok 1 high rs ≡ true → Linked l (view_from d (stored_from day i rs ss))
unfolding stored_from shown_from keep
linked_from l d high day i [] ss h e = tt
linked_from l d high day i (r ∷ rs) [] h e = tt
linked_from l d high day i (r ∷ rs) (s ∷ ss) h e =
    let w = levels 1 high r rs e in
    let x : Stored = record { number = i; bytes = r; rights = s; day = day } in
    by_case (is_shown_at stored_level showable d x)
    (λ q. let k : level r ≤ d = leb-true _ _ (both (showable x) (leb (level r) d) q).1 in
    rw q (w.0, omega arith, linked_from (level r) (level r + 1) (level r + 1) day (suc i) rs ss (omega arith) w.2))
    (λ q. rw q (linked_from l (min d (level r)) (level r + 1) day (suc i) rs ss (omega arith) w.2))

-- below a hidden root nothing is shown
hidden_root : (high day i : ℕ) (rs : List (List ℕ)) (ss : List ℕ) → records_ok 1 high rs ≡ true → view_from 0 (stored_from day i rs ss) ≡ []
unfolding stored_from shown_from keep
hidden_root high day i [] ss e = refl
hidden_root high day i (r ∷ rs) [] e = refl
hidden_root high day i (r ∷ rs) (s ∷ ss) e =
    let w = levels 1 high r rs e in
    let x : Stored = record { number = i; bytes = r; rights = s; day = day } in
    let z : min 0 (level r) ≡ 0 = omega arith in
    by_case (is_shown_at stored_level showable 0 x)
    (λ q. let k : level r ≤ 0 = leb-true _ _ (both (showable x) (leb (level r) 0) q).1 in absurd (omega arith))
    (λ q. rw (q, z) (hidden_root (level r + 1) day (suc i) rs ss w.2))

nested_from : (day i : ℕ) (rs : List (List ℕ)) (ss : List ℕ) → records_ok 0 0 rs ≡ true → TreeShaped (view_from 0 (stored_from day i rs ss))
unfolding stored_from shown_from keep
nested_from day i [] ss e = nothing_nested
nested_from day i (r ∷ rs) [] e = nothing_nested
nested_from day i (r ∷ rs) (s ∷ ss) e =
    let w = levels 0 0 r rs e in
    let x : Stored = record { number = i; bytes = r; rights = s; day = day } in
    let z : min 0 (level r) ≡ 0 = omega arith in
    by_case (is_shown_at stored_level showable 0 x)
    (λ q. rw q (linked_nested (node (level r) (carried x)) (view_from (level r + 1) (stored_from day (suc i) rs ss)) (omega arith) (linked_from (level r) (level r + 1) (level r + 1) day (suc i) rs ss (omega arith) w.2)))
    (λ q. rw (q, z, hidden_root (level r + 1) day (suc i) rs ss w.2) nothing_nested)

-- the view of a table is a tree, or nothing
pub view-nested : (day : ℕ) (t ss : List ℕ) → table_ok t ≡ true → TreeShaped (view (stored day t ss))
view-nested day t ss ok = rw (table_by_depth day t ss ok) (nested_from day 0 (records t) ss (facts t ok).nested)

-- nothing, if the root is hidden: "the user has read or position on it and its parent is shown (the root's counts as shown)"
hidden_from : (day i : ℕ) (rs : List (List ℕ)) (ss : List ℕ) → records_ok 0 0 rs ≡ true → grants (get_or ss 0 0) ≡ false → view_from 0 (stored_from day i rs ss) ≡ []
unfolding stored_from shown_from keep
hidden_from day i [] ss e h = refl
hidden_from day i (r ∷ rs) [] e h = refl
hidden_from day i (r ∷ rs) (s ∷ ss) e h = let z : min 0 (level r) ≡ 0 = omega arith in rw (h, z) (hidden_root (level r + 1) day (suc i) rs ss (levels 0 0 r rs e).2)

pub view_hidden : (day : ℕ) (t ss : List ℕ) → table_ok t ≡ true → grants (get_or ss 0 0) ≡ false → view (stored day t ss) ≡ []
view_hidden day t ss ok h = rw (table_by_depth day t ss ok) (hidden_from day 0 (records t) ss (facts t ok).nested h)

-- and something otherwise, on every day of the year: the root's window is the whole year
root_dated : (day : ℕ) (r : List ℕ) → record_ok 0 0 r ≡ true → day_ok day ≡ true → in_window day r ≡ true
root_dated day r e h =
    let y = spare_year r (record_parts 0 0 r e).1 (omega (arith, (record_levels 0 0 r e).1)) in
    let d = both (leb 1 day) (leb day 366) h in
    rw (y.0, y.1, d.0, d.1)

shown_from_lem : (day i : ℕ) (rs : List (List ℕ)) (ss : List ℕ) → records_ok 0 0 rs ≡ true → day_ok day ≡ true → 0 < length rs → 0 < length ss → grants (get_or ss 0 0) ≡ true
    → 0 < length (view_from 0 (stored_from day i rs ss))
unfolding stored_from shown_from keep records_ok
shown_from_lem day i [] ss e d h k g = absurd (omega arith)
shown_from_lem day i (r ∷ rs) [] e d h k g = absurd (omega arith)
shown_from_lem day i (r ∷ rs) (s ∷ ss) e d h k g =
    let w = (both (record_ok 0 0 r) (records_ok 1 (level r + 1) rs) e).0 in
    rw (g, root_dated day r w d, le-leb (level r) 0 (levels 0 0 r rs e).1) (omega arith)

pub view_rooted : (day : ℕ) (t ss : List ℕ) → table_ok t ≡ true → day_ok day ≡ true → 0 < length (records t) → 0 < length ss → grants (get_or ss 0 0) ≡ true
    → 0 < length (view (stored day t ss))
view_rooted day t ss ok d h k g = rw (table_by_depth day t ss ok) (shown_from_lem day 0 (records t) ss (facts t ok).nested d h k g)

-- and so is the stored tree
linked_stored : (l high : ℕ) (rs : List (List ℕ)) → high ≤ suc l → records_ok 1 high rs ≡ true → Linked l (map node_in rs)
linked_stored l high [] h e = tt
linked_stored l high (r ∷ rs) h e =
    let w = levels 1 high r rs e in
    (w.0, omega arith, linked_stored (level r) (level r + 1) rs (omega arith) w.2)

nested-stored : (rs : List (List ℕ)) → records_ok 0 0 rs ≡ true → TreeShaped (map node_in rs)
nested-stored [] e = nothing_nested
nested-stored (r ∷ rs) e =
    let w = levels 0 0 r rs e in
    linked_nested (node_in r) (map node_in rs) (omega (arith, w.1)) (linked_stored (level r) (level r + 1) rs (omega arith) w.2)

pub stored-nested : (t : List ℕ) → table_ok t ≡ true → TreeShaped (stored_nodes t)
stored-nested t ok = nested-stored (records t) (facts t ok).nested

-- What the passes of a selection ask of the numbers

pub keep-length : {A : Type 0} (bs : List Bool) (xs : List A) → length (keep bs xs) ≤ length xs
unfolding keep
keep-length [] xs = omega arith
keep-length (b ∷ bs) [] = omega arith
keep-length (true ∷ bs) (x ∷ xs) = let h = keep-length bs xs in omega arith
keep-length (false ∷ bs) (x ∷ xs) = let h = keep-length bs xs in omega arith

stored-length : (day : ℕ) (t : List ℕ) (n i : ℕ) (ss : List ℕ) → length (stored_from day i (records_from t n i) ss) ≤ n
unfolding stored_from records_from
stored-length day t zero i ss = omega arith
stored-length day t (suc n) i [] = omega arith
stored-length day t (suc n) i (s ∷ ss) = let h = stored-length day t n (suc i) ss in omega arith

module _ (day : ℕ) (t ss : List ℕ) (ok : table_ok t ≡ true) where
  -- no more nodes are shown than there are
  pub shown_few : length (shown_numbers (stored day t ss)) ≤ count t
  shown_few =
      omega (
        arith,
        length-map (keep (shown (stored day t ss)) (stored day t ss)) shown_number,
        keep-length (shown (stored day t ss)) (stored day t ss),
        stored-length day t (count t) 0 ss,
      )

  record_fits : (m : ℕ) → m % 16384 < count t → Text t (record_place m) × (get_or t (record_place m) 0 < 12)
  unfolding record_place
  record_fits m h = record_text t ok (m % 16384) h

  pub view_fits : Fits t (shown_numbers (stored day t ss))
  view_fits =
      record {
        few = (let g = facts t ok in omega (arith, g.few, shown_few));
        stands = λ i h. (record_fits _ (numbers_below day t ss ok i h)).0;
        low = λ i h. (record_fits _ (numbers_below day t ss ok i h)).1;
      }
