-- What is selected and done, node by node. Assumes nothing.
use Prim.Native.Nat.{ℕ, zero, suc, ◌+◌, ◌%◌, ◌≤◌, ◌<◌}
use mathlib.Core.Bool.{Bool, true, false, and-eq-true_iff}
use mathlib.Core.Path.{◌≡◌, refl, sym, ap, ◌∙◌}
use mathlib.Core.List.{List, [], ◌∷◌, map}
use native.Mathlib.Omega.{arith}
use borrow.Author.Tests.{eq-eqb, ne_eqb, eqb-false, not-true}
use lib.ListN.{length, take, drop, get_or}
use Rattle.rights.specs.Marks.{mark_count, keep}
use Rattle.rights.specs.Policy.{read, update}
use Rattle.rights.specs.Rights.{holds}
use Rattle.rights.specs.Table.{record_at, level, records, count, table_ok}
use Rattle.views.specs.Shown.{Stored, stored_from, stored, stored_level, showable, is_shown, shown_after, shown}
use Rattle.views.specs.Nodes.{All}
use Rattle.views.specs.How.Numbers.{shown_number, shown_numbers, is_next, shown_by_numbers, by_numbers}
use Rattle.views.specs.Done.{does, asked_of, done_marks, in_table}
use Rattle.views.specs.declared.done.Change.{Change}
use Rattle.views.specs.declared.done.Change.TheVariants.{Window}
use Rattle.rights.proofs.MarkLaws.{each_at, each-length}
use Rattle.views.proofs.TableLaws.{facts}
use Rattle.views.proofs.TableKept.{length-records}
use Rattle.views.proofs.ViewLaws.{all_keep, all_map, number_mod}

-- Record i is done exactly if the change does a node with its level, rights and label, shown and selected as it is, under its parent.
pub done_at : (c : Change) (word : List ℕ → Bool) (t ss : List ℕ) (bs ms : List Bool) (i : ℕ) → i < count t
    → get_or (done_marks c word t ss bs ms) i false ≡ does c (asked_of word t ss bs ms i)
done_at c word t ss bs ms i h =
    let z : 0 + i ≡ i = omega arith in
    rw z at (each_at (λ k. does c (asked_of word t ss bs ms k)) false 0 (count t) i h)

-- "`(window P F T)` .. sets the window of each selected node on which the user has read and update; the root is not done."
pub window_done : (word : List ℕ → Bool) (t ss : List ℕ) (bs ms : List Bool) (i : ℕ) → i < count t → get_or (done_marks Window word t ss bs ms) i false ≡ true
    → (get_or ms i false ≡ true) × (holds read (get_or ss i 0) ≡ true) × (holds update (get_or ss i 0) ≡ true) × (1 ≤ level (record_at t i))
window_done word t ss bs ms i h e =
    let w = simp and-eq-true_iff at (sym (done_at Window word t ss bs ms i h) ∙ e) in
    (w.0, w.1.0, w.1.1.0, omega (arith, eqb-false (level (record_at t i)) 0 (not-true _ w.1.1.1)))

pub done_length : (c : Change) (word : List ℕ → Bool) (t ss : List ℕ) (bs ms : List Bool) → length (done_marks c word t ss bs ms) ≡ count t
done_length c word t ss bs ms = each-length (λ k. does c (asked_of word t ss bs ms k)) 0 (count t)

-- Selected records

-- "Paths of E run on the view": a selected record is shown
pub selected-shown : (bs ms : List Bool) (i : ℕ) → get_or (in_table bs ms) i false ≡ true → get_or bs i false ≡ true
unfolding in_table
selected-shown [] ms i e = e
selected-shown (true ∷ bs) ms zero e = refl
selected-shown (true ∷ bs) ms (suc i) e = selected-shown bs (drop 1 ms) i e
selected-shown (false ∷ bs) ms zero e = e
selected-shown (false ∷ bs) ms (suc i) e = selected-shown bs ms i e

-- the marks of the shown records, in document order, are those of the view's nodes
pub keep_in_table : (bs ms : List Bool) → mark_count bs ≤ length ms → keep bs (in_table bs ms) ≡ take (mark_count bs) ms
unfolding in_table keep
keep_in_table [] ms h = refl
keep_in_table (true ∷ bs) [] h = absurd (omega arith)
keep_in_table (true ∷ bs) (m ∷ ms) h = ap (λ l. m ∷ l) (keep_in_table bs ms (omega arith))
keep_in_table (false ∷ bs) ms h = keep_in_table bs ms h

-- "each counted once": as many records are selected as nodes of the view
pub count_in_table : (bs ms : List Bool) → mark_count bs ≤ length ms → mark_count (in_table bs ms) ≡ mark_count (take (mark_count bs) ms)
unfolding in_table
count_in_table [] ms h = refl
count_in_table (true ∷ bs) [] h = absurd (omega arith)
count_in_table (true ∷ bs) (true ∷ ms) h = ap suc (count_in_table bs ms (omega arith))
count_in_table (true ∷ bs) (false ∷ ms) h = count_in_table bs ms (omega arith)
count_in_table (false ∷ bs) ms h = count_in_table bs ms h

-- By numbers

not_next : (xs : List ℕ) (i : ℕ) → All (λ x. i < x % 16384) xs → is_next xs i ≡ false
not_next [] i p = refl
not_next (x ∷ xs) i p = ne_eqb (x % 16384) i (λ e. omega (arith, p.0))

-- the nodes from j on, of a table of less than 16384
abbrev From : ℕ → Stored → Type 0
From j x = (j ≤ x.number) × (x.number < 16384)

from : (day i j : ℕ) (rs : List (List ℕ)) (ss : List ℕ) → j ≤ i → i + length rs ≤ 16384 → All (From j) (stored_from day i rs ss)
unfolding stored_from
from day i j [] ss h k = tt
from day i j (r ∷ rs) [] h k = tt
from day i j (r ∷ rs) (s ∷ ss) h k = ((h, omega arith), from day (suc i) j rs ss (omega arith) (omega arith))

-- none of the nodes behind node i is node i
later_numbers : (bs : List Bool) (day i : ℕ) (rs : List (List ℕ)) (ss : List ℕ) → suc i + length rs ≤ 16384
    → is_next (map shown_number (keep bs (stored_from day (suc i) rs ss))) i ≡ false
later_numbers bs day i rs ss h =
    not_next (map shown_number (keep bs (stored_from day (suc i) rs ss))) i
    (all_map (From (suc i)) (λ x. i < x % 16384) shown_number (λ x p. rw (number_mod x p.1) p.0)
    (keep bs (stored_from day (suc i) rs ss))
    (all_keep (From (suc i)) bs (stored_from day (suc i) rs ss) (from day (suc i) (suc i) rs ss (omega arith) (omega arith))))

by_numbers_lem : (bs ms : List Bool) (day i : ℕ) (rs : List (List ℕ)) (ss : List ℕ) → length rs ≤ length ss → i + length rs ≤ 16384 → length bs ≡ length rs
    → by_numbers (map shown_number (keep bs (stored_from day i rs ss))) ms (length rs) i ≡ in_table bs ms
unfolding by_numbers in_table keep stored_from
by_numbers_lem [] ms day i [] ss a b e = refl
by_numbers_lem [] ms day i (r ∷ rs) ss a b e = absurd (omega (arith, e))
by_numbers_lem (x ∷ bs) ms day i [] ss a b e = absurd (omega (arith, e))
by_numbers_lem (x ∷ bs) ms day i (r ∷ rs) [] a b e = absurd (omega arith)
by_numbers_lem (true ∷ bs) ms day i (r ∷ rs) (s ∷ ss) a b e =
    rw (eq-eqb _ i (number_mod (record { number = i; bytes = r; rights = s; day = day }) (omega arith)))
    (ap (λ l. get_or ms 0 false ∷ l) (by_numbers_lem bs (drop 1 ms) day (suc i) rs ss (omega arith) (omega arith) (omega (arith, e))))
by_numbers_lem (false ∷ bs) ms day i (r ∷ rs) (s ∷ ss) a b e =
    rw (later_numbers bs day i rs ss (omega arith)) (ap (λ l. false ∷ l) (by_numbers_lem bs ms day (suc i) rs ss (omega arith) (omega arith) (omega (arith, e))))

shown_by_numbers_lem : (bs : List Bool) (day i : ℕ) (rs : List (List ℕ)) (ss : List ℕ) → length rs ≤ length ss → i + length rs ≤ 16384 → length bs ≡ length rs
    → shown_by_numbers (map shown_number (keep bs (stored_from day i rs ss))) (length rs) i ≡ bs
unfolding shown_by_numbers keep stored_from
shown_by_numbers_lem [] day i [] ss a b e = refl
shown_by_numbers_lem [] day i (r ∷ rs) ss a b e = absurd (omega (arith, e))
shown_by_numbers_lem (x ∷ bs) day i [] ss a b e = absurd (omega (arith, e))
shown_by_numbers_lem (x ∷ bs) day i (r ∷ rs) [] a b e = absurd (omega arith)
shown_by_numbers_lem (true ∷ bs) day i (r ∷ rs) (s ∷ ss) a b e =
    rw (eq-eqb _ i (number_mod (record { number = i; bytes = r; rights = s; day = day }) (omega arith)))
    (ap (λ l. true ∷ l) (shown_by_numbers_lem bs day (suc i) rs ss (omega arith) (omega arith) (omega (arith, e))))
shown_by_numbers_lem (false ∷ bs) day i (r ∷ rs) (s ∷ ss) a b e =
    rw (later_numbers bs day i rs ss (omega arith)) (ap (λ l. false ∷ l) (shown_by_numbers_lem bs day (suc i) rs ss (omega arith) (omega arith) (omega (arith, e))))

shown-length : (before : List (ℕ × Bool)) (day i : ℕ) (rs : List (List ℕ)) (ss : List ℕ) → length rs ≤ length ss
    → length (shown_after stored_level showable before (stored_from day i rs ss)) ≡ length rs
unfolding shown_after stored_from
shown-length before day i [] ss h = refl
shown-length before day i (r ∷ rs) [] h = absurd (omega arith)
shown-length before day i (r ∷ rs) (s ∷ ss) h =
    let x : Stored = record { number = i; bytes = r; rights = s; day = day } in
    ap suc (shown-length ((stored_level x, is_shown stored_level showable before x) ∷ before) day (suc i) rs ss (omega arith))

-- The numbers of the shown nodes say which records are shown, and the marks of the shown nodes are at the places of their records.
module _ (day : ℕ) (t ss : List ℕ) (ok : table_ok t ≡ true) (h : count t ≤ length ss) where
  size : length (records t) ≡ count t
  size = length-records t

  shown_size : length (shown (stored day t ss)) ≡ length (records t)
  shown_size = shown-length [] day 0 (records t) ss (omega (arith, size, h))

  pub numbers_shown : shown_by_numbers (shown_numbers (stored day t ss)) (count t) 0 ≡ shown (stored day t ss)
  numbers_shown =
      let g = facts t ok in
      ap (λ k. shown_by_numbers (shown_numbers (stored day t ss)) k 0) (sym size)
      ∙ shown_by_numbers_lem (shown (stored day t ss)) day 0 (records t) ss (omega (arith, size, h)) (omega (arith, size, g.few)) shown_size

  pub numbers_in_table : (ms : List Bool) → by_numbers (shown_numbers (stored day t ss)) ms (count t) 0 ≡ in_table (shown (stored day t ss)) ms
  numbers_in_table ms =
      let g = facts t ok in
      ap (λ k. by_numbers (shown_numbers (stored day t ss)) ms k 0) (sym size)
      ∙ by_numbers_lem (shown (stored day t ss)) ms day 0 (records t) ss (omega (arith, size, h)) (omega (arith, size, g.few)) shown_size
