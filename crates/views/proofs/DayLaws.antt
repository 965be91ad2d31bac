-- The view on a day (document 02, card 7), record by record. Assumes nothing.
use Prim.Native.Nat.{ℕ, zero, suc, ◌+◌, ◌≤◌, ◌<◌}
use mathlib.Core.Bool.{Bool, true, false, ◌&&◌, and_assoc, and-false}
use mathlib.Core.Path.{◌≡◌, refl, ap, ap₂, ◌∙◌}
use mathlib.Core.List.{List, [], ◌∷◌}
use native.Mathlib.Nat.{add-zero}
use native.Mathlib.Omega.{arith}
use borrow.Author.Tests.{le-leb}
use lib.ListN.{length, get_or}
use Rattle.rights.specs.Table.{record_at, records_from, level, first_day, last_day, count}
use Rattle.views.specs.Nodes.{is_ancestor}
use Rattle.views.specs.Shown.{Stored, stored_from, stored, stored_level, grants, in_window, showable, at_parent, nearest_first, shown}
use Rattle.views.proofs.ShownLaws.{nearest_same, shown_at, hidden_below}
use Rattle.views.proofs.StoredLaws.{stored_at}

-- "both days included": a node is in its window on the first day and on the last
pub both_days : (r : List ℕ) → first_day r ≤ last_day r → (in_window (first_day r) r ≡ true) × (in_window (last_day r) r ≡ true)
both_days r h =
    (rw (le-leb (first_day r) (first_day r) (omega arith), le-leb _ _ h), rw (le-leb (last_day r) (last_day r) (omega arith), le-leb _ _ h))

-- node k of those from i on
node_at_lem : (o : Stored) (day : ℕ) (t ss : List ℕ) (n i k : ℕ) → k < n → k < length ss
    → get_or (stored_from day i (records_from t n i) ss) k o ≡ record { number = i + k; bytes = record_at t (i + k); rights = get_or ss k 0; day = day }
unfolding stored_from records_from
node_at_lem o day t ss zero i k h g = absurd (omega arith)
node_at_lem o day t [] (suc n) i k h g = absurd (omega arith)
node_at_lem o day t (s ∷ ss) (suc n) i zero h g = rw (add-zero i)
node_at_lem o day t (s ∷ ss) (suc n) i (suc k) h g =
    let e : i + suc k ≡ suc i + k = omega arith in
    rw e (node_at_lem o day t ss n (suc i) k (omega arith) (omega arith))

nodes_length : (day : ℕ) (t ss : List ℕ) (n i : ℕ) → n ≤ length ss → length (stored_from day i (records_from t n i) ss) ≡ n
unfolding stored_from records_from
nodes_length day t ss zero i h = refl
nodes_length day t [] (suc n) i h = absurd (omega arith)
nodes_length day t (s ∷ ss) (suc n) i h = ap suc (nodes_length day t ss n (suc i) (omega arith))

module _ (day : ℕ) (t ss : List ℕ) (many : count t ≤ length ss) where
  stored_at_lem : (k : ℕ) → k < count t → get_or (stored day t ss) k (stored_at day t ss 0) ≡ stored_at day t ss k
  stored_at_lem k h =
      let z : 0 + k ≡ k = omega arith in
      rw z at (node_at_lem (stored_at day t ss 0) day t ss (count t) 0 k h (omega (arith, many)))

  -- A record is shown exactly if it is granted, within its window on the day, and its parent is shown (the root's counts as shown).
  pub shown_exactly : (i : ℕ) → i < count t
      → get_or (shown (stored day t ss)) i false
      ≡ (grants (get_or ss i 0)
      && (in_window day (record_at t i)
      && at_parent true (nearest_first (λ k. (level (record_at t k), get_or (shown (stored day t ss)) k false)) i) (level (record_at t i))))
  shown_exactly i h =
      shown_at stored_level showable (stored_at day t ss 0) (stored day t ss) i (omega (arith, nodes_length day t ss (count t) 0 many))
      ∙ ap₂ (λ (x : Stored) (before : List (ℕ × Bool)). showable x && at_parent true before (stored_level x)) (stored_at_lem i h)
      (nearest_same _ (λ k. (level (record_at t k), get_or (shown (stored day t ss)) k false)) i
      (λ k g. ap (λ (x : Stored). (stored_level x, get_or (shown (stored day t ss)) k false)) (stored_at_lem k (omega arith))))
      ∙ and_assoc (grants (get_or ss i 0)) (in_window day (record_at t i)) _

  -- "A node outside its window on that day is not shown, nor is anything below it."
  pub outside_hidden : (j : ℕ) → j < count t → in_window day (record_at t j) ≡ false → get_or (shown (stored day t ss)) j false ≡ false
  outside_hidden j h e = shown_exactly j h ∙ rw e (and-false (grants (get_or ss j 0)))

  pub below_outside : (j i : ℕ) → j < count t → in_window day (record_at t j) ≡ false → is_ancestor stored_level (stored day t ss) j i ≡ true
      → get_or (shown (stored day t ss)) i false ≡ false
  below_outside j i h e a = hidden_below stored_level showable (stored day t ss) j i a (outside_hidden j h e)
