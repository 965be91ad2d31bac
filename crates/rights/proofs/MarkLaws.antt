-- Laws of marks. Assumes nothing.
use Prim.Native.Nat.{ℕ, zero, suc, ◌+◌, ◌-◌, ◌≤◌, ◌<◌}
use mathlib.Core.Bool.{Bool, true, false, not}
use mathlib.Core.Path.{◌≡◌, refl, ap, ◌∙◌}
use mathlib.Core.List.{List, [], ◌∷◌, ◌++◌, map}
use native.Mathlib.Numerals.{add-one}
use native.Mathlib.Omega.{arith}
use borrow.Author.Tests.{eq-eqb, ne_eqb}
use lib.Dec.{eqb}
use lib.ListN.{length, take, get_or}
use lib.Seq.{take-suc}
use lib.ListN.{length-take}
use Rattle.rights.specs.Marks.{bit, marks_of, mark_count, each_from}

-- the mark of a node
pub mark_at : (m : List ℕ) (i : ℕ) → get_or (marks_of m) i false ≡ not (eqb (get_or m i 0) 0)
mark_at [] i = refl
mark_at (x ∷ xs) zero = refl
mark_at (x ∷ xs) (suc i) = mark_at xs i

-- marks written are the marks read
pub marks_bits : (bs : List Bool) → marks_of (map bit bs) ≡ bs
marks_bits [] = refl
marks_bits (true ∷ bs) = ap (λ l. true ∷ l) (marks_bits bs)
marks_bits (false ∷ bs) = ap (λ l. false ∷ l) (marks_bits bs)

pub marks_length : (m : List ℕ) → length (marks_of m) ≡ length m
marks_length [] = refl
marks_length (x ∷ m) = ap suc (marks_length m)

pub marks_take : (n : ℕ) (m : List ℕ) → marks_of (take n m) ≡ take n (marks_of m)
marks_take zero m = refl
marks_take (suc n) [] = refl
marks_take (suc n) (x ∷ m) = ap (λ l. not (eqb x 0) ∷ l) (marks_take n m)

-- how many are set of those that a loop has seen
mark_count-append : (a b : List Bool) → mark_count (a ++ b) ≡ mark_count a + mark_count b
mark_count-append [] b = omega arith
mark_count-append (true ∷ a) b = let h = mark_count-append a b in omega arith
mark_count-append (false ∷ a) b = mark_count-append a b

-- how many of the first n marks are set
pub count_front : (n : ℕ) (ms : List ℕ) (k : ℕ) → n ≤ length ms → (k ≡ mark_count (marks_of (take n ms))) × (k ≤ length (take n ms)) → (k ≡ mark_count (take n (marks_of ms))) × (k ≤ n)
count_front n ms k l e = (e.0 ∙ ap mark_count (marks_take n ms), omega (arith, e.1, length-take n ms))

module _ (ms : List ℕ) (i k : ℕ) (inside : i < length ms) (e : k ≡ mark_count (take i (marks_of ms))) where
  count_next : mark_count (take (i + 1) (marks_of ms)) ≡ mark_count (take i (marks_of ms)) + mark_count (not (eqb (get_or ms i 0) 0) ∷ [])
  count_next = let h : i < length (marks_of ms) = omega (arith, marks_length ms) in rw (add-one i, take-suc (marks_of ms) i false h, mark_count-append, mark_at ms i)

  pub count_more : (get_or ms i 0 ≡ 0 → ⊥) → k + 1 ≡ mark_count (take (i + 1) (marks_of ms))
  count_more z = omega (arith, e, rw (ne_eqb (get_or ms i 0) 0 z) at count_next)

  pub count_same : get_or ms i 0 ≡ 0 → k ≡ mark_count (take (i + 1) (marks_of ms))
  count_same z = omega (arith, e, rw (eq-eqb (get_or ms i 0) 0 z) at count_next)

pub each-length : {A : Type 0} (f : ℕ → A) (i n : ℕ) → length (each_from f i n) ≡ n
unfolding each_from
each-length f i zero = refl
each-length f i (suc n) = ap suc (each-length f (suc i) n)

-- what a loop over the first n nodes has still to write
pub each_step : {A : Type 0} (f : ℕ → A) (n i : ℕ) → i < n → each_from f i (n - i) ≡ f i ∷ each_from f (i + 1) (n - (i + 1))
unfolding each_from
each_step f n i h = let e : n - i ≡ suc (n - (i + 1)) = omega arith in rw (e, add-one)

pub each_end : {A : Type 0} (f : ℕ → A) (n i : ℕ) → n ≤ i → each_from f i (n - i) ≡ []
unfolding each_from
each_end f n i h = let e : n - i ≡ 0 = omega arith in rw e

pub each_at : {A : Type 0} (f : ℕ → A) (d : A) (i n k : ℕ) → k < n → get_or (each_from f i n) k d ≡ f (i + k)
unfolding each_from
each_at f d i zero k h = absurd (omega arith)
each_at f d i (suc n) zero h = let e : i + 0 ≡ i = omega arith in rw e
each_at f d i (suc n) (suc k) h = let e : suc i + k ≡ i + suc k = omega arith in rw (← e) (each_at f d (suc i) n k (omega arith))
