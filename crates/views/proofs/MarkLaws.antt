-- Laws of the marks that are read for shown nodes and written for parents; those of all marks stand in rights. Assumes nothing.
use Prim.Native.Nat.{ℕ, suc, ◌+◌, ◌-◌, ◌%◌, ◌≤◌, ◌<◌}
use mathlib.Core.Bool.{Bool, false, cond, not, ◌&&◌}
use mathlib.Core.Path.{◌≡◌, ◌∙◌}
use mathlib.Core.List.{List, ◌∷◌}
use native.Mathlib.Numerals.{add-one}
use native.Mathlib.Omega.{arith}
use borrow.Author.Tests.{ltb-true, ltb-false}
use lib.Dec.{eqb, ltb}
use lib.ListN.{length, drop, get_or, drop_of_length-le}
use lib.Seq.{drop-cons, drop-drop, get_or-drop}
use Rattle.rights.specs.Marks.{marks_of}
use Rattle.rights.proofs.ListLaws.{by_case}
use Rattle.rights.proofs.MarkLaws.{mark_at}
pub use Rattle.rights.proofs.MarkLaws.{marks_bits}
use Rattle.views.specs.How.Numbers.{is_next, shown_by_numbers, by_numbers}

-- the first of the marks from j on
front : (j : ℕ) (m : List ℕ) → get_or (drop j (marks_of m)) 0 false ≡ not (eqb (get_or m j 0) 0)
front j m = get_or-drop j (marks_of m) 0 false ∙ (let e : j + 0 ≡ j = omega arith in rw e (mark_at m j))

-- One record more, where shown node j is the next: e is the next then

module _ (xs : List ℕ) (n j i e : ℕ) (on : Bool) (inside : i < n) (stands : on ≡ (ltb j (length xs) && eqb (get_or xs j 0 % 16384) i)) (next : e ≡ cond on (j + 1) j) where
  one_less : n - i ≡ suc (n - (i + 1))
  one_less = omega arith

  next_is : is_next (drop j xs) i ≡ on
  next_is =
      by_case (ltb j (length xs))
      (λ q. let l : j < length xs = ltb-true j (length xs) q in rw (stands, q, drop-cons xs j 0 l))
      (λ q. let l : length xs ≤ j = ltb-false j (length xs) q in rw (stands, q, drop_of_length-le xs l))

  drop_next : {A : Type 0} (l : List A) → cond on (drop 1 (drop j l)) (drop j l) ≡ drop e l
  drop_next l = by_case on (λ q. rw (next, q) (drop-drop 1 j l)) (λ q. rw (next, q))

  pub shown-step : shown_by_numbers (drop j xs) (n - i) i ≡ on ∷ shown_by_numbers (drop e xs) (n - (i + 1)) (i + 1)
  unfolding shown_by_numbers
  shown-step = rw (one_less, next_is, drop_next xs, add-one i)

  pub marks_step : (m : List ℕ) (sel : Bool) → sel ≡ (on && not (eqb (get_or m j 0) 0))
      → by_numbers (drop j xs) (drop j (marks_of m)) (n - i) i ≡ sel ∷ by_numbers (drop e xs) (drop e (marks_of m)) (n - (i + 1)) (i + 1)
  unfolding by_numbers
  marks_step m sel q =
      rw (one_less, next_is, q, add-one i, ← drop_next xs, ← drop_next (marks_of m))
      (by_case on (λ o. rw (o, front j m)) (λ o. rw o))
