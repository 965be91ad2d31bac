-- A number that is printed is the number that is meant: its digits, read from the left, give it back. Assumes nothing.
use Prim.Native.Nat.{ℕ, zero, suc, ◌+◌, ◌-◌, ◌*◌, ◌/◌, ◌%◌, ◌^◌, ◌<◌}
use mathlib.Core.Path.{◌≡◌, refl}
use mathlib.Core.Bool.{Bool, true, false}
use mathlib.Core.List.{List, [], ◌∷◌, ◌++◌}
use native.Mathlib.Omega.{arith}
use native.Mathlib.Nat.{pow-succ'}
use lib.Dec.{ltb}
use borrow.Author.Tests.{ltb-false}
use Rattle.rights.specs.PathReader.{number_of}
use Rattle.rights.specs.PathText.{decimal}
use Rattle.answers.specs.Answer.{number}

number_more : (a : ℕ) (xs : List ℕ) (x : ℕ) → number_of a (xs ++ (x ∷ [])) ≡ number_of a xs * 10 + (x - 48)
unfolding number_of
number_more a [] x = refl
number_more a (y ∷ ys) x = number_more (a * 10 + (y - 48)) ys x

decimal_read : (k n : ℕ) → n < 10 ^ k → number_of 0 (decimal k n) ≡ n
unfolding decimal number_of
decimal_read zero n h = omega arith
decimal_read (suc k) n h = go (ltb n 10) refl (decimal_read k (n / 10))
  where
    go : (b : Bool) → ltb n 10 ≡ b → (n / 10 < 10 ^ k → number_of 0 (decimal k (n / 10)) ≡ n / 10) → number_of 0 (decimal (suc k) n) ≡ n
    go true e ih = rw e (omega arith)
    go false e ih =
        let p : n < 10 * 10 ^ k = rw (pow-succ' 10 k) at h in
        let r = ih (omega arith) in
        rw (e, number_more 0 (decimal k (n / 10)) (48 + n % 10), r) (omega (arith, ltb-false n 10 e))

-- Every number of 64 bits is printed right.
pub number_read : (n : ℕ) → n < 2 ^ 64 → number_of 0 (number n) ≡ n
number_read n h = decimal_read 20 n (omega arith)
