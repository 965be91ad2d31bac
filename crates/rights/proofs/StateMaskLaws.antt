-- A set of states as a mask: its bits, and one move. Assumes nothing.
use Prim.Native.Nat.{ℕ, suc, zero, ◌+◌, ◌*◌, ◌/◌, ◌%◌, ◌^◌, ◌≤◌}
use mathlib.Core.Bool.{Bool, true, false}
use mathlib.Core.Path.{◌≡◌, refl, sym, ap, ap₂, ◌∙◌}
use mathlib.Core.List.{List, [], ◌∷◌}
use native.Mathlib.Nat.{mod-eq_of_lt, zero-div}
use native.Mathlib.Omega.{arith}
use lib.Bits.{bit_and, bit_or}
use lib.Dec.{eqb}
use lib.Pow.{pow_mono, shr-shr}
use lib.ListN.{length, get_or}
use Rattle.rights.specs.Rights.{Step}
use Rattle.rights.specs.How.Automaton.{value, meet, deeps, passed_by, moved, steps_for}
use Rattle.rights.specs.Marks.{bit}
use Rattle.rights.proofs.AutomatonLaws.{bit_lt, value_lt, value-meet, value-union}

-- a bit of a mask is an element of the set
bit_of_lem : (st : List Bool) (j : ℕ) → value st / 2 ^ j % 2 ≡ bit (get_or st j false)
unfolding value
bit_of_lem [] zero = refl
bit_of_lem [] (suc j) = rw (zero-div (2 ^ suc j))
bit_of_lem (b ∷ bs) zero = go b
  where
    go : (b : Bool) → (value bs * 2 + bit b) / 2 ^ 0 % 2 ≡ bit b
    go true = omega arith
    go false = omega arith
bit_of_lem (b ∷ bs) (suc j) =
    let e : 1 + j ≡ suc j = omega arith in
    let h : (value bs * 2 + bit b) / 2 ^ 1 ≡ value bs = omega (arith, bit_lt b) in
    ap (λ (k : ℕ). (value bs * 2 + bit b) / 2 ^ k % 2) (sym e)
    ∙ ap (λ (k : ℕ). k % 2) (sym (shr-shr (value bs * 2 + bit b) 1 j))
    ∙ ap (λ (k : ℕ). k / 2 ^ j % 2) h
    ∙ bit_of_lem bs j

one_bit : (b : Bool) → eqb (bit b) 1 ≡ b
one_bit true = refl
one_bit false = refl

pub bit_test : (st : List Bool) (j : ℕ) → eqb (value st / 2 ^ j % 2) 1 ≡ get_or st j false
bit_test st j = ap (λ (k : ℕ). eqb k 1) (bit_of_lem st j) ∙ one_bit _

length_meet_r : (xs ys : List Bool) → length (meet xs ys) ≤ length ys
unfolding meet
length_meet_r [] ys = omega arith
length_meet_r (x ∷ xs) [] = omega arith
length_meet_r (x ∷ xs) (y ∷ ys) = omega (arith, length_meet_r xs ys)

-- a doubled mask of at most 63 bits does not wrap
doubled : (xs : List Bool) → length xs ≤ 63 → value xs * 2 ^ 1 % 2 ^ 64 ≡ value xs * 2
doubled xs h = mod-eq_of_lt (omega (arith, value_lt xs, pow_mono {i = length xs} {j = 63} h))

module _ (mine : List ℕ → Bool) (s : List ℕ) (b : ℕ) where
  pub length-steps : (n i : ℕ) → length (steps_for mine s b n i) ≡ n
  unfolding steps_for
  length-steps zero i = refl
  length-steps (suc n) i = ap suc (length-steps n (suc i))

pub length_passed_by : (ss : List Step) (x : List ℕ) → length (passed_by ss x) ≡ length ss
unfolding passed_by
length_passed_by [] x = refl
length_passed_by (s ∷ ss) x = ap suc (length_passed_by ss x)

-- the states after a node, by masks
pub moved_mask : (ss : List Step) (st : List Bool) (x : List ℕ) (m d p : ℕ) → length ss ≤ 63 → m ≡ value st → d ≡ value (deeps ss) → p ≡ value (meet st (passed_by ss x))
    → bit_or (bit_and m d) (p * 2 ^ 1 % 2 ^ 64) ≡ value (moved ss st x)
unfolding value
moved_mask ss st x m d p h em ed ep =
    let a = meet st (passed_by ss x) in
    let k : length a ≤ 63 = omega (arith, length_meet_r st (passed_by ss x), length_passed_by ss x) in
    let z : value a * 2 ≡ value (false ∷ a) = omega arith in
    ap₂ (λ (u v : ℕ). bit_or u v) (ap₂ (λ (u v : ℕ). bit_and u v) em ed ∙ value-meet st (deeps ss)) (ap (λ (u : ℕ). u * 2 ^ 1 % 2 ^ 64) ep ∙ doubled a k ∙ z)
    ∙ value-union (meet st (deeps ss)) (false ∷ a)
