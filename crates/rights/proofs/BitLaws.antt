-- Numbers by their bits: what `has` says of sums, differences and shifts, and that the bits make the number. Assumes nothing.
use Prim.Native.Nat.{ℕ, suc, zero, ◌+◌, ◌*◌, ◌-◌, ◌/◌, ◌%◌, ◌^◌, ◌≤◌, ◌<◌}
use mathlib.Core.Bool.{Bool, true, false, ◌&&◌, ◌||◌, not, and-false, or-false}
use mathlib.Core.Path.{◌≡◌, refl, sym, ap, ap₂, ◌∙◌}
use mathlib.Core.List.{List, [], ◌∷◌}
use native.Mathlib.Nat.{one-mul, mod-eq_of_lt, pow-suc, mod-lt}
use native.Mathlib.Omega.{arith}
use lib.Bits.{bit_and, bit_or}
use lib.Dec.{lit<, eqb, eqb-suc-suc, eqb-zero-suc, eqb-suc-zero}
use lib.Pow.{pow-lt}
use lib.ListN.{get_or, set}
use Rattle.rights.specs.How.Automaton.{value, meet, union}
use Rattle.rights.specs.Marks.{bit}
use Rattle.rights.specs.How.Groups.{bit_at}
use Rattle.rights.proofs.AutomatonLaws.{value-meet, value-union}
use Rattle.rights.proofs.StateMaskLaws.{bit_test}

-- the elements of a set, place by place
pub get_meet : (xs ys : List Bool) (j : ℕ) → get_or (meet xs ys) j false ≡ get_or xs j false && get_or ys j false
unfolding meet
get_meet [] ys j = refl
get_meet (x ∷ xs) [] j = sym (and-false (get_or (x ∷ xs) j false))
get_meet (x ∷ xs) (y ∷ ys) zero = refl
get_meet (x ∷ xs) (y ∷ ys) (suc j) = get_meet xs ys j

pub get_union : (xs ys : List Bool) (j : ℕ) → get_or (union xs ys) j false ≡ get_or xs j false || get_or ys j false
unfolding union
get_union [] ys j = refl
get_union (x ∷ xs) [] j = sym (or-false (get_or (x ∷ xs) j false))
get_union (x ∷ xs) (y ∷ ys) zero = refl
get_union (x ∷ xs) (y ∷ ys) (suc j) = get_union xs ys j

none-value : (xs : List Bool) → ((j : ℕ) → get_or xs j false ≡ false) → value xs ≡ 0
unfolding value
none-value [] f = refl
none-value (x ∷ xs) f = ap₂ (λ (a : ℕ) (b : Bool). a * 2 + bit b) (none-value xs (λ j. f (suc j))) (f 0)

-- sets with the same elements are the same number
pub value_ext : (xs ys : List Bool) → ((j : ℕ) → get_or xs j false ≡ get_or ys j false) → value xs ≡ value ys
unfolding value
value_ext [] ys f = sym (none-value ys (λ j. sym (f j)))
value_ext (x ∷ xs) [] f = none-value (x ∷ xs) f
value_ext (x ∷ xs) (y ∷ ys) f = ap₂ (λ (a : ℕ) (b : Bool). a * 2 + bit b) (value_ext xs ys (λ j. f (suc j))) (f 0)

-- every number is a set
bits_of : ℕ → ℕ → List Bool
bits_of zero n = []
bits_of (suc k) n = eqb (n % 2) 1 ∷ bits_of k (n / 2)

one_of : (n : ℕ) → bit (eqb (n % 2) 1) ≡ n % 2
one_of n = go (n % 2) (mod-lt n (lit< tt))
  where
    go : (r : ℕ) → r < 2 → bit (eqb r 1) ≡ r
    go zero h = refl
    go (suc zero) h = refl
    go (suc (suc r)) h = absurd (omega arith)

bits_value : (k n : ℕ) → n ≤ k → value (bits_of k n) ≡ n
unfolding value bits_of
bits_value zero n h = omega arith
bits_value (suc k) zero h = ap (λ (a : ℕ). a * 2 + 0) (bits_value k 0 (omega arith))
bits_value (suc k) (suc n) h =
    let e = bits_value k (suc n / 2) (omega arith) in
    ap₂ (λ (a b : ℕ). a * 2 + b) e (one_of (suc n)) ∙ (let z : suc n / 2 * 2 + suc n % 2 ≡ suc n = omega arith in z)

pub bits : ℕ → List Bool
bits n = bits_of n n

pub value_bits : (n : ℕ) → value (bits n) ≡ n
unfolding bits
value_bits n = bits_value n n (omega arith)

pub get_bits : (n j : ℕ) → get_or (bits n) j false ≡ bit_at n j
get_bits n j = sym (bit_test (bits n) j) ∙ ap (λ (k : ℕ). bit_at k j) (value_bits n)

pub bit_at_ext : (a b : ℕ) → ((j : ℕ) → bit_at a j ≡ bit_at b j) → a ≡ b
bit_at_ext a b f = sym (value_bits a) ∙ value_ext (bits a) (bits b) (λ j. get_bits a j ∙ f j ∙ sym (get_bits b j)) ∙ value_bits b

pub bit_at_value : (a : ℕ) (xs : List Bool) → ((j : ℕ) → bit_at a j ≡ get_or xs j false) → a ≡ value xs
bit_at_value a xs f = bit_at_ext a (value xs) (λ j. f j ∙ sym (bit_test xs j))

pub bit_at_and : (a b j : ℕ) → bit_at (bit_and a b) j ≡ bit_at a j && bit_at b j
bit_at_and a b j =
    ap₂ (λ (x y : ℕ). bit_at (bit_and x y) j) (sym (value_bits a)) (sym (value_bits b))
    ∙ ap (λ (k : ℕ). bit_at k j) (value-meet (bits a) (bits b))
    ∙ bit_test (meet (bits a) (bits b)) j
    ∙ get_meet (bits a) (bits b) j
    ∙ ap₂ ◌&&◌ (get_bits a j) (get_bits b j)

pub bit_at_or : (a b j : ℕ) → bit_at (bit_or a b) j ≡ bit_at a j || bit_at b j
bit_at_or a b j =
    ap₂ (λ (x y : ℕ). bit_at (bit_or x y) j) (sym (value_bits a)) (sym (value_bits b))
    ∙ ap (λ (k : ℕ). bit_at k j) (value-union (bits a) (bits b))
    ∙ bit_test (union (bits a) (bits b)) j
    ∙ get_union (bits a) (bits b) j
    ∙ ap₂ ◌||◌ (get_bits a j) (get_bits b j)

pub bit_at_none : (j : ℕ) → bit_at 0 j ≡ false
unfolding value
bit_at_none j = bit_test [] j

-- one bit alone
unit : ℕ → List Bool
unit zero = true ∷ []
unit (suc n) = false ∷ unit n

value_unit : (n : ℕ) → value (unit n) ≡ 2 ^ n
unfolding value unit
value_unit zero = refl
value_unit (suc n) = rw pow-suc (omega (arith, value_unit n))

get_unit : (n j : ℕ) → get_or (unit n) j false ≡ eqb j n
unfolding unit
get_unit zero zero = refl
get_unit zero (suc j) = sym (eqb-suc-zero j)
get_unit (suc n) zero = sym (eqb-zero-suc n)
get_unit (suc n) (suc j) = get_unit n j ∙ sym (eqb-suc-suc j n)

pub bit_at_one : (n j : ℕ) → bit_at (2 ^ n) j ≡ eqb j n
bit_at_one n j = ap (λ (k : ℕ). bit_at k j) (sym (value_unit n)) ∙ bit_test (unit n) j ∙ get_unit n j

-- a set without one of its elements
clear_value : (xs : List Bool) (j : ℕ) → get_or xs j false ≡ true → value xs ≡ value (set xs j false) + 2 ^ j
unfolding value
clear_value [] j e = absurd (let z : ◌≡◌ {A = ℕ} 0 1 = cc in omega arith)
clear_value (x ∷ xs) zero e = ap (λ (b : Bool). value xs * 2 + bit b) e ∙ (let z : value xs * 2 + 1 ≡ (value xs * 2 + 0) + 2 ^ 0 = omega arith in z)
clear_value (x ∷ xs) (suc j) e = rw pow-suc (omega (arith, clear_value xs j e))

get_clear : (xs : List Bool) (i j : ℕ) → get_or (set xs j false) i false ≡ get_or xs i false && not (eqb i j)
get_clear [] i j = refl
get_clear (x ∷ xs) zero zero = sym (and-false x)
get_clear (x ∷ xs) zero (suc j) = go x ∙ ap (λ (b : Bool). x && not b) (sym (eqb-zero-suc j))
  where
    go : (x : Bool) → x ≡ x && true
    go true = refl
    go false = refl
get_clear (x ∷ xs) (suc i) zero = go (get_or xs i false) ∙ ap (λ (b : Bool). get_or xs i false && not b) (sym (eqb-suc-zero i))
  where
    go : (x : Bool) → x ≡ x && true
    go true = refl
    go false = refl
get_clear (x ∷ xs) (suc i) (suc j) = get_clear xs i j ∙ ap (λ (b : Bool). get_or xs i false && not b) (sym (eqb-suc-suc i j))

module _ (a j : ℕ) (e : bit_at a j ≡ true) where
  cleared : a ≡ value (set (bits a) j false) + 2 ^ j
  cleared = sym (value_bits a) ∙ clear_value (bits a) j (get_bits a j ∙ e)

  pub bit-within : 2 ^ j ≤ a
  bit-within = omega (arith, cleared)

  pub bit_at_clear : (i : ℕ) → bit_at (a - 2 ^ j) i ≡ bit_at a i && not (eqb i j)
  bit_at_clear i =
      let z : a - 2 ^ j ≡ value (set (bits a) j false) = omega (arith, cleared) in
      ap (λ (k : ℕ). bit_at k i) z ∙ bit_test (set (bits a) j false) i ∙ get_clear (bits a) i j ∙ ap (λ (b : Bool). b && not (eqb i j)) (get_bits a i)

-- a bit by a shift
pub one_shl : (w j : ℕ) → j < w → 1 * 2 ^ j % 2 ^ w ≡ 2 ^ j
one_shl w j h = ap (λ (k : ℕ). k % 2 ^ w) (one-mul (2 ^ j)) ∙ mod-eq_of_lt (pow-lt {i = j} {j = w} (omega arith))
