-- What holds of each element of a list, and what the bytes of a policy hold, element by element. Assumes nothing.
use Prim.Native.Nat.{ℕ, zero, suc, ◌+◌, ◌*◌, ◌<◌}
use mathlib.Core.Path.{◌≡◌, refl, ap, ap₂}
use mathlib.Core.List.{List, [], ◌∷◌}
use native.Mathlib.Nat.{add-zero}
use native.Mathlib.Omega.{arith}
use lib.ListN.{length, get_or}
use Rattle.rights.specs.Marks.{each_from}
use Rattle.rights.specs.Path.{Axis, Test}
use Rattle.rights.specs.Policy.{Rule, Policy}
use Rattle.rights.specs.PolicyBytes.{subject_count, isa_count, rule_count, name_at, isa_n, isa_r, step_of, names_from, isa_from, steps_from, rule_of, rules_from, policy_of}
use Rattle.rights.specs.Table.{rec_at}
use Rattle.rights.specs.Allowed.{All}

module _ {A : Type 0} (P : A → Type 0) where
  pub all-nth : (d : A) (xs : List A) → All P xs → (k : ℕ) → k < length xs → P (get_or xs k d)
  all-nth d [] h k l = absurd (omega arith)
  all-nth d (x ∷ xs) h zero l = h.0
  all-nth d (x ∷ xs) h (suc k) l = all-nth d xs h.1 k (omega arith)

  pub each_all : (g : ℕ → A) (i n : ℕ) → ((k : ℕ) → k < n → P (g (i + k))) → All P (each_from g i n)
  unfolding each_from
  each_all g i zero h = tt
  each_all g i (suc n) h = (
    rw (add-zero i) at (h 0 (omega arith)),
    each_all g (suc i) n (λ k l. let e : suc i + k ≡ i + suc k = omega arith in rw e (h (suc k) (omega arith))),
  )

  pub all_with : {Q : A → Type 0} → ((x : A) → P x → Q x) → (xs : List A) → All P xs → All Q xs
  all_with f [] h = tt
  all_with f (x ∷ xs) h = (f x h.0, all_with f xs h.1)

-- a list that is given element by element
pub each_of : {A : Type 0} (g : ℕ → A) (d : A) (xs : List A) (i : ℕ) → ((k : ℕ) → k < length xs → g (i + k) ≡ get_or xs k d) → each_from g i (length xs) ≡ xs
unfolding each_from
each_of g d [] i h = refl
each_of g d (x ∷ xs) i h =
    ap₂ ◌∷◌ (rw (add-zero i) at (h 0 (omega arith)))
    (each_of g d xs (suc i) (λ k l. let e : suc i + k ≡ i + suc k = omega arith in rw e (h (suc k) (omega arith))))

-- what the bytes of a policy hold
module _ (p : List ℕ) where
  names_each : (n i : ℕ) → names_from p n i ≡ each_from (name_at p) i n
  unfolding names_from each_from
  names_each zero i = refl
  names_each (suc n) i = ap (λ (l : List (List ℕ)). name_at p i ∷ l) (names_each n (suc i))

  isa_each : (n i : ℕ) → isa_from p n i ≡ each_from (λ k. (isa_n p k, isa_r p k)) i n
  unfolding isa_from each_from
  isa_each zero i = refl
  isa_each (suc n) i = ap (λ (l : List (ℕ × ℕ)). (isa_n p i, isa_r p i) ∷ l) (isa_each n (suc i))

  pub steps-each : (b n j : ℕ) → steps_from p b n j ≡ each_from (λ k. step_of (rec_at p (b + k * 32))) j n
  unfolding steps_from each_from
  steps-each b zero j = refl
  steps-each b (suc n) j = ap (λ (l : List (Axis × Test)). step_of (rec_at p (b + j * 32)) ∷ l) (steps-each b n (suc j))

  rules_each : (n i : ℕ) → rules_from p n i ≡ each_from (rule_of p) i n
  unfolding rules_from each_from
  rules_each zero i = refl
  rules_each (suc n) i = ap (λ (l : List Rule). rule_of p i ∷ l) (rules_each n (suc i))

  abbrev pub listed : Policy
  listed = record {
    names = each_from (name_at p) 0 (subject_count p);
    isa = each_from (λ k. (isa_n p k, isa_r p k)) 0 (isa_count p);
    rules = each_from (rule_of p) 0 (rule_count p);
  }

  pub policy_listed : policy_of p ≡ listed
  unfolding policy_of
  policy_listed = rw (names_each (subject_count p) 0, isa_each (isa_count p) 0, rules_each (rule_count p) 0)
