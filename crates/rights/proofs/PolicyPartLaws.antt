-- What makes an isa line, a rule and each part of a policy, and what a policy that passed is known to be. Assumes nothing.
use Prim.Native.Nat.{ℕ, ◌+◌, ◌*◌, ◌-◌, ◌≤◌}
use mathlib.Core.Path.{◌≡◌}
use mathlib.Core.Bool.{true, not, and-eq-true_iff}
use mathlib.Core.List.{List}
use borrow.Author.Tests.{leb-true, eqb-true, eq-eqb}
use lib.Dec.{leb, ltb}
use lib.ListN.{length, get_or}
use Rattle.rights.specs.Bytes.{every, zeros}
use Rattle.rights.specs.PolicyBytes.{subject_count, isa_count, rule_count, subject_at, isa_at, rule_at, steps_at, isa_n, isa_r, right_bit, whose, step_count}
use Rattle.rights.specs.PolicyCheck.{step_ok, bit_ok, rule_ok, subject_ok, same_isa, isa_ok, subjects_ok, isas_ok, rules_ok, policy_ok}

-- what makes an isa line, a rule, and each part of a policy
pub isa_is : (q : List ℕ) (k : ℕ) → ltb (isa_r q k) (isa_n q k) ≡ true → ltb (isa_n q k) (subject_count q) ≡ true → every (λ j. not (same_isa q j k)) k ≡ true → isa_ok q k ≡ true
unfolding isa_ok
isa_is q k a b d = rw (a, b, d)

pub rule_is : (q : List ℕ) (k n : ℕ) → step_count q k ≡ n → leb (get_or q (rule_at k) 0) 1 ≡ true → bit_ok (right_bit q k) ≡ true → ltb (whose q k) (subject_count q) ≡ true
    → leb 1 n ≡ true → leb n 16 ≡ true → zeros q (rule_at k + 4) 4 ≡ true → every (λ j. step_ok q (steps_at k + j * 32)) n ≡ true
    → zeros q (steps_at k + n * 32) ((16 - n) * 32) ≡ true → rule_ok q k ≡ true
unfolding rule_ok
rule_is q k n e a b d f g h i j = rw (a, b, d, e, f, g, h, i, j)

pub subjects_are : (q : List ℕ) (n : ℕ) → subject_count q ≡ n → leb n 64 ≡ true → every (subject_ok q) n ≡ true → zeros q (subject_at n) ((64 - n) * 32) ≡ true → subjects_ok q ≡ true
unfolding subjects_ok
subjects_are q n e a b d = rw (e, a, b, d)

pub isas_are : (q : List ℕ) (n : ℕ) → isa_count q ≡ n → leb n 128 ≡ true → every (isa_ok q) n ≡ true → zeros q (isa_at n) ((128 - n) * 2) ≡ true → isas_ok q ≡ true
unfolding isas_ok
isas_are q n e a b d = rw (e, a, b, d)

pub rules_are : (q : List ℕ) (n : ℕ) → rule_count q ≡ n → leb n 128 ≡ true → every (rule_ok q) n ≡ true → zeros q (rule_at n) ((128 - n) * 520) ≡ true → rules_ok q ≡ true
unfolding rules_ok
rules_are q n e a b d = rw (e, a, b, d)

pub policy_is : (q : List ℕ) → length q ≡ 68872 → zeros q 3 5 ≡ true → subjects_ok q ≡ true → isas_ok q ≡ true → rules_ok q ≡ true → policy_ok q ≡ true
unfolding policy_ok
policy_is q l z s i r = rw (eq-eqb _ _ l, z, s, i, r)

-- what a policy that passed is known to be
pub record Parts (p : List ℕ) : Type 0 where
  pub long : length p ≡ 68872
  pub spare : zeros p 3 5 ≡ true
  pub subjects : subjects_ok p ≡ true
  pub isas : isas_ok p ≡ true
  pub rules : rules_ok p ≡ true

pub parts : (p : List ℕ) → policy_ok p ≡ true → Parts p
unfolding policy_ok
parts p e =
    let f = simp (policy_ok, and-eq-true_iff) at e in
    record { long = eqb-true _ _ f.0; spare = f.1.0; subjects = f.1.1.0; isas = f.1.1.1.0; rules = f.1.1.1.1 }

module _ (p : List ℕ) where
  pub subjects_have : subjects_ok p ≡ true → (subject_count p ≤ 64) × (every (subject_ok p) (subject_count p) ≡ true) × (zeros p (subject_at (subject_count p)) ((64 - subject_count p) * 32) ≡ true)
  unfolding subjects_ok
  subjects_have e =
      let f = simp (subjects_ok, and-eq-true_iff) at e in
      (leb-true _ _ f.0, f.1.0, f.1.1)

  pub isas_have : isas_ok p ≡ true → (isa_count p ≤ 128) × (every (isa_ok p) (isa_count p) ≡ true) × (zeros p (isa_at (isa_count p)) ((128 - isa_count p) * 2) ≡ true)
  unfolding isas_ok
  isas_have e =
      let f = simp (isas_ok, and-eq-true_iff) at e in
      (leb-true _ _ f.0, f.1.0, f.1.1)

  pub rules_have : rules_ok p ≡ true → (rule_count p ≤ 128) × (every (rule_ok p) (rule_count p) ≡ true) × (zeros p (rule_at (rule_count p)) ((128 - rule_count p) * 520) ≡ true)
  unfolding rules_ok
  rules_have e =
      let f = simp (rules_ok, and-eq-true_iff) at e in
      (leb-true _ _ f.0, f.1.0, f.1.1)
