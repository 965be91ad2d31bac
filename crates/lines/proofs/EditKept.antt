-- What does not change in a policy stays well formed, and one line more that is well formed leaves the policy well formed. Assumes nothing.
use Prim.Native.Nat.{ℕ, zero, suc, ◌+◌, ◌*◌, ◌-◌, ◌≤◌, ◌<◌}
use mathlib.Core.Path.{◌≡◌, refl, ap, ap₂, ◌∙◌}
use mathlib.Core.Bool.{Bool, true, not, ◌&&◌, and-eq-true_iff}
use mathlib.Core.List.{List, [], ◌∷◌, ◌++◌}
use native.Mathlib.Nat.{zero-add, add-zero}
use native.Mathlib.Omega.{arith}
use borrow.Author.Tests.{leb-true, ltb-true, le-leb, lt-ltb}
use lib.Dec.{leb, ltb, eqb}
use lib.ListN.{get_or}
use Rattle.rights.specs.Bytes.{every}
use Rattle.rights.specs.Labels.{same_label}
use Rattle.rights.specs.Path.{Test}
use Rattle.rights.specs.declared.path.Axis.{Axis}
use Rattle.rights.specs.Policy.{Rule}
use Rattle.rights.specs.Table.{rec_at, label}
use Rattle.rights.specs.PolicyBytes.{subject_count, isa_count, rule_count, subject_at, isa_at, rule_at, steps_at, name_at, isa_n, isa_r, whose, step_count, step_of, names_from, isa_from, steps_from, rule_of, rules_from, policy_of}
use Rattle.rights.specs.PolicyCheck.{text_ok, sign_ok, step_ok, bit_ok, rule_ok, subject_ok, same_isa, isa_ok, subjects_ok, isas_ok, rules_ok}
use Rattle.rights.proofs.EveryLaws.{every_more, every_at}
use Rattle.rights.proofs.PolicyPartLaws.{isa_is, rule_is, subjects_are, isas_are, rules_are, subjects_have, isas_have, rules_have}
use Rattle.rights.proofs.TableLaws.{both}
use Rattle.rights.proofs.WordLaws.{subject_is}
use Rattle.lines.proofs.EditBytes.{Alike, alike_in, alike_part, alike_byte, zeros_part, zeros_alike}

pub every-kept : (f g : ℕ → Bool) (n : ℕ) → ((j : ℕ) → j < n → f j ≡ true → g j ≡ true) → every f n ≡ true → every g n ≡ true
unfolding every
every-kept f g zero h e = refl
every-kept f g (suc n) h e =
    let w = both (every f n) (f n) e in
    rw (every-kept f g n (λ j l. h j (omega arith)) w.0, h n (omega arith) w.1)

-- four equal bytes
same_pairs : (a b d e a' b' d' e' : ℕ) → a ≡ a' → b ≡ b' → d ≡ d' → e ≡ e' → not (eqb a b && eqb d e) ≡ not (eqb a' b' && eqb d' e')
same_pairs a b d e a' b' d' e' i j k l = rw (i, j, k, l)

-- one of a kind, in bytes that are alike
module _ (p q : List ℕ) where
  subject_at_lem : (n k : ℕ) → Alike p q 8 (n * 32) → k < n → rec_at q (subject_at k) ≡ rec_at p (subject_at k)
  subject_at_lem n k e h = alike_in p q 8 (n * 32) (k * 32) 32 e (omega arith)

  pub name_kept : (n k : ℕ) → Alike p q 8 (n * 32) → k < n → name_at q k ≡ name_at p k
  name_kept n k e h = ap label (subject_at_lem n k e h)

  pub subject_kept : (n k : ℕ) → Alike p q 8 (n * 32) → k < n → subject_ok p k ≡ true → subject_ok q k ≡ true
  unfolding subject_ok
  subject_kept n k e h o =
      let w = both (text_ok 0 (rec_at p (subject_at k))) (every (λ j. not (same_label (name_at p j) (name_at p k))) k) o in
      subject_is q k
      (ap (text_ok 0) (subject_at_lem n k e h) ∙ w.0)
      (every-kept (λ j. not (same_label (name_at p j) (name_at p k))) (λ j. not (same_label (name_at q j) (name_at q k))) k
      (λ j l y. ap₂ (λ (a b : List ℕ). not (same_label a b)) (name_kept n j e (omega arith)) (name_kept n k e h) ∙ y)
      w.1)

  pub n_kept : (n k : ℕ) → Alike p q 2056 (n * 2) → k < n → isa_n q k ≡ isa_n p k
  n_kept n k e h = alike_byte p q 2056 (n * 2) (isa_at k) e (omega arith) (omega arith)

  pub r_kept : (n k : ℕ) → Alike p q 2056 (n * 2) → k < n → isa_r q k ≡ isa_r p k
  r_kept n k e h = alike_byte p q 2056 (n * 2) (isa_at k + 1) e (omega arith) (omega arith)

  pub isa_kept : (n k : ℕ) → Alike p q 2056 (n * 2) → k < n → subject_count p ≤ subject_count q → isa_ok p k ≡ true → isa_ok q k ≡ true
  unfolding isa_ok
  isa_kept n k e h m o =
      let f = simp (isa_ok, and-eq-true_iff) at o in
      isa_is q k
      (ap₂ ltb (r_kept n k e h) (n_kept n k e h) ∙ f.0)
      (lt-ltb (isa_n q k) (subject_count q) (omega (arith, ltb-true (isa_n p k) (subject_count p) f.1.0, n_kept n k e h)))
      (every-kept (λ j. not (same_isa p j k)) (λ j. not (same_isa q j k)) k
      (λ j l y. same_pairs (isa_n q j) (isa_n q k) (isa_r q j) (isa_r q k) (isa_n p j) (isa_n p k) (isa_r p j) (isa_r p k) (n_kept n j e (omega arith)) (n_kept n k e h) (r_kept n j e (omega arith)) (r_kept n k e h) ∙ y)
      f.1.1)

  step_kept : (at : ℕ) → Alike p q at 32 → step_ok q at ≡ step_ok p at
  unfolding step_ok sign_ok
  step_kept at e =
      let a = alike_byte p q at 32 at e (omega arith) (omega arith) in
      let b = alike_byte p q at 32 (at + 1) e (omega arith) (omega arith) in
      let d = alike_byte p q at 32 (at + 2) e (omega arith) (omega arith) in
      let z = alike_in p q at 32 3 29 e (omega arith) in
      rw (step_ok, sign_ok, a, b, d, z, e)

  module _ (k : ℕ) (e : Alike p q (rule_at k) 520) where
    rule-byte : (j : ℕ) → j < 520 → get_or q (rule_at k + j) 0 ≡ get_or p (rule_at k + j) 0
    rule-byte j h = alike_byte p q (rule_at k) 520 (rule_at k + j) e (omega arith) (omega arith)

    rule-first : get_or q (rule_at k) 0 ≡ get_or p (rule_at k) 0
    rule-first = alike_byte p q (rule_at k) 520 (rule_at k) e (omega arith) (omega arith)

    pub rule_kept : subject_count p ≤ subject_count q → rule_ok p k ≡ true → rule_ok q k ≡ true
    unfolding rule_ok
    rule_kept m o =
        let f = simp (rule_ok, and-eq-true_iff) at o in
        let n : step_count p k ≤ 16 = leb-true _ _ f.1.1.1.1.0 in
        rule_is q k (step_count p k) (rule-byte 3 (omega arith))
        (ap (λ (b : ℕ). leb b 1) rule-first ∙ f.0)
        (ap bit_ok (rule-byte 1 (omega arith)) ∙ f.1.0)
        (lt-ltb (whose q k) (subject_count q) (omega (arith, ltb-true (whose p k) (subject_count p) f.1.1.0, rule-byte 2 (omega arith))))
        f.1.1.1.0
        f.1.1.1.1.0
        (zeros_alike p q (rule_at k + 4) 4 (alike_in p q (rule_at k) 520 4 4 e (omega arith)) f.1.1.1.1.1.0)
        (every-kept (λ j. step_ok p (steps_at k + j * 32)) (λ j. step_ok q (steps_at k + j * 32)) (step_count p k)
        (λ j l y. step_kept (steps_at k + j * 32) (alike_part p q (rule_at k) 520 (steps_at k + j * 32) 32 e (omega arith) (omega arith)) ∙ y)
        f.1.1.1.1.1.1.0)
        (zeros_alike p q (steps_at k + step_count p k * 32) ((16 - step_count p k) * 32)
        (alike_part p q (rule_at k) 520 (steps_at k + step_count p k * 32) ((16 - step_count p k) * 32) e (omega arith) (omega arith))
        f.1.1.1.1.1.1.1)

    steps-kept : (n j : ℕ) → n + j ≤ 16 → steps_from q (steps_at k) n j ≡ steps_from p (steps_at k) n j
    unfolding steps_from
    steps-kept zero j h = refl
    steps-kept (suc n) j h =
        ap₂ (λ (a : Axis × Test) (b : List (Axis × Test)). a ∷ b)
        (ap step_of (alike_part p q (rule_at k) 520 (steps_at k + j * 32) 32 e (omega arith) (omega arith)))
        (steps-kept n (suc j) (omega arith))

    pub rule_same : step_count p k ≤ 16 → rule_of q k ≡ rule_of p k
    rule_same h =
        let c : step_count q k ≡ step_count p k = rule-byte 3 (omega arith) in
        let s : steps_from q (steps_at k) (step_count q k) 0 ≡ steps_from p (steps_at k) (step_count p k) 0 = ap (λ (n : ℕ). steps_from q (steps_at k) n 0) c ∙ steps-kept (step_count p k) 0 (omega arith) in
        make (ap (λ (b : ℕ). not (eqb b 0)) rule-first) (rule-byte 1 (omega arith)) (rule-byte 2 (omega arith)) s
      where
        make : {a a' : Bool} {b b' w w' : ℕ} {ps ps' : List (Axis × Test)} → a ≡ a' → b ≡ b' → w ≡ w' → ps ≡ ps' → ◌≡◌ {A = Rule} (record { accept = a; right = b; who = w; path = ps }) (record { accept = a'; right = b'; who = w'; path = ps' })
        make i j l m = rw (i, j, l, m)

  pub rule_in : (n k : ℕ) → Alike p q 2312 (n * 520) → k < n → Alike p q (rule_at k) 520
  rule_in n k e h = alike_in p q 2312 (n * 520) (k * 520) 520 e (omega arith)

  -- a part whose bytes and count are alike
  pub subjects_kept : Alike p q 8 2048 → subject_count q ≡ subject_count p → subjects_ok p ≡ true → subjects_ok q ≡ true
  subjects_kept e c o =
      let f = subjects_have p o in
      subjects_are q (subject_count p) c (le-leb _ _ f.0)
      (every-kept (subject_ok p) (subject_ok q) (subject_count p) (λ k h. subject_kept (subject_count p) k (alike_part p q 8 2048 8 (subject_count p * 32) e (omega arith) (omega (arith, f.0))) h) f.1)
      (zeros_alike p q (subject_at (subject_count p)) ((64 - subject_count p) * 32) (alike_part p q 8 2048 (subject_at (subject_count p)) ((64 - subject_count p) * 32) e (omega arith) (omega (arith, f.0))) f.2)

  pub isas_kept : Alike p q 2056 256 → isa_count q ≡ isa_count p → subject_count p ≤ subject_count q → isas_ok p ≡ true → isas_ok q ≡ true
  isas_kept e c m o =
      let f = isas_have p o in
      isas_are q (isa_count p) c (le-leb _ _ f.0)
      (every-kept (isa_ok p) (isa_ok q) (isa_count p) (λ k h. isa_kept (isa_count p) k (alike_part p q 2056 256 2056 (isa_count p * 2) e (omega arith) (omega (arith, f.0))) h m) f.1)
      (zeros_alike p q (isa_at (isa_count p)) ((128 - isa_count p) * 2) (alike_part p q 2056 256 (isa_at (isa_count p)) ((128 - isa_count p) * 2) e (omega arith) (omega (arith, f.0))) f.2)

  pub rules_kept : Alike p q 2312 66560 → rule_count q ≡ rule_count p → subject_count p ≤ subject_count q → rules_ok p ≡ true → rules_ok q ≡ true
  rules_kept e c m o =
      let f = rules_have p o in
      rules_are q (rule_count p) c (le-leb _ _ f.0)
      (every-kept (rule_ok p) (rule_ok q) (rule_count p) (λ k h. rule_kept k (alike_part p q 2312 66560 (rule_at k) 520 e (omega arith) (omega (arith, f.0))) m) f.1)
      (zeros_alike p q (rule_at (rule_count p)) ((128 - rule_count p) * 520) (alike_part p q 2312 66560 (rule_at (rule_count p)) ((128 - rule_count p) * 520) e (omega arith) (omega (arith, f.0))) f.2)

  -- a part with one more
  pub subjects_more : subject_count p < 64 → Alike p q 8 (subject_count p * 32) → Alike p q (subject_at (subject_count p + 1)) ((64 - (subject_count p + 1)) * 32) → subject_count q ≡ subject_count p + 1 → subject_ok q (subject_count p) ≡ true → subjects_ok p ≡ true → subjects_ok q ≡ true
  subjects_more l b a c x o =
      let f = subjects_have p o in
      subjects_are q (subject_count p + 1) c (le-leb (subject_count p + 1) 64 (omega arith))
      (every_more (subject_ok q) (subject_count p) (every-kept (subject_ok p) (subject_ok q) (subject_count p) (λ k h. subject_kept (subject_count p) k b h) f.1) x)
      (zeros_alike p q (subject_at (subject_count p + 1)) ((64 - (subject_count p + 1)) * 32) a
      (zeros_part p (subject_at (subject_count p)) ((64 - subject_count p) * 32) (subject_at (subject_count p + 1)) ((64 - (subject_count p + 1)) * 32) f.2 (omega arith) (omega arith)))

  pub isas_more : isa_count p < 128 → Alike p q 2056 (isa_count p * 2) → Alike p q (isa_at (isa_count p + 1)) ((128 - (isa_count p + 1)) * 2) → isa_count q ≡ isa_count p + 1 → subject_count p ≤ subject_count q → isa_ok q (isa_count p) ≡ true → isas_ok p ≡ true → isas_ok q ≡ true
  isas_more l b a c m x o =
      let f = isas_have p o in
      isas_are q (isa_count p + 1) c (le-leb (isa_count p + 1) 128 (omega arith))
      (every_more (isa_ok q) (isa_count p) (every-kept (isa_ok p) (isa_ok q) (isa_count p) (λ k h. isa_kept (isa_count p) k b h m) f.1) x)
      (zeros_alike p q (isa_at (isa_count p + 1)) ((128 - (isa_count p + 1)) * 2) a
      (zeros_part p (isa_at (isa_count p)) ((128 - isa_count p) * 2) (isa_at (isa_count p + 1)) ((128 - (isa_count p + 1)) * 2) f.2 (omega arith) (omega arith)))

  pub rules_more : rule_count p < 128 → Alike p q 2312 (rule_count p * 520) → Alike p q (rule_at (rule_count p + 1)) ((128 - (rule_count p + 1)) * 520) → rule_count q ≡ rule_count p + 1 → subject_count p ≤ subject_count q → rule_ok q (rule_count p) ≡ true → rules_ok p ≡ true → rules_ok q ≡ true
  rules_more l b a c m x o =
      let f = rules_have p o in
      rules_are q (rule_count p + 1) c (le-leb (rule_count p + 1) 128 (omega arith))
      (every_more (rule_ok q) (rule_count p) (every-kept (rule_ok p) (rule_ok q) (rule_count p) (λ k h. rule_kept k (rule_in (rule_count p) k b h) m) f.1) x)
      (zeros_alike p q (rule_at (rule_count p + 1)) ((128 - (rule_count p + 1)) * 520) a
      (zeros_part p (rule_at (rule_count p)) ((128 - rule_count p) * 520) (rule_at (rule_count p + 1)) ((128 - (rule_count p + 1)) * 520) f.2 (omega arith) (omega arith)))

  -- what the alike bytes hold
  names_alike : (n i : ℕ) → ((k : ℕ) → k < n → name_at q (i + k) ≡ name_at p (i + k)) → names_from q n i ≡ names_from p n i
  unfolding names_from
  names_alike zero i h = refl
  names_alike (suc n) i h =
      ap₂ (λ (a : List ℕ) (b : List (List ℕ)). a ∷ b)
      (rw (add-zero i) at (h 0 (omega arith)))
      (names_alike n (suc i) (λ k l. let z : suc i + k ≡ i + suc k = omega arith in rw z (h (suc k) (omega arith))))

  isas_alike : (n i : ℕ) → ((k : ℕ) → k < n → (isa_n q (i + k) ≡ isa_n p (i + k)) × (isa_r q (i + k) ≡ isa_r p (i + k))) → isa_from q n i ≡ isa_from p n i
  unfolding isa_from
  isas_alike zero i h = refl
  isas_alike (suc n) i h =
      let w = rw (add-zero i) at (h 0 (omega arith)) in
      ap₂ (λ (a : ℕ × ℕ) (b : List (ℕ × ℕ)). a ∷ b)
      (ap₂ (λ (a b : ℕ). (a, b)) w.0 w.1)
      (isas_alike n (suc i) (λ k l. let z : suc i + k ≡ i + suc k = omega arith in rw z (h (suc k) (omega arith))))

  rules_alike : (n i : ℕ) → ((k : ℕ) → k < n → rule_of q (i + k) ≡ rule_of p (i + k)) → rules_from q n i ≡ rules_from p n i
  unfolding rules_from
  rules_alike zero i h = refl
  rules_alike (suc n) i h =
      ap₂ (λ (a : Rule) (b : List Rule). a ∷ b)
      (rw (add-zero i) at (h 0 (omega arith)))
      (rules_alike n (suc i) (λ k l. let z : suc i + k ≡ i + suc k = omega arith in rw z (h (suc k) (omega arith))))

  pub names_same : (n : ℕ) → Alike p q 8 (n * 32) → names_from q n 0 ≡ names_from p n 0
  names_same n e = names_alike n 0 (λ k h. rw (zero-add k) (name_kept n k e h))

  pub isas_same : (n : ℕ) → Alike p q 2056 (n * 2) → isa_from q n 0 ≡ isa_from p n 0
  isas_same n e = isas_alike n 0 (λ k h. rw (zero-add k) (n_kept n k e h, r_kept n k e h))

  pub rules_same : (n : ℕ) → Alike p q 2312 (n * 520) → every (rule_ok p) n ≡ true → rules_from q n 0 ≡ rules_from p n 0
  rules_same n e o = rules_alike n 0 (λ k h. rw (zero-add k) (rule_same k (rule_in n k e h) (few k (every_at (rule_ok p) n k h o))))
    where
      few : (k : ℕ) → rule_ok p k ≡ true → step_count p k ≤ 16
      few k w = unfold rule_ok in leb-true _ _ (simp (rule_ok, and-eq-true_iff) at w).1.1.1.1.0

-- and one more of them
module _ (p : List ℕ) where
  pub names_snoc : (n i : ℕ) → names_from p (suc n) i ≡ names_from p n i ++ (name_at p (i + n) ∷ [])
  unfolding names_from
  names_snoc zero i = rw (add-zero i)
  names_snoc (suc n) i = let z : i + suc n ≡ suc i + n = omega arith in rw z (ap (λ (l : List (List ℕ)). name_at p i ∷ l) (names_snoc n (suc i)))

  pub isas_snoc : (n i : ℕ) → isa_from p (suc n) i ≡ isa_from p n i ++ ((isa_n p (i + n), isa_r p (i + n)) ∷ [])
  unfolding isa_from
  isas_snoc zero i = rw (add-zero i)
  isas_snoc (suc n) i = let z : i + suc n ≡ suc i + n = omega arith in rw z (ap (λ (l : List (ℕ × ℕ)). (isa_n p i, isa_r p i) ∷ l) (isas_snoc n (suc i)))

  pub rules_snoc : (n i : ℕ) → rules_from p (suc n) i ≡ rules_from p n i ++ (rule_of p (i + n) ∷ [])
  unfolding rules_from
  rules_snoc zero i = rw (add-zero i)
  rules_snoc (suc n) i = let z : i + suc n ≡ suc i + n = omega arith in rw z (ap (λ (l : List Rule). rule_of p i ∷ l) (rules_snoc n (suc i)))

pub policy_holds : (q : List ℕ) (ns : List (List ℕ)) (is : List (ℕ × ℕ)) (rs : List Rule) → names_from q (subject_count q) 0 ≡ ns → isa_from q (isa_count q) 0 ≡ is → rules_from q (rule_count q) 0 ≡ rs → policy_of q ≡ record { names = ns; isa = is; rules = rs }
unfolding policy_of
policy_holds q ns is rs a b d = rw (a, b, d)
