-- A policy that passes the check is one that document 01 allows, and its bytes hold it and nothing else. Assumes nothing.
use Prim.Native.Nat.{ℕ, zero, suc, ◌+◌, ◌*◌, ◌-◌, ◌≤◌, ◌<◌}
use mathlib.Core.Path.{◌≡◌, refl, sym, ap, ap₂, ◌∙◌, subst}
use mathlib.Core.Bool.{true, false, not, false≢true, and-eq-true_iff}
use mathlib.Core.List.{List, [], ◌∷◌, ◌++◌}
use native.Mathlib.Nat.{zero-add}
use native.Mathlib.Omega.{arith}
use borrow.Author.Tests.{leb-true, ltb-true, eqb-true, eq-eqb, not-true}
use lib.Dec.{eqb, leb}
use lib.ListN.{length, get_or, take, drop, replicate, take-append-drop, length-drop}
use lib.Seq.{take-add, take_all, length-take-le, drop-drop}
use Rattle.rights.specs.Bytes.{every, zeros}
use Rattle.rights.specs.Marks.{bit, each_from}
use Rattle.rights.specs.Labels.{same_label, restricted}
use Rattle.rights.specs.Path.{Axis, Test, Child, any}
use Rattle.rights.specs.Policy.{position, read, insert, update, delete, name_of}
use Rattle.rights.specs.PolicyBytes.{subject_count, isa_count, rule_count, subject_at, isa_at, rule_at, steps_at, name_at, isa_n, isa_r, accepts, right_bit, whose, step_count, step_of, stored_path, rule_of, policy_of}
use Rattle.rights.specs.PolicyCheck.{text_ok, step_ok, bit_ok, rule_ok, subject_ok, same_isa, isa_ok, policy_ok}
use Rattle.rights.specs.Record.{name_record}
use Rattle.rights.specs.Table.{rec_at}
use Rattle.rights.specs.Allowed.{All, LabelOk, AllowedIsa, AllowedRight, AllowedTest, AllowedRule, AllowedPolicy}
use Rattle.rights.specs.Held.{in_places, isa_bytes, step_record, rule_head, rule_bytes, policy_head, held_policy, HoldsPolicy}
use Rattle.rights.specs.How.Roles.{Subjects, name_among}
use Rattle.rights.proofs.BoolLaws.{or_split}
use Rattle.rights.proofs.EveryLaws.{every_at}
use Rattle.rights.proofs.MarkLaws.{each-length, each_at}
use Rattle.rights.proofs.AllLaws.{each_all, steps-each, listed, policy_listed}
use Rattle.rights.proofs.PlaceLaws.{Places, places_bytes, zero_replicate}
use Rattle.rights.proofs.PolicyPartLaws.{parts, subjects_have, isas_have, rules_have}
use Rattle.rights.proofs.HeldRecordLaws.{name_made, record_long}
use Rattle.rights.proofs.HeldStepLaws.{StepHeld, step-held}
use Rattle.rights.proofs.LabelLaws.{same_sym}
use Rattle.rights.proofs.OwnNames.{some_no}
use Rattle.rights.proofs.PartLaws.{next_byte}
use Rattle.rights.proofs.TableLaws.{both}

-- elements that are given by number, in their places
each_places : {A : Type 0} (f : A → List ℕ) (w : ℕ) (p : List ℕ) (a most : ℕ) (d : A) (g : ℕ → A) (n : ℕ)
    → ((k : ℕ) → k < n → take w (drop (a + k * w) p) ≡ f (g k)) → zeros p (a + n * w) ((most - n) * w) ≡ true → Places f w p a most d (each_from g 0 n)
each_places f w p a most d g n h z =
    let l = each-length g 0 n in
    record {
      each = λ k q. h k (omega (arith, l)) ∙ ap f (sym (each_at g d 0 n k (omega (arith, l)) ∙ ap g (zero-add k)));
      rest = rw l z;
    }

-- "RIGHT is position, read, insert, update or delete."
right_allowed : (b : ℕ) → bit_ok b ≡ true → AllowedRight b
unfolding bit_ok
right_allowed b e =
    or_split (eqb b 1) _ e (λ q. record { right = position; is = eqb-true b 1 q }) λ e.
    or_split (eqb b 2) _ e (λ q. record { right = read; is = eqb-true b 2 q }) λ e.
    or_split (eqb b 4) _ e (λ q. record { right = insert; is = eqb-true b 4 q }) λ e.
    or_split (eqb b 8) _ e (λ q. record { right = update; is = eqb-true b 8 q }) λ e.
    record { right = delete; is = eqb-true b 16 e }

-- some bytes, one by one, and zeros
four : (p : List ℕ) (a : ℕ) → a + 8 ≤ length p
    → take 8 (drop a p) ≡ get_or p a 0 ∷ get_or p (a + 1) 0 ∷ get_or p (a + 2) 0 ∷ get_or p (a + 3) 0 ∷ take 4 (drop (a + 4) p)
four p a h =
    let b : a + 1 + 1 ≡ a + 2 = omega arith in
    let d : a + 2 + 1 ≡ a + 3 = omega arith in
    let f : a + 3 + 1 ≡ a + 4 = omega arith in
    let e1 = rw b at (next_byte p (a + 1) (omega arith)) in
    let e2 = rw d at (next_byte p (a + 2) (omega arith)) in
    let e3 = rw f at (next_byte p (a + 3) (omega arith)) in
    ap (take 8)
    (next_byte p a (omega arith)
    ∙ ap (λ (l : List ℕ). get_or p a 0 ∷ l) (e1 ∙ ap (λ (l : List ℕ). get_or p (a + 1) 0 ∷ l) (e2 ∙ ap (λ (l : List ℕ). get_or p (a + 2) 0 ∷ l) e3)))

zeros_are : (p : List ℕ) (a n : ℕ) → a + n ≤ length p → zeros p a n ≡ true → take n (drop a p) ≡ replicate n 0
zeros_are p a n h z = zero_replicate (take n (drop a p)) z ∙ ap (λ (k : ℕ). replicate k 0) (length-take-le n (drop a p) (rw length-drop (omega arith)))

bit_made : (b : ℕ) → b ≤ 1 → b ≡ bit (not (eqb b 0))
bit_made zero h = refl
bit_made (suc zero) h = refl
bit_made (suc (suc b)) h = absurd (omega arith)

between : (a b d : ℕ) → leb a b ≡ true → leb b d ≡ true → a ≤ d
between a b d e f = omega (arith, leb-true a b e, leb-true b d f)

-- rule k
module _ (p : List ℕ) (k : ℕ) (long : length p ≡ 68872) (low : k < 128) (e : rule_ok p k ≡ true) where
  record Passed : Type 0 where
    accept : get_or p (rule_at k) 0 ≤ 1
    right : bit_ok (right_bit p k) ≡ true
    who : whose p k < subject_count p
    some : 1 ≤ step_count p k
    short : step_count p k ≤ 16
    spare : zeros p (rule_at k + 4) 4 ≡ true
    steps : every (λ j. step_ok p (steps_at k + j * 32)) (step_count p k) ≡ true
    rest : zeros p (steps_at k + step_count p k * 32) ((16 - step_count p k) * 32) ≡ true

  passed : Passed
  unfolding rule_ok
  passed =
      let f = simp (rule_ok, and-eq-true_iff) at e in
      record {
        accept = between (get_or p (rule_at k) 0) _ 1 f.0 refl;
        right = f.1.0;
        who = ltb-true _ _ f.1.1.0;
        some = between 1 _ (step_count p k) refl f.1.1.1.0;
        short = between (step_count p k) _ 16 f.1.1.1.1.0 refl;
        spare = f.1.1.1.1.1.0;
        steps = f.1.1.1.1.1.1.0;
        rest = f.1.1.1.1.1.1.1;
      }

  step_is : (j : ℕ) → j < step_count p k → StepHeld (rec_at p (steps_at k + j * 32))
  step_is j h = step-held p (steps_at k + j * 32) (omega (arith, passed.short)) (every_at (λ j. step_ok p (steps_at k + j * 32)) (step_count p k) j h passed.steps)

  abbrev path_each : List (Axis × Test)
  path_each = each_from (λ j. step_of (rec_at p (steps_at k + j * 32))) 0 (step_count p k)

  path_is : stored_path p k ≡ path_each
  path_is = steps-each p (steps_at k) (step_count p k) 0

  path_long : length (stored_path p k) ≡ step_count p k
  path_long = ap length path_is ∙ each-length (λ j. step_of (rec_at p (steps_at k + j * 32))) 0 (step_count p k)

  rule_allowed : (names : List (List ℕ)) → length names ≡ subject_count p → AllowedRule names (rule_of p k)
  rule_allowed names l = record {
    right = right_allowed (right_bit p k) passed.right;
    declared = omega (arith, passed.who);
    some = omega (arith, path_long, passed.some);
    short = omega (arith, path_long, passed.short);
    steps = subst (All (λ w. AllowedTest w.1)) (sym path_is)
        (each_all (λ w. AllowedTest w.1) (λ j. step_of (rec_at p (steps_at k + j * 32))) 0 (step_count p k) (λ j h. rw (zero-add j) (step_is j h).1));
  }

  head_made : take 8 (drop (rule_at k) p) ≡ rule_head (bit (accepts p k)) (right_bit p k) (whose p k) (length (stored_path p k))
  head_made =
      four p (rule_at k) (omega arith)
      ∙ rw (zeros_are p (rule_at k + 4) 4 (omega arith) passed.spare, path_long) (ap (λ (b : ℕ). b ∷ right_bit p k ∷ whose p k ∷ step_count p k ∷ replicate 4 0) (bit_made (get_or p (rule_at k) 0) passed.accept))

  rule_made : take 520 (drop (rule_at k) p) ≡ rule_bytes (rule_of p k)
  rule_made =
      let ps : Places step_record 32 p (steps_at k) 16 (Child, any) path_each =
      each_places step_record 32 p (steps_at k) 16 (Child, any) (λ j. step_of (rec_at p (steps_at k + j * 32))) (step_count p k) (λ j h. (step_is j h).0) passed.rest in
      let few : length path_each ≤ 16 = omega (arith, each-length (λ j. step_of (rec_at p (steps_at k + j * 32))) 0 (step_count p k), passed.short) in
      take-add 8 512 (drop (rule_at k) p)
      ∙ ap₂ ◌++◌ head_made
      (ap (take 512) (drop-drop 8 (rule_at k) p)
      ∙ places_bytes step_record 32 p (steps_at k) 16 (Child, any) path_each few (omega arith) ps
      ∙ ap (in_places 16 32 step_record) (sym path_is))

-- the whole policy
same_line : (p : List ℕ) (i j : ℕ) → isa_n p i ≡ isa_n p j → isa_r p i ≡ isa_r p j → same_isa p i j ≡ true
same_line p i j a b = rw (eq-eqb (isa_n p i) (isa_n p j) a, eq-eqb (isa_r p i) (isa_r p j) b)

module _ (p : List ℕ) (ok : policy_ok p ≡ true) where
  long : length p ≡ 68872
  long = (parts p ok).long

  -- subject k
  subjects : (subject_count p ≤ 64) × (every (subject_ok p) (subject_count p) ≡ true) × (zeros p (subject_at (subject_count p)) ((64 - subject_count p) * 32) ≡ true)
  subjects = subjects_have p (parts p ok).subjects

  subject_passed : (k : ℕ) → k < subject_count p → (text_ok 0 (rec_at p (subject_at k)) ≡ true) × (every (λ j. not (same_label (name_at p j) (name_at p k))) k ≡ true)
  unfolding subject_ok
  subject_passed k h = both (text_ok 0 (rec_at p (subject_at k))) _ (every_at (subject_ok p) (subject_count p) k h subjects.1)

  name_is : (k : ℕ) → k < subject_count p → (name_record 0 (name_at p k) ≡ rec_at p (subject_at k)) × LabelOk (name_at p k)
  name_is k h =
      let r : List ℕ = rec_at p (subject_at k) in
      let m = name_made 0 (rec_at p (subject_at k)) (record_long p (subject_at k) (omega (arith, long, subjects.0))) (subject_passed k h).0 in
      let z : get_or (rec_at p (subject_at k)) 0 0 ≡ 0 = omega (arith, m.0) in
      (ap (λ (l : ℕ). name_record l (name_at p k)) (sym z) ∙ m.1, m.2)

  -- isa line k
  isas : (isa_count p ≤ 128) × (every (isa_ok p) (isa_count p) ≡ true) × (zeros p (isa_at (isa_count p)) ((128 - isa_count p) * 2) ≡ true)
  isas = isas_have p (parts p ok).isas

  isa_passed : (k : ℕ) → k < isa_count p → (isa_r p k < isa_n p k) × (isa_n p k < subject_count p) × (every (λ j. not (same_isa p j k)) k ≡ true)
  unfolding isa_ok
  isa_passed k h =
      let f = simp (isa_ok, and-eq-true_iff) at (every_at (isa_ok p) (isa_count p) k h isas.1) in
      (ltb-true _ _ f.0, ltb-true _ _ f.1.0, f.1.1)

  isa_made : (k : ℕ) → k < isa_count p → take 2 (drop (isa_at k) p) ≡ isa_bytes (isa_n p k, isa_r p k)
  isa_made k h =
      ap (take 2)
      (next_byte p (isa_at k) (omega (arith, long, isas.0))
      ∙ ap (λ (l : List ℕ). isa_n p k ∷ l) (next_byte p (isa_at k + 1) (omega (arith, long, isas.0))))

  -- rule k
  rules : (rule_count p ≤ 128) × (every (rule_ok p) (rule_count p) ≡ true) × (zeros p (rule_at (rule_count p)) ((128 - rule_count p) * 520) ≡ true)
  rules = rules_have p (parts p ok).rules

  names_long : length (listed p).names ≡ subject_count p
  names_long = each-length (name_at p) 0 (subject_count p)

  isa_long : length (listed p).isa ≡ isa_count p
  isa_long = each-length (λ k. (isa_n p k, isa_r p k)) 0 (isa_count p)

  rules_long : length (listed p).rules ≡ rule_count p
  rules_long = each-length (rule_of p) 0 (rule_count p)

  name_listed : (k : ℕ) → k < subject_count p → name_of (listed p) k ≡ name_at p k
  name_listed k h = each_at (name_at p) [] 0 (subject_count p) k h ∙ ap (name_at p) (zero-add k)

  isa_listed : (k : ℕ) → k < isa_count p → get_or (listed p).isa k (0, 0) ≡ (isa_n p k, isa_r p k)
  isa_listed k h = each_at (λ k. (isa_n p k, isa_r p k)) (0, 0) 0 (isa_count p) k h ∙ ap (λ (i : ℕ). (isa_n p i, isa_r p i)) (zero-add k)

  listed_allowed : AllowedPolicy (listed p)
  listed_allowed = record {
    few_names = omega (arith, names_long, subjects.0);
    names = each_all LabelOk (name_at p) 0 (subject_count p) (λ k h. rw (zero-add k) (name_is k h).1);
    names_differ = λ i j l h.
        let n : j < subject_count p = omega (arith, names_long) in
        ap₂ same_label (name_listed i (omega arith)) (name_listed j n)
        ∙ not-true _ (every_at (λ j'. not (same_label (name_at p j') (name_at p j))) j i l (subject_passed j n).1);
    few_isa = omega (arith, isa_long, isas.0);
    isa = each_all (AllowedIsa (listed p).names) (λ k. (isa_n p k, isa_r p k)) 0 (isa_count p)
        (λ k h. rw (zero-add k) (let f = isa_passed k h in record { declared = omega (arith, f.1, names_long); before = f.0 }));
    isa_differ = λ i j l h e.
        let n : j < isa_count p = omega (arith, isa_long) in
        let q : ◌≡◌ {A = ℕ × ℕ} (isa_n p i, isa_r p i) (isa_n p j, isa_r p j) = sym (isa_listed i (omega arith)) ∙ e ∙ isa_listed j n in
        let s = same_line p i j (ap (λ (w : ℕ × ℕ). w.0) q) (ap (λ (w : ℕ × ℕ). w.1) q) in
        let f = not-true _ (every_at (λ j'. not (same_isa p j' j)) j i l (isa_passed j n).2) in
        false≢true (sym f ∙ s);
    few_rules = omega (arith, rules_long, rules.0);
    rules = each_all (AllowedRule (listed p).names) (rule_of p) 0 (rule_count p)
        (λ k h. rw (zero-add k) (rule_allowed p k long (omega (arith, rules.0)) (every_at (rule_ok p) (rule_count p) k h rules.1) (listed p).names names_long));
  }

  head_is : take 8 p ≡ policy_head (listed p)
  head_is =
      four p 0 (omega (arith, long))
      ∙ ap (λ (l : List ℕ). get_or p 0 0 ∷ get_or p 1 0 ∷ get_or p 2 0 ∷ l) (ap (take 5) (sym (next_byte p 3 (omega (arith, long)))) ∙ zeros_are p 3 5 (omega (arith, long)) (parts p ok).spare)
      ∙ rw (names_long, isa_long, rules_long)

  listed-bytes : p ≡ held_policy (listed p)
  unfolding held_policy
  listed-bytes =
      let a = places_bytes (name_record 0) 32 p 8 64 [] (listed p).names listed_allowed.few_names (omega (arith, long))
      (each_places (name_record 0) 32 p 8 64 [] (name_at p) (subject_count p) (λ k h. sym (name_is k h).0) subjects.2) in
      let b = places_bytes isa_bytes 2 p 2056 128 (0, 0) (listed p).isa listed_allowed.few_isa (omega (arith, long))
      (each_places isa_bytes 2 p 2056 128 (0, 0) (λ k. (isa_n p k, isa_r p k)) (isa_count p) isa_made isas.2) in
      let d = places_bytes rule_bytes 520 p 2312 128 (rule_of p 0) (listed p).rules listed_allowed.few_rules (omega (arith, long))
      (each_places rule_bytes 520 p 2312 128 (rule_of p 0) (rule_of p) (rule_count p)
      (λ k h. rule_made p k long (omega (arith, rules.0)) (every_at (rule_ok p) (rule_count p) k h rules.1)) rules.2) in
      let all : take 66560 (drop 2312 p) ≡ drop 2312 p = take_all 66560 (drop 2312 p) (omega (arith, long, length-drop 2312 p)) in
      sym (take-append-drop 8 p)
      ∙ ap₂ ◌++◌ head_is
      (sym (take-append-drop 2048 (drop 8 p))
      ∙ ap₂ ◌++◌ a
      (drop-drop 2048 8 p ∙ sym (take-append-drop 256 (drop 2056 p))
      ∙ ap₂ ◌++◌ b
      (drop-drop 256 2056 p ∙ sym all ∙ d)))

-- 13, for a policy: what passes is what document 01 allows, and nothing else stands in its bytes.
pub policy_allowed : (p : List ℕ) → policy_ok p ≡ true → HoldsPolicy p (policy_of p)
policy_allowed p ok = subst (HoldsPolicy p) (sym (policy_listed p)) (record { allowed = listed_allowed p ok; bytes = listed-bytes p ok })

-- RESTRICTED is no subject's name, so it passes no `$`.
pub restricted_no_name : (p : List ℕ) → policy_ok p ≡ true → (own : List ℕ) → Subjects p own → name_among p own restricted ≡ false
restricted_no_name p ok own known =
    some_no (λ k. same_label restricted (name_at p k)) own (λ i h. let k = get_or own i 0 in
    same_sym restricted (name_at p k) ∙ (name_is p ok k (known.at i h).declared).1.free)
