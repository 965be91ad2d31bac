-- A policy that document 01 allows passes the check as it is held, and is read again. Assumes nothing.
use Prim.Native.Nat.{ℕ, ◌+◌, ◌*◌, ◌≤◌, ◌<◌}
use mathlib.Core.Path.{◌≡◌, refl, sym, ap, ap₂, ◌∙◌}
use mathlib.Core.Bool.{Bool, true, false, not}
use mathlib.Core.List.{List, [], ◌∷◌, ◌++◌}
use native.Mathlib.Nat.{zero-add, add-zero}
use native.Mathlib.Omega.{arith}
use borrow.Author.Tests.{le-leb, lt-ltb, eqb-true}
use lib.Dec.{lit<, eqb}
use lib.ListN.{length, get_or, take, drop, length-append}
use lib.Seq.{get_or-take, get_or-drop, take-length}
use Rattle.rights.specs.Bytes.{all, is_zero, zeros}
use Rattle.rights.specs.Marks.{bit, each_from}
use Rattle.rights.specs.Labels.{same_label}
use Rattle.rights.specs.Path.{Axis, Test, Child, any}
use Rattle.rights.specs.Policy.{Right, position, read, insert, update, delete, bit_of, Rule, Policy, name_of}
use Rattle.rights.specs.PolicyBytes.{subject_count, isa_at, rule_at, steps_at, name_at, isa_n, isa_r, whose, step_count, step_of, stored_path, rule_of, policy_of}
use Rattle.rights.specs.PolicyCheck.{text_ok, step_ok, bit_ok, rule_ok, subject_ok, same_isa, isa_ok, policy_ok}
use Rattle.rights.specs.Record.{no_spare, name_record}
use Rattle.rights.specs.Table.{rec_at, label}
use Rattle.rights.specs.Allowed.{All, LabelOk, AllowedIsa, AllowedTest, AllowedRule, AllowedPolicy}
use Rattle.rights.specs.Held.{in_places, isa_bytes, step_record, rule_head, rule_bytes, policy_head, held_policy, HoldsPolicy}
use Rattle.rights.proofs.AllLaws.{all-nth, all_with, each_of, steps-each, policy_listed}
use Rattle.rights.proofs.EveryLaws.{every-all}
use Rattle.rights.proofs.PartLaws.{part_split}
use Rattle.rights.proofs.PlaceLaws.{Wide, Places, length_places, bytes_places}
use Rattle.rights.proofs.PolicyPartLaws.{isa_is, rule_is, subjects_are, isas_are, rules_are, policy_is}
use Rattle.rights.proofs.RecordOfLaws.{length_name, label_made, name_ok}
use Rattle.rights.proofs.HeldStepLaws.{allowed_good, step-length, step-passes, step_back}
use Rattle.rights.proofs.TableLaws.{both}
use Rattle.rights.proofs.WordLaws.{subject_is}

-- the five rights have the bits that the check asks for
pub right_bit_lem : (r : Right) → bit_ok (bit_of r) ≡ true
unfolding bit_ok
right_bit_lem position = refl
right_bit_lem read = refl
right_bit_lem insert = refl
right_bit_lem update = refl
right_bit_lem delete = refl

-- two numbers are equal or not
not_same : (b : Bool) → (b ≡ true → ⊥) → not b ≡ true
not_same true h = absurd (h refl)
not_same false h = refl

bit_back : (b : Bool) → not (eqb (bit b) 0) ≡ b
bit_back true = refl
bit_back false = refl

bit_low : (b : Bool) → bit b ≤ 1
bit_low true = omega arith
bit_low false = omega arith

-- a byte of a part
part_byte : (q : List ℕ) (a n : ℕ) (r : List ℕ) → take n (drop a q) ≡ r → (j : ℕ) → j < n → get_or q (a + j) 0 ≡ get_or r j 0
part_byte q a n r e j h = sym (get_or-drop a q j 0) ∙ sym (get_or-take n (drop a q) j 0 h) ∙ ap (λ (l : List ℕ). get_or l j 0) e

first_byte : (q : List ℕ) (a n : ℕ) (r : List ℕ) → take n (drop a q) ≡ r → 0 < n → get_or q a 0 ≡ get_or r 0 0
first_byte q a n r e h = ap (λ (k : ℕ). get_or q k 0) (sym (add-zero a)) ∙ part_byte q a n r e 0 h

-- a step that may be held takes 32 bytes
abbrev Steps : List (Axis × Test) → Type 0
Steps ws = All (λ w. AllowedTest w.1) ws

steps_wide : (ws : List (Axis × Test)) → Steps ws → Wide step_record 32 ws
steps_wide ws h = all_with (λ (w : Axis × Test). AllowedTest w.1) (λ w g. step-length w (allowed_good w.1 g)) ws h

rule_long : (names : List (List ℕ)) (r : Rule) → AllowedRule names r → length (rule_bytes r) ≡ 520
rule_long names r h =
    length-append (rule_head (bit r.accept) r.right r.who (length r.path)) (in_places 16 32 step_record r.path)
    ∙ ap (λ (n : ℕ). 8 + n) (length_places step_record 32 16 r.path (steps_wide r.path h.steps) h.short)

-- A rule that is held at place k
module _ (q : List ℕ) (k : ℕ) (names : List (List ℕ)) (r : Rule) (ok : AllowedRule names r) (e : take 520 (drop (rule_at k) q) ≡ rule_bytes r) where
  held : take (length (rule_bytes r)) (drop (rule_at k) q) ≡ rule_bytes r
  held = ap (λ (n : ℕ). take n (drop (rule_at k) q)) (rule_long names r ok) ∙ e

  abbrev head : List ℕ
  head = rule_head (bit r.accept) r.right r.who (length r.path)

  split : (take 8 (drop (rule_at k) q) ≡ head) × (take (length (in_places 16 32 step_record r.path)) (drop (steps_at k) q) ≡ in_places 16 32 step_record r.path)
  split = part_split q head (in_places 16 32 step_record r.path) (rule_at k) held

  steps_places : Places step_record 32 q (steps_at k) 16 (Child, any) r.path
  steps_places =
      let w = steps_wide r.path ok.steps in
      bytes_places step_record 32 q (steps_at k) 16 (Child, any) r.path ok.short w
      (ap (λ (n : ℕ). take n (drop (steps_at k) q)) (sym (length_places step_record 32 16 r.path w ok.short)) ∙ split.1)

  byte : (j : ℕ) → j < 8 → get_or q (rule_at k + j) 0 ≡ get_or head j 0
  byte = part_byte q (rule_at k) 8 head split.0

  first : get_or q (rule_at k) 0 ≡ bit r.accept
  first = first_byte q (rule_at k) 8 head split.0 (lit< tt)

  count-is : step_count q k ≡ length r.path
  count-is = byte 3 (lit< tt)

  step_allowed : (j : ℕ) → j < length r.path → AllowedTest (get_or r.path j (Child, any)).1
  step_allowed = all-nth (λ w. AllowedTest w.1) (Child, any) r.path ok.steps

  rule_passes : subject_count q ≡ length names → rule_ok q k ≡ true
  unfolding all
  rule_passes n =
      rule_is q k (length r.path) count-is
      (rw first (le-leb (bit r.accept) 1 (bit_low r.accept)))
      (ap bit_ok (byte 1 (lit< tt) ∙ ok.right.is) ∙ right_bit_lem ok.right.right)
      (lt-ltb (whose q k) (subject_count q) (omega (arith, byte 2 (lit< tt), ok.declared)))
      (le-leb 1 (length r.path) ok.some)
      (le-leb (length r.path) 16 ok.short)
      (ap (all is_zero) (part_split q (bit r.accept ∷ r.right ∷ r.who ∷ length r.path ∷ []) (0 ∷ 0 ∷ 0 ∷ 0 ∷ []) (rule_at k) split.0).1)
      (every-all (λ j. step_ok q (steps_at k + j * 32)) (length r.path) (λ j h. step-passes q (steps_at k + j * 32) (get_or r.path j (Child, any)) (steps_places.each j h) (step_allowed j h)))
      steps_places.rest

  path_back : stored_path q k ≡ r.path
  path_back =
      steps-each q (steps_at k) (step_count q k) 0
      ∙ ap (each_from (λ j. step_of (rec_at q (steps_at k + j * 32))) 0) count-is
      ∙ each_of (λ j. step_of (rec_at q (steps_at k + j * 32))) (Child, any) r.path 0
      (λ j h. ap (λ (i : ℕ). step_of (rec_at q (steps_at k + i * 32))) (zero-add j) ∙ ap step_of (steps_places.each j h) ∙ step_back (get_or r.path j (Child, any)) (allowed_good _ (step_allowed j h)))

  rule_back : rule_of q k ≡ r
  rule_back = make (ap (λ (b : ℕ). not (eqb b 0)) first ∙ bit_back r.accept) (byte 1 (lit< tt)) (byte 2 (lit< tt)) path_back
    where
      make : {a a' : Bool} {b b' w w' : ℕ} {ps ps' : List (Axis × Test)} → a ≡ a' → b ≡ b' → w ≡ w' → ps ≡ ps' → ◌≡◌ {A = Rule} (record { accept = a; right = b; who = w; path = ps }) (record { accept = a'; right = b'; who = w'; path = ps' })
      make i j l m = rw (i, j, l, m)

-- The whole policy
module _ (P : Policy) (ok : AllowedPolicy P) where
  abbrev names_part : List ℕ
  names_part = in_places 64 32 (name_record 0) P.names

  abbrev isa_part : List ℕ
  isa_part = in_places 128 2 isa_bytes P.isa

  abbrev rules_part : List ℕ
  rules_part = in_places 128 520 rule_bytes P.rules

  names_wide : Wide (name_record 0) 32 P.names
  names_wide = all_with LabelOk (λ s h. length_name 0 s h.short) P.names ok.names

  isa_wide : (ws : List (ℕ × ℕ)) → Wide isa_bytes 2 ws
  isa_wide [] = tt
  isa_wide (w ∷ ws) = (refl, isa_wide ws)

  rules_wide : Wide rule_bytes 520 P.rules
  rules_wide = all_with (AllowedRule P.names) (rule_long P.names) P.rules ok.rules

  names_long : length names_part ≡ 2048
  names_long = length_places (name_record 0) 32 64 P.names names_wide ok.few_names

  isa_long : length isa_part ≡ 256
  isa_long = length_places isa_bytes 2 128 P.isa (isa_wide P.isa) ok.few_isa

  rules_long : length rules_part ≡ 66560
  rules_long = length_places rule_bytes 520 128 P.rules rules_wide ok.few_rules

  long : length (held_policy P) ≡ 68872
  unfolding held_policy
  long =
      length-append (policy_head P) (names_part ++ (isa_part ++ rules_part))
      ∙ rw (length-append names_part (isa_part ++ rules_part), length-append isa_part rules_part, names_long, isa_long, rules_long)

  -- the four parts, each at its byte
  part_at : (x : List ℕ) (n a : ℕ) → length x ≡ n → take (length x) (drop a (held_policy P)) ≡ x → take n (drop a (held_policy P)) ≡ x
  part_at x n a l e = ap (λ (k : ℕ). take k (drop a (held_policy P))) (sym l) ∙ e

  from_names : (take 8 (held_policy P) ≡ policy_head P) × (take (length (names_part ++ (isa_part ++ rules_part))) (drop 8 (held_policy P)) ≡ names_part ++ (isa_part ++ rules_part))
  unfolding held_policy
  from_names = part_split (held_policy P) (policy_head P) (names_part ++ (isa_part ++ rules_part)) 0 (take-length (held_policy P))

  from_isa : (take 2048 (drop 8 (held_policy P)) ≡ names_part) × (take (length (isa_part ++ rules_part)) (drop 2056 (held_policy P)) ≡ isa_part ++ rules_part)
  from_isa =
      let s = part_split (held_policy P) names_part (isa_part ++ rules_part) 8 from_names.1 in
      (part_at names_part 2048 8 names_long s.0, rw names_long at s.1)

  from_rules : (take 256 (drop 2056 (held_policy P)) ≡ isa_part) × (take 66560 (drop 2312 (held_policy P)) ≡ rules_part)
  from_rules =
      let s = part_split (held_policy P) isa_part rules_part 2056 from_isa.1 in
      (part_at isa_part 256 2056 isa_long s.0, part_at rules_part 66560 2312 rules_long (rw isa_long at s.1))

  names_places : Places (name_record 0) 32 (held_policy P) 8 64 [] P.names
  names_places = bytes_places (name_record 0) 32 (held_policy P) 8 64 [] P.names ok.few_names names_wide from_isa.0

  isa_places : Places isa_bytes 2 (held_policy P) 2056 128 (0, 0) P.isa
  isa_places = bytes_places isa_bytes 2 (held_policy P) 2056 128 (0, 0) P.isa ok.few_isa (isa_wide P.isa) from_rules.0

  abbrev no_rule : Rule
  no_rule = record { accept = false; right = 0; who = 0; path = [] }

  rules_places : Places rule_bytes 520 (held_policy P) 2312 128 no_rule P.rules
  rules_places = bytes_places rule_bytes 520 (held_policy P) 2312 128 no_rule P.rules ok.few_rules rules_wide from_rules.1

  -- what is read of them again
  head_byte : (j : ℕ) → j < 8 → get_or (held_policy P) j 0 ≡ get_or (policy_head P) j 0
  head_byte j h = ap (λ (k : ℕ). get_or (held_policy P) k 0) (sym (zero-add j)) ∙ part_byte (held_policy P) 0 8 (policy_head P) from_names.0 j h

  name_back : (k : ℕ) → k < length P.names → name_at (held_policy P) k ≡ name_of P k
  name_back k h = ap label (names_places.each k h) ∙ label_made 0 (name_of P k) no_spare

  n_back : (k : ℕ) → k < length P.isa → isa_n (held_policy P) k ≡ (get_or P.isa k (0, 0)).0
  n_back k h = first_byte (held_policy P) (isa_at k) 2 (isa_bytes (get_or P.isa k (0, 0))) (isa_places.each k h) (lit< tt)

  r_back : (k : ℕ) → k < length P.isa → isa_r (held_policy P) k ≡ (get_or P.isa k (0, 0)).1
  r_back k h = part_byte (held_policy P) (isa_at k) 2 (isa_bytes (get_or P.isa k (0, 0))) (isa_places.each k h) 1 (lit< tt)

  rule_ok_lem : (k : ℕ) → k < length P.rules → AllowedRule P.names (get_or P.rules k no_rule)
  rule_ok_lem = all-nth (AllowedRule P.names) no_rule P.rules ok.rules

  subject_passes : (k : ℕ) → k < length P.names → subject_ok (held_policy P) k ≡ true
  subject_passes k h =
      let g = all-nth LabelOk [] P.names ok.names k h in
      subject_is (held_policy P) k
      (ap (text_ok 0) (names_places.each k h) ∙ name_ok 0 (name_of P k) g.some g.short g.bytes g.free 0 (omega arith))
      (every-all (λ j. not (same_label (name_at (held_policy P) j) (name_at (held_policy P) k))) k
      (λ j l. ap not (ap₂ same_label (name_back j (omega arith)) (name_back k h) ∙ ok.names_differ j k l h)))

  isa_passes : (k : ℕ) → k < length P.isa → isa_ok (held_policy P) k ≡ true
  isa_passes k h =
      let g = all-nth (AllowedIsa P.names) (0, 0) P.isa ok.isa k h in
      isa_is (held_policy P) k
      (lt-ltb (isa_r (held_policy P) k) (isa_n (held_policy P) k) (omega (arith, n_back k h, r_back k h, g.before)))
      (lt-ltb (isa_n (held_policy P) k) (subject_count (held_policy P)) (omega (arith, n_back k h, head_byte 0 (lit< tt), g.declared)))
      (every-all (λ j. not (same_isa (held_policy P) j k)) k
      (λ j l. not_same (same_isa (held_policy P) j k)
      (λ e. let f = both (eqb (isa_n (held_policy P) j) (isa_n (held_policy P) k)) (eqb (isa_r (held_policy P) j) (isa_r (held_policy P) k)) e in
      let m : j < length P.isa = omega arith in
      ok.isa_differ j k l h
      (ap₂ (λ (a b : ℕ). (a, b))
      (sym (n_back j m) ∙ eqb-true _ _ f.0 ∙ n_back k h)
      (sym (r_back j m) ∙ eqb-true _ _ f.1 ∙ r_back k h)))))

  -- An allowed policy passes, and is read again.
  pub held-passes : policy_ok (held_policy P) ≡ true
  held-passes =
      policy_is (held_policy P) long spare
      (subjects_are (held_policy P) (length P.names) (head_byte 0 (lit< tt)) (le-leb _ _ ok.few_names) (every-all (subject_ok (held_policy P)) (length P.names) subject_passes) names_places.rest)
      (isas_are (held_policy P) (length P.isa) (head_byte 1 (lit< tt)) (le-leb _ _ ok.few_isa) (every-all (isa_ok (held_policy P)) (length P.isa) isa_passes) isa_places.rest)
      (rules_are (held_policy P) (length P.rules) (head_byte 2 (lit< tt)) (le-leb _ _ ok.few_rules)
      (every-all (rule_ok (held_policy P)) (length P.rules) (λ k h. rule_passes (held_policy P) k P.names (get_or P.rules k no_rule) (rule_ok_lem k h) (rules_places.each k h) (head_byte 0 (lit< tt))))
      rules_places.rest)
    where
      spare : zeros (held_policy P) 3 5 ≡ true
      spare = unfold held_policy all in refl

  pub held_back : policy_of (held_policy P) ≡ P
  held_back = policy_listed (held_policy P) ∙ make
      (ap (each_from (name_at (held_policy P)) 0) (head_byte 0 (lit< tt)) ∙ each_of (name_at (held_policy P)) [] P.names 0 (λ k h. ap (name_at (held_policy P)) (zero-add k) ∙ name_back k h))
      (ap (each_from (λ k. (isa_n (held_policy P) k, isa_r (held_policy P) k)) 0) (head_byte 1 (lit< tt))
      ∙ each_of (λ k. (isa_n (held_policy P) k, isa_r (held_policy P) k)) (0, 0) P.isa 0
      (λ k h. ap (λ (i : ℕ). (isa_n (held_policy P) i, isa_r (held_policy P) i)) (zero-add k) ∙ ap₂ (λ (a b : ℕ). (a, b)) (n_back k h) (r_back k h)))
      (ap (each_from (rule_of (held_policy P)) 0) (head_byte 2 (lit< tt))
      ∙ each_of (rule_of (held_policy P)) no_rule P.rules 0
      (λ k h. ap (rule_of (held_policy P)) (zero-add k) ∙ rule_back (held_policy P) k P.names (get_or P.rules k no_rule) (rule_ok_lem k h) (rules_places.each k h)))
    where
      make : {n n' : List (List ℕ)} {i i' : List (ℕ × ℕ)} {r r' : List Rule} → n ≡ n' → i ≡ i' → r ≡ r' → ◌≡◌ {A = Policy} (record { names = n; isa = i; rules = r }) (record { names = n'; isa = i'; rules = r' })
      make a b d = rw (a, b, d)

-- 13, for a policy, the other way: bytes that hold a policy that document 01 allows pass, and that policy is read of them.
pub allowed_policy : (p : List ℕ) (P : Policy) → HoldsPolicy p P → (policy_ok p ≡ true) × (policy_of p ≡ P)
allowed_policy p P h = (ap policy_ok h.bytes ∙ held-passes P h.allowed, ap policy_of h.bytes ∙ held_back P h.allowed)
