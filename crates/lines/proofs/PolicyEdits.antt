-- What the lines of stages A and B leave: each edit keeps the policy's check under the conditions that the refusals 4, 5, 6, 7 and 9 test, and the
-- policy then holds one line more and all else as it was. Assumes nothing.
use Prim.Native.Nat.{ℕ, zero, suc, ◌+◌, ◌*◌, ◌-◌, ◌≤◌, ◌<◌}
use mathlib.Core.Path.{◌≡◌, sym, ap, ap₂, ◌∙◌}
use mathlib.Core.Bool.{Bool, true, false, not, ◌&&◌}
use mathlib.Core.List.{List, [], ◌∷◌, ◌++◌}
use native.Mathlib.Nat.{zero-add, add-zero, not-suc-le-zero, le_of_suc-le-suc}
use native.Mathlib.Numerals.{add-one}
use native.Mathlib.Omega.{arith}
use borrow.Author.Tests.{le-leb, lt-ltb}
use lib.Dec.{lit<, leb, ltb, eqb}
use lib.ListN.{length, get_or, take, drop, length-append}
use Rattle.rights.specs.Bytes.{all, is_zero, zeros, every}
use Rattle.rights.specs.Labels.{label_byte, same_label, restricted}
use Rattle.rights.specs.Path.{Test}
use Rattle.rights.specs.declared.path.Axis.{Axis}
use Rattle.rights.specs.Policy.{Rule, some, uses}
use Rattle.rights.specs.Table.{rec_at, label}
use Rattle.rights.specs.PolicyBytes.{subject_count, isa_count, rule_count, subject_at, isa_at, rule_at, steps_at, name_at, isa_n, isa_r, names_from, isa_from, rules_from, steps_from, rule_of, policy_of}
use Rattle.rights.specs.PolicyCheck.{text_ok, bit_ok, rule_ok, same_isa, policy_ok}
use Rattle.lines.specs.PolicyEdit.{is_line, isa_held, Plain, steps_in, path_restricted, step_records, rule_head, with_subject, with_isa, with_rule}
use Rattle.rights.specs.Record.{no_spare, name_record}
use Rattle.rights.proofs.PartLaws.{part_in, part_split}
use Rattle.lines.proofs.EditBytes.{Alike, zeros_part, zeros_alike, line_length, line_count, line_byte_lem, line_put, line_put_byte, line_after_lem, line_before}
use Rattle.rights.proofs.PolicyPartLaws.{parts, subjects_have, isas_have, rules_have, isa_is, rule_is, policy_is}
use Rattle.lines.proofs.EditKept.{name_kept, n_kept, r_kept, subjects_kept, isas_kept, rules_kept, subjects_more, isas_more, rules_more, names_same, isas_same, rules_same, names_snoc, isas_snoc, rules_snoc, policy_holds}
use Rattle.rights.proofs.LabelLaws.{same_sym}
use Rattle.rights.proofs.RecordOfLaws.{length_name, label_made, name_ok}
use Rattle.lines.proofs.StoredPaths.{GoodStored, written, records-length}
use Rattle.rights.proofs.EveryLaws.{every-all}
use Rattle.lines.proofs.StoredSteps.{or-none, stored-steps, steps_pass}
use Rattle.rights.proofs.WordLaws.{subject_is}

-- ---- `(subject N)`

names_none : (p : List ℕ) (f : List ℕ → Bool) (n i : ℕ) → some f (names_from p n i) ≡ false → (j : ℕ) → j < n → f (name_at p (i + j)) ≡ false
unfolding some names_from
names_none p f zero i e j h = absurd (not-suc-le-zero h)
names_none p f (suc n) i e zero h = rw (add-zero i) (or-none (f (name_at p i)) (some f (names_from p n (suc i))) e).0
names_none p f (suc n) i e (suc j) h =
    let z : i + suc j ≡ suc i + j = omega arith in
    rw z (names_none p f n (suc i) (or-none (f (name_at p i)) (some f (names_from p n (suc i))) e).1 j (le_of_suc-le-suc h))

module _ (p x : List ℕ) (ok : policy_ok p ≡ true) (few : subject_count p < 64) (short : length x ≤ 24) where
  s_long : length (name_record 0 x) ≡ 32
  s_long = length_name 0 x short

  s_low : 0 < subject_at (subject_count p)
  s_low = omega arith

  s_room : subject_at (subject_count p) + length (name_record 0 x) ≤ length p
  s_room = omega (arith, s_long, (parts p ok).long)

  s_before : (a n : ℕ) → 0 < a → a + n ≤ subject_at (subject_count p) → Alike p (with_subject p x) a n
  s_before = line_before p (name_record 0 x) 0 (subject_at (subject_count p)) s_low s_room

  s_after : (a n : ℕ) → subject_at (subject_count p) + 32 ≤ a → Alike p (with_subject p x) a n
  s_after a n h = line_after_lem p (name_record 0 x) 0 (subject_at (subject_count p)) s_low s_room a n (omega (arith, s_long))

  s_count : subject_count (with_subject p x) ≡ subject_count p + 1
  s_count = line_count p (name_record 0 x) 0 (subject_at (subject_count p)) s_low s_room

  s_isas : isa_count (with_subject p x) ≡ isa_count p
  s_isas = line_byte_lem p (name_record 0 x) 0 (subject_at (subject_count p)) s_low s_room 1 (λ e. omega arith) (omega arith)

  s_rules : rule_count (with_subject p x) ≡ rule_count p
  s_rules = line_byte_lem p (name_record 0 x) 0 (subject_at (subject_count p)) s_low s_room 2 (λ e. omega arith) (omega arith)

  s_record : rec_at (with_subject p x) (subject_at (subject_count p)) ≡ name_record 0 x
  s_record =
      ap (λ (n : ℕ). take n (drop (subject_at (subject_count p)) (with_subject p x))) (sym s_long)
      ∙ line_put p (name_record 0 x) 0 (subject_at (subject_count p)) s_low s_room

  s_name : name_at (with_subject p x) (subject_count p) ≡ x
  s_name = ap label s_record ∙ label_made 0 x no_spare

  s_new : some (same_label x) (policy_of p).names ≡ false → every (λ j. not (same_label (name_at (with_subject p x) j) (name_at (with_subject p x) (subject_count p)))) (subject_count p) ≡ true
  unfolding policy_of
  s_new e =
      every-all (λ j. not (same_label (name_at (with_subject p x) j) (name_at (with_subject p x) (subject_count p)))) (subject_count p) λ j h.
      ap not
      (ap₂ same_label (name_kept p (with_subject p x) (subject_count p) j (s_before 8 (subject_count p * 32) (omega arith) (omega arith)) h) s_name
      ∙ same_sym (name_at p j) x
      ∙ ap (λ (i : ℕ). same_label x (name_at p i)) (sym (zero-add j))
      ∙ names_none p (same_label x) (subject_count p) 0 e j h)

  -- A label other than RESTRICTED that is no subject's name may be added,
  pub subject_keeps : 1 ≤ length x → all label_byte x ≡ true → same_label x restricted ≡ false → some (same_label x) (policy_of p).names ≡ false → policy_ok (with_subject p x) ≡ true
  subject_keeps l g r n =
      let t = parts p ok in
      policy_is (with_subject p x)
      (line_length p (name_record 0 x) 0 (subject_at (subject_count p)) s_low s_room ∙ t.long)
      (zeros_alike p (with_subject p x) 3 5 (s_before 3 5 (omega arith) (omega arith)) t.spare)
      (subjects_more p (with_subject p x) few (s_before 8 (subject_count p * 32) (omega arith) (omega arith)) (s_after (subject_at (subject_count p + 1)) ((64 - (subject_count p + 1)) * 32) (omega arith)) s_count
      (subject_is (with_subject p x) (subject_count p) (ap (text_ok 0) s_record ∙ name_ok 0 x l short g r 0 (omega arith)) (s_new n)) t.subjects)
      (isas_kept p (with_subject p x) (s_after 2056 256 (omega arith)) s_isas (omega (arith, s_count)) t.isas)
      (rules_kept p (with_subject p x) (s_after 2312 66560 (omega arith)) s_rules (omega (arith, s_count)) t.rules)

  -- and the policy then has one name more, at the end.
  pub subject_adds : policy_of (with_subject p x) ≡ record { names = (policy_of p).names ++ (x ∷ []); isa = (policy_of p).isa; rules = (policy_of p).rules }
  unfolding policy_of
  subject_adds =
      let t = parts p ok in
      policy_holds (with_subject p x) (names_from p (subject_count p) 0 ++ (x ∷ [])) (isa_from p (isa_count p) 0) (rules_from p (rule_count p) 0)
      (ap (λ (n : ℕ). names_from (with_subject p x) n 0) (s_count ∙ add-one (subject_count p))
      ∙ names_snoc (with_subject p x) (subject_count p) 0
      ∙ ap₂ (λ (a : List (List ℕ)) (b : List ℕ). a ++ (b ∷ [])) (names_same p (with_subject p x) (subject_count p) (s_before 8 (subject_count p * 32) (omega arith) (omega arith))) (ap (name_at (with_subject p x)) (zero-add (subject_count p)) ∙ s_name))
      (ap (λ (n : ℕ). isa_from (with_subject p x) n 0) s_isas ∙ isas_same p (with_subject p x) (isa_count p) (s_after 2056 (isa_count p * 2) (omega arith)))
      (ap (λ (n : ℕ). rules_from (with_subject p x) n 0) s_rules ∙ rules_same p (with_subject p x) (rule_count p) (s_after 2312 (rule_count p * 520) (omega arith)) (rules_have p t.rules).1)

-- ---- `(isa N R)`

isas_none : (p : List ℕ) (f : ℕ × ℕ → Bool) (n i : ℕ) → some f (isa_from p n i) ≡ false → (j : ℕ) → j < n → f (isa_n p (i + j), isa_r p (i + j)) ≡ false
unfolding some isa_from
isas_none p f zero i e j h = absurd (not-suc-le-zero h)
isas_none p f (suc n) i e zero h = rw (add-zero i) (or-none (f (isa_n p i, isa_r p i)) (some f (isa_from p n (suc i))) e).0
isas_none p f (suc n) i e (suc j) h =
    let z : i + suc j ≡ suc i + j = omega arith in
    rw z (isas_none p f n (suc i) (or-none (f (isa_n p i, isa_r p i)) (some f (isa_from p n (suc i))) e).1 j (le_of_suc-le-suc h))

module _ (p : List ℕ) (n r : ℕ) (ok : policy_ok p ≡ true) (few : isa_count p < 128) where
  i_low : 1 < isa_at (isa_count p)
  i_low = omega arith

  i_room : isa_at (isa_count p) + length (n ∷ r ∷ []) ≤ length p
  i_room = omega (arith, (parts p ok).long)

  i_before : (a m : ℕ) → 1 < a → a + m ≤ isa_at (isa_count p) → Alike p (with_isa p n r) a m
  i_before = line_before p (n ∷ r ∷ []) 1 (isa_at (isa_count p)) i_low i_room

  i_after : (a m : ℕ) → isa_at (isa_count p) + 2 ≤ a → Alike p (with_isa p n r) a m
  i_after a m h = line_after_lem p (n ∷ r ∷ []) 1 (isa_at (isa_count p)) i_low i_room a m h

  i_count : isa_count (with_isa p n r) ≡ isa_count p + 1
  i_count = line_count p (n ∷ r ∷ []) 1 (isa_at (isa_count p)) i_low i_room

  i_subjects : subject_count (with_isa p n r) ≡ subject_count p
  i_subjects = line_byte_lem p (n ∷ r ∷ []) 1 (isa_at (isa_count p)) i_low i_room 0 (λ e. omega arith) (omega arith)

  i_rules : rule_count (with_isa p n r) ≡ rule_count p
  i_rules = line_byte_lem p (n ∷ r ∷ []) 1 (isa_at (isa_count p)) i_low i_room 2 (λ e. omega arith) (omega arith)

  i_n : isa_n (with_isa p n r) (isa_count p) ≡ n
  i_n =
      ap (λ (i : ℕ). get_or (with_isa p n r) i 0) (sym (add-zero (isa_at (isa_count p))))
      ∙ line_put_byte p (n ∷ r ∷ []) 1 (isa_at (isa_count p)) i_low i_room 0 (lit< tt)

  i_r : isa_r (with_isa p n r) (isa_count p) ≡ r
  i_r = line_put_byte p (n ∷ r ∷ []) 1 (isa_at (isa_count p)) i_low i_room 1 (lit< tt)

  i_new : isa_held (policy_of p) n r ≡ false → every (λ j. not (same_isa (with_isa p n r) j (isa_count p))) (isa_count p) ≡ true
  unfolding isa_held policy_of
  i_new e =
      every-all (λ j. not (same_isa (with_isa p n r) j (isa_count p))) (isa_count p) λ j h.
      let b = i_before 2056 (isa_count p * 2) (omega arith) (omega arith) in
      ap not
      (ap₂ ◌&&◌
      (ap₂ eqb (n_kept p (with_isa p n r) (isa_count p) j b h) i_n)
      (ap₂ eqb (r_kept p (with_isa p n r) (isa_count p) j b h) i_r)
      ∙ ap (λ (i : ℕ). is_line n r (isa_n p i, isa_r p i)) (sym (zero-add j))
      ∙ isas_none p (is_line n r) (isa_count p) 0 e j h)

  -- A line of a declared N and an R declared before it that is not held may be added,
  pub isa_keeps : r < n → n < subject_count p → isa_held (policy_of p) n r ≡ false → policy_ok (with_isa p n r) ≡ true
  isa_keeps l d e =
      let t = parts p ok in
      policy_is (with_isa p n r)
      (line_length p (n ∷ r ∷ []) 1 (isa_at (isa_count p)) i_low i_room ∙ t.long)
      (zeros_alike p (with_isa p n r) 3 5 (i_before 3 5 (omega arith) (omega arith)) t.spare)
      (subjects_kept p (with_isa p n r) (i_before 8 2048 (omega arith) (omega arith)) i_subjects t.subjects)
      (isas_more p (with_isa p n r) few (i_before 2056 (isa_count p * 2) (omega arith) (omega arith)) (i_after (isa_at (isa_count p + 1)) ((128 - (isa_count p + 1)) * 2) (omega arith)) i_count (omega (arith, i_subjects))
      (isa_is (with_isa p n r) (isa_count p) (ap₂ ltb i_r i_n ∙ lt-ltb r n l) (ap₂ ltb i_n i_subjects ∙ lt-ltb n (subject_count p) d) (i_new e)) t.isas)
      (rules_kept p (with_isa p n r) (i_after 2312 66560 (omega arith)) i_rules (omega (arith, i_subjects)) t.rules)

  -- and the policy then has this line too.
  pub isa_adds : policy_of (with_isa p n r) ≡ record { names = (policy_of p).names; isa = (policy_of p).isa ++ ((n, r) ∷ []); rules = (policy_of p).rules }
  unfolding policy_of
  isa_adds =
      let t = parts p ok in
      let s = (subjects_have p t.subjects).0 in
      policy_holds (with_isa p n r) (names_from p (subject_count p) 0) (isa_from p (isa_count p) 0 ++ ((n, r) ∷ [])) (rules_from p (rule_count p) 0)
      (ap (λ (m : ℕ). names_from (with_isa p n r) m 0) i_subjects ∙ names_same p (with_isa p n r) (subject_count p) (i_before 8 (subject_count p * 32) (omega arith) (omega (arith, s))))
      (ap (λ (m : ℕ). isa_from (with_isa p n r) m 0) (i_count ∙ add-one (isa_count p))
      ∙ isas_snoc (with_isa p n r) (isa_count p) 0
      ∙ ap₂ (λ (a : List (ℕ × ℕ)) (b : ℕ × ℕ). a ++ (b ∷ [])) (isas_same p (with_isa p n r) (isa_count p) (i_before 2056 (isa_count p * 2) (omega arith) (omega arith)))
      (ap (λ (i : ℕ). (isa_n (with_isa p n r) i, isa_r (with_isa p n r) i)) (zero-add (isa_count p)) ∙ ap₂ (λ (a b : ℕ). (a, b)) i_n i_r))
      (ap (λ (m : ℕ). rules_from (with_isa p n r) m 0) i_rules ∙ rules_same p (with_isa p n r) (rule_count p) (i_after 2312 (rule_count p * 520) (omega arith)) (rules_have p t.rules).1)

-- ---- `(rule accept|deny RIGHT PATH N)`

module _ (p : List ℕ) (accept bit who : ℕ) (ws : List (Axis × Test)) (ok : policy_ok p ≡ true) (few : rule_count p < 128) (good : GoodStored ws) (short : length ws ≤ 16) where
  abbrev r_bytes : List ℕ
  r_bytes = rule_head accept bit who (length ws) ++ step_records ws

  r_long : length r_bytes ≡ 8 + length ws * 32
  r_long = length-append (rule_head accept bit who (length ws)) (step_records ws) ∙ ap (λ (n : ℕ). 8 + n) (records-length ws good)

  r_low : 2 < rule_at (rule_count p)
  r_low = omega arith

  r_room : rule_at (rule_count p) + length r_bytes ≤ length p
  r_room = omega (arith, r_long, (parts p ok).long)

  r_before : (a m : ℕ) → 2 < a → a + m ≤ rule_at (rule_count p) → Alike p (with_rule p accept bit who ws) a m
  r_before = line_before p r_bytes 2 (rule_at (rule_count p)) r_low r_room

  r_after : (a m : ℕ) → steps_at (rule_count p) + length ws * 32 ≤ a → Alike p (with_rule p accept bit who ws) a m
  r_after a m h = line_after_lem p r_bytes 2 (rule_at (rule_count p)) r_low r_room a m (omega (arith, r_long))

  r_count : rule_count (with_rule p accept bit who ws) ≡ rule_count p + 1
  r_count = line_count p r_bytes 2 (rule_at (rule_count p)) r_low r_room

  r_subjects : subject_count (with_rule p accept bit who ws) ≡ subject_count p
  r_subjects = line_byte_lem p r_bytes 2 (rule_at (rule_count p)) r_low r_room 0 (λ e. omega arith) (omega arith)

  r_isas : isa_count (with_rule p accept bit who ws) ≡ isa_count p
  r_isas = line_byte_lem p r_bytes 2 (rule_at (rule_count p)) r_low r_room 1 (λ e. omega arith) (omega arith)

  -- the bytes of the new rule
  r_byte : (j : ℕ) → j < 8 → get_or (with_rule p accept bit who ws) (rule_at (rule_count p) + j) 0 ≡ get_or r_bytes j 0
  r_byte j h = line_put_byte p r_bytes 2 (rule_at (rule_count p)) r_low r_room j (omega (arith, r_long))

  r_first : get_or (with_rule p accept bit who ws) (rule_at (rule_count p)) 0 ≡ accept
  r_first = ap (λ (i : ℕ). get_or (with_rule p accept bit who ws) i 0) (sym (add-zero (rule_at (rule_count p)))) ∙ r_byte 0 (lit< tt)

  r_split : (take 8 (drop (rule_at (rule_count p)) (with_rule p accept bit who ws)) ≡ rule_head accept bit who (length ws)) × (take (length (step_records ws)) (drop (steps_at (rule_count p)) (with_rule p accept bit who ws)) ≡ step_records ws)
  r_split = part_split (with_rule p accept bit who ws) (rule_head accept bit who (length ws)) (step_records ws) (rule_at (rule_count p)) (line_put p r_bytes 2 (rule_at (rule_count p)) r_low r_room)

  r_spare : zeros (with_rule p accept bit who ws) (rule_at (rule_count p) + 4) 4 ≡ true
  unfolding all
  r_spare = ap (all is_zero) (part_in (with_rule p accept bit who ws) (rule_at (rule_count p)) 8 4 4 (omega arith)) ∙ ap (λ (l : List ℕ). all is_zero (take 4 (drop 4 l))) r_split.0

  r_rest : zeros (with_rule p accept bit who ws) (steps_at (rule_count p) + length ws * 32) ((16 - length ws) * 32) ≡ true
  r_rest =
      zeros_alike p (with_rule p accept bit who ws) (steps_at (rule_count p) + length ws * 32) ((16 - length ws) * 32) (r_after (steps_at (rule_count p) + length ws * 32) ((16 - length ws) * 32) (omega arith))
      (zeros_part p (rule_at (rule_count p)) ((128 - rule_count p) * 520) (steps_at (rule_count p) + length ws * 32) ((16 - length ws) * 32) (rules_have p (parts p ok).rules).2 (omega arith) (omega arith))

  r_passes : accept ≤ 1 → bit_ok bit ≡ true → who < subject_count p → 1 ≤ length ws → some (uses false restricted) ws ≡ false → rule_ok (with_rule p accept bit who ws) (rule_count p) ≡ true
  r_passes a b w l u =
      rule_is (with_rule p accept bit who ws) (rule_count p) (length ws) (r_byte 3 (lit< tt))
      (ap (λ (i : ℕ). leb i 1) r_first ∙ le-leb accept 1 a)
      (ap bit_ok (r_byte 1 (lit< tt)) ∙ b)
      (ap₂ ltb (r_byte 2 (lit< tt)) r_subjects ∙ lt-ltb who (subject_count p) w)
      (le-leb 1 (length ws) l)
      (le-leb (length ws) 16 short)
      r_spare
      (steps_pass (with_rule p accept bit who ws) ws (steps_at (rule_count p)) good u r_split.1)
      r_rest

  rule_keeps_steps : accept ≤ 1 → bit_ok bit ≡ true → who < subject_count p → 1 ≤ length ws → some (uses false restricted) ws ≡ false → policy_ok (with_rule p accept bit who ws) ≡ true
  rule_keeps_steps a b w l u =
      let t = parts p ok in
      policy_is (with_rule p accept bit who ws)
      (line_length p r_bytes 2 (rule_at (rule_count p)) r_low r_room ∙ t.long)
      (zeros_alike p (with_rule p accept bit who ws) 3 5 (r_before 3 5 (omega arith) (omega arith)) t.spare)
      (subjects_kept p (with_rule p accept bit who ws) (r_before 8 2048 (omega arith) (omega arith)) r_subjects t.subjects)
      (isas_kept p (with_rule p accept bit who ws) (r_before 2056 256 (omega arith) (omega arith)) r_isas (omega (arith, r_subjects)) t.isas)
      (rules_more p (with_rule p accept bit who ws) few (r_before 2312 (rule_count p * 520) (omega arith) (omega arith)) (r_after (rule_at (rule_count p + 1)) ((128 - (rule_count p + 1)) * 520) (omega arith)) r_count (omega (arith, r_subjects)) (r_passes a b w l u) t.rules)

  abbrev new_rule : Rule
  new_rule = record { accept = not (eqb accept 0); right = bit; who = who; path = ws }

  r_rule : rule_of (with_rule p accept bit who ws) (rule_count p) ≡ new_rule
  r_rule =
      make (ap (λ (i : ℕ). not (eqb i 0)) r_first) (r_byte 1 (lit< tt)) (r_byte 2 (lit< tt))
      (ap (λ (n : ℕ). steps_from (with_rule p accept bit who ws) (steps_at (rule_count p)) n 0) (r_byte 3 (lit< tt))
      ∙ stored-steps (with_rule p accept bit who ws) ws (steps_at (rule_count p)) 0 good (ap (λ (i : ℕ). take (length (step_records ws)) (drop i (with_rule p accept bit who ws))) (add-zero (steps_at (rule_count p))) ∙ r_split.1))
    where
      make : {a a' : Bool} {b b' w w' : ℕ} {ps ps' : List (Axis × Test)} → a ≡ a' → b ≡ b' → w ≡ w' → ps ≡ ps' → ◌≡◌ {A = Rule} (record { accept = a; right = b; who = w; path = ps }) (record { accept = a'; right = b'; who = w'; path = ps' })
      make i j l m = rw (i, j, l, m)

  rule_adds_steps : policy_of (with_rule p accept bit who ws) ≡ record { names = (policy_of p).names; isa = (policy_of p).isa; rules = (policy_of p).rules ++ (new_rule ∷ []) }
  unfolding policy_of
  rule_adds_steps =
      let t = parts p ok in
      let s = (subjects_have p t.subjects).0 in
      let i = (isas_have p t.isas).0 in
      policy_holds (with_rule p accept bit who ws) (names_from p (subject_count p) 0) (isa_from p (isa_count p) 0) (rules_from p (rule_count p) 0 ++ (new_rule ∷ []))
      (ap (λ (m : ℕ). names_from (with_rule p accept bit who ws) m 0) r_subjects ∙ names_same p (with_rule p accept bit who ws) (subject_count p) (r_before 8 (subject_count p * 32) (omega arith) (omega (arith, s))))
      (ap (λ (m : ℕ). isa_from (with_rule p accept bit who ws) m 0) r_isas ∙ isas_same p (with_rule p accept bit who ws) (isa_count p) (r_before 2056 (isa_count p * 2) (omega arith) (omega (arith, i))))
      (ap (λ (m : ℕ). rules_from (with_rule p accept bit who ws) m 0) (r_count ∙ add-one (rule_count p))
      ∙ rules_snoc (with_rule p accept bit who ws) (rule_count p) 0
      ∙ ap₂ (λ (a : List Rule) (b : Rule). a ++ (b ∷ [])) (rules_same p (with_rule p accept bit who ws) (rule_count p) (r_before 2312 (rule_count p * 520) (omega arith) (omega arith)) (rules_have p t.rules).1)
      (ap (rule_of (with_rule p accept bit who ws)) (zero-add (rule_count p)) ∙ r_rule))

module _ (p : List ℕ) (accept bit who : ℕ) (s : List ℕ) (ok : policy_ok p ≡ true) (few : rule_count p < 128) (plain : Plain s) where
  -- A rule for a declared subject with one of the five rights and a path without brackets that does not name RESTRICTED may be added,
  pub rule_keeps : accept ≤ 1 → bit_ok bit ≡ true → who < subject_count p → path_restricted s ≡ false → policy_ok (with_rule p accept bit who (steps_in s)) ≡ true
  unfolding path_restricted
  rule_keeps a b w u =
      let h = written s plain in
      rule_keeps_steps p accept bit who (steps_in s) ok few h.good h.few a b w h.some u

  -- and the policy then has one rule more, at the end, whose path is the steps that the text writes.
  pub rule_adds : policy_of (with_rule p accept bit who (steps_in s)) ≡ record { names = (policy_of p).names; isa = (policy_of p).isa; rules = (policy_of p).rules ++ (record { accept = not (eqb accept 0); right = bit; who = who; path = steps_in s } ∷ []) }
  rule_adds = let h = written s plain in rule_adds_steps p accept bit who (steps_in s) ok few h.good h.few
