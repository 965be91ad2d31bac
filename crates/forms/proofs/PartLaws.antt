-- Where parts end, case by case, as the code goes through them. Assumes nothing.
use Rattle.std.specs.Prelude.{Option, Some, None}
use Prim.Native.Nat.{ℕ, ◌+◌, ◌≤◌, ◌<◌}
use mathlib.Core.Path.{◌≡◌, refl, sym, ap, ◌∙◌}
use mathlib.Core.List.{List}
use mathlib.Core.Bool.{Bool, ◌&&◌, and-true}
use native.Mathlib.Omega.{arith}
use lib.Dec.{leb, eqb}
use lib.ListN.{length, take, drop}
use borrow.Author.Tests.{le-leb, lt-leb, leb-true, leb-false, ne_eqb}
use Rattle.rights.specs.Bytes.{byte_at, digit_byte}
use Rattle.rights.specs.Labels.{label_byte}
use Rattle.rights.specs.PathReader.{run_at, number_of}
use Rattle.rights.specs.How.Reading.{Onward, Ends}
use Rattle.rights.proofs.ListLaws.{by_case}
use Rattle.rights.proofs.PathLaws.{bad_onward, at_onward}
use Rattle.rights.proofs.PathTexts.{and_left, and_right, cond_elim}
use Rattle.forms.specs.Part.{short_end, label_end, day_digits, day_end, day_at, run_end, known_end}
use Rattle.forms.specs.declared.part.Part.{Part}
use Rattle.forms.specs.Word.{signs, rights, sign_at, right_at}
use Rattle.forms.specs.How.Codes.{text_number_at, by_number, found, end_by, says_by}
use Rattle.forms.specs.How.Reader.{moved_to, known_to, known_part, part_at, end_of, Says, PartPassed}
use Rattle.forms.proofs.WordLaws.{sign_numbered, right_numbered}
use Rattle.forms.specs.Tree.{open_end}

-- a run that reading moved over
pub moved-run : (f : ℕ → Bool) (s : List ℕ) (at e : ℕ) → Ends f s at e → Onward (run_end f s at) (moved_to at e) (at + 1) (length s)
unfolding run_end
moved-run f s at e x =
    let q = x.is in
    by_case (leb e at)
    (λ b. rw (b, lt-leb 1 (run_at f s at) (omega (arith, leb-true e at b))) (bad_onward (at + 1) (length s) refl))
    (λ b. rw (b, le-leb 1 (run_at f s at) (omega (arith, leb-false e at b))) (at_onward (at + 1) (length s) e (ap Some (sym q)) (omega (arith, leb-false e at b)) x.to))

-- a run of at most so many bytes, and a longer one
module _ (f : ℕ → Bool) (most : ℕ) (s : List ℕ) (at : ℕ) where
  pub short_long : most < run_at f s at → short_end f most s at ≡ None
  short_long l = rw (le-leb 1 (run_at f s at) (omega arith), lt-leb (run_at f s at) most l)

  short_run : run_at f s at ≤ most → short_end f most s at ≡ run_end f s at
  unfolding run_end
  short_run l = rw (le-leb (run_at f s at) most l, and-true (leb 1 (run_at f s at)))

  pub short_moved : (e : ℕ) → Ends f s at e → run_at f s at ≤ most → Onward (short_end f most s at) (moved_to at e) (at + 1) (length s)
  short_moved e x l = rw (short_run l) (moved-run f s at e x)

  -- one that was read
  pub short_is : (e : ℕ) → short_end f most s at ≡ Some e → (e ≡ at + run_at f s at) × (1 ≤ run_at f s at) × (run_at f s at ≤ most)
  short_is e =
      cond_elim (leb 1 (run_at f s at) && leb (run_at f s at) most)
      (λ b q.
      let z : e ≡ at + run_at f s at = cc in
      (z, leb-true _ _ (and_left (leb 1 (run_at f s at)) (leb (run_at f s at) most) b), leb-true _ _ (and_right (leb 1 (run_at f s at)) (leb (run_at f s at) most) b)))
      (λ _ q. absurd (let z : ◌≡◌ {A = ℕ} 0 1 = cc in omega arith))

module _ (s : List ℕ) (at e : ℕ) (x : Ends label_byte s at e) where
  pub run_none : e ≤ at → run_end label_byte s at ≡ None
  run_none l = let z : moved_to at e ≡ None = rw (le-leb e at l) in sym (moved-run label_byte s at e x).is ∙ z

  pub run-some : at < e → run_end label_byte s at ≡ Some e
  run-some l = let z : moved_to at e ≡ Some e = rw (lt-leb e at l) in sym (moved-run label_byte s at e x).is ∙ z

  -- a word that a table has as n, or has not
  known-run : (n : ℕ) → Onward (known_end n s at) (known_to n at e) (at + 1) (length s)
  unfolding known_end
  known-run n = by_case (eqb n 0) (λ b. rw b (bad_onward (at + 1) (length s) refl)) (λ b. rw b (moved-run label_byte s at e x))

-- a part's place and what it says
pub part_end_is : (w : Option ℕ) (v : ℕ) → end_of (part_at w v) ≡ w
part_end_is None v = refl
part_end_is (Some e) v = refl

pub no_part : (v : ℕ) → Says None v
no_part v p e = absurd (let z : ◌≡◌ {A = ℕ} 0 1 = cc in omega arith)

pub part_says : (w : Option ℕ) (v : ℕ) → Says (part_at w v) v
part_says None v = no_part v
part_says (Some e) v = λ p q. let z : record { end = e; says = v } ≡ p = cc in sym (ap (λ (p : Part). p.says) z)

known_part_is : (n at e : ℕ) → known_part (found n) at e ≡ part_at (known_to n at e) n
known_part_is n at e = by_case (eqb n 0) (λ b. rw b) (λ b. rw b)

module _ (k : ℕ) (s : List ℕ) (at : ℕ) (r : Option Part) where
  pub passed_as : (w : Option ℕ) (v : ℕ) → r ≡ part_at w v → Onward (end_by k s at) w (at + 1) (length s) → v ≡ says_by k s at → PartPassed k s at r
  passed_as w v e o z = rw e (record { end = rw (part_end_is w v) o; says = rw (← z) (part_says w v) })

module _ (s : List ℕ) (at : ℕ) (r : Option Part) (o : Option ℕ) (e : ℕ) (k : r ≡ known_part o at e) where
  pub sign_passed : o ≡ found (by_number 0 signs (text_number_at s at)) → Ends label_byte s at e → PartPassed 4 s at r
  unfolding end_by says_by
  sign_passed q x =
      let n = sign_numbered s at in
      passed_as 4 s at r _ _ (k ∙ rw (q, n) (known_part_is (sign_at s at) at e)) (known-run s at e x (sign_at s at)) refl

  pub right_passed : o ≡ found (by_number 0 rights (text_number_at s at)) → Ends label_byte s at e → PartPassed 5 s at r
  unfolding end_by says_by
  right_passed q x =
      let n = right_numbered s at in
      passed_as 5 s at r _ _ (k ∙ rw (q, n) (known_part_is (right_at s at) at e)) (known-run s at e x (right_at s at)) refl

-- a day whose digits were passed, and digits that are too many
module _ (s : List ℕ) (at : ℕ) (r : Option Part) where
  pub day_passed : (e v : ℕ) → r ≡ part_at (moved_to at e) v → v ≡ number_of 0 (take (run_at digit_byte s at) (drop at s)) → Ends digit_byte s at e → run_at digit_byte s at ≤ day_digits → PartPassed 6 s at r
  unfolding end_by says_by day_end day_at
  day_passed e v p q x l = passed_as 6 s at r _ v p (short_moved digit_byte day_digits s at e x l) (rw (le-leb (run_at digit_byte s at) day_digits l) q)

  pub day_long : r ≡ None → day_digits < run_at digit_byte s at → PartPassed 6 s at r
  unfolding end_by says_by day_end day_at
  day_long e l = passed_as 6 s at r None 0 e (bad_onward (at + 1) (length s) (short_long digit_byte day_digits s at l)) (rw (lt-leb (run_at digit_byte s at) day_digits l))

module _ (s : List ℕ) (at : ℕ) where
  pub open_not : (byte_at s at ≡ 40 → ⊥) → open_end s at ≡ None
  unfolding open_end
  open_not h = rw (ne_eqb _ 40 h)

  pub open_label : byte_at s at ≡ 40 → open_end s at ≡ label_end s (at + 1)
  unfolding open_end
  open_label h = rw h
