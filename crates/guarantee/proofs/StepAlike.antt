-- One line on two stores of the same user, with the same policy, the same day and the same low projection. Assumes nothing.
use Prim.Native.Nat.{ℕ}
use mathlib.Core.Path.{◌≡◌, refl, ap, sym, ◌∙◌}
use mathlib.Core.Bool.{true, not}
use mathlib.Core.List.{List, [], ◌∷◌}
use mathlib.Core.Logic.{inl}
use native.Mathlib.Omega.{arith}
use borrow.Author.Tests.{not-false}
use lib.Dec.{ltb}
use lib.ListN.{length}
use Rattle.forms.specs.Layout.{stage_of}
use Rattle.forms.specs.Form.{read_form}
use Rattle.lines.specs.State.{stage_e, stage, day_in, policy_in, store_ok}
use Rattle.lines.specs.Effect.{Work, checks_in, performed}
use Rattle.lines.specs.Outcome.{says, Outcome}
use Rattle.lines.specs.Refusal.{area_check, checked}
use Rattle.lines.proofs.StateLaws.{store_held, user_late}
use Rattle.store.specs.Line.{in_stage, line_checks, step}
use Rattle.guarantee.specs.Alike.{UserIs}
use Rattle.lines.proofs.CheckLaws.{passed_both}
use Rattle.guarantee.proofs.FormLaws.{read_law}
use Rattle.guarantee.proofs.Accepted.{line_work, done}
use Rattle.guarantee.proofs.LineAlike.{Tied, ChecksAlike, alike_both, WorkAlike, Match, match_checked, low_effect, day_effect}

-- a user is held at stage E alone
pub user_stage : (s t : List ℕ) → store_ok s t ≡ true → (u : ℕ) → UserIs u s → stage s ≡ stage_e
user_stage s t ok u e = user_late s (store_held s t ok).logged (omega (arith, e))

module _ (u : ℕ) (s t s' t' : List ℕ) (h : Tied u s t s' t') (room : ℕ) (line : List ℕ) where
  -- the stage of its form
  abbrev form_stage : ℕ
  form_stage = stage_of (read_form line).word

  abbrev work : Work
  work = line_work s t line

  abbrev work' : Work
  work' = line_work s' t' line

  -- what comes behind the checks that every line meets
  abbrev own : List ℕ → List ℕ → Outcome
  own s t = checked (checks_in room (line_work s t line)) s t (done s t line)

  -- the checks before the form's own
  front_alike : ChecksAlike (line_checks s t line) (line_checks s' t' line)
  unfolding ChecksAlike
  front_alike =
      let g = user_stage s t h.passes u h.user in
      let g' = user_stage s' t' h.passes' u h.user' in (
        (refl, inl (ap not (h.passes ∙ sym h.passes'))),
        ((refl, inl refl), ((refl, inl refl), ((refl, inl (ap (λ k. not (in_stage form_stage k)) (g ∙ sym g'))), tt))),
      )

  -- the form's own checks, and the one for the area
  own_alike : WorkAlike (policy_in s) u (day_in s) t t' work work' → ChecksAlike (checks_in room work) (checks_in room work')
  unfolding ChecksAlike
  own_alike a =
      alike_both work.checks work'.checks (area_check room (length work.text) ∷ []) (area_check room (length work'.text) ∷ []) a.checks
      ((refl, inl (ap (λ x. ltb room (length x)) a.text)), tt)

  -- Accepted in both with the same answer or refused in both with the same number, and the low projections and the days stay equal, unless one is refused with 11.
  pub match_step : Match (policy_in s) u (day_in s) (step s t line room) (step s' t' line room)
  unfolding step performed checked
  match_step =
      match_checked (policy_in s) u (day_in s) s t s' t' h.low h.day (line_checks s t line) (line_checks s' t' line) (own s t) (own s' t') front_alike
      λ p p'.
      let i = not-false (in_stage form_stage (stage s)) p.1.1.1.0 in
      let i' = not-false (in_stage form_stage (stage s')) p'.1.1.1.0 in
      let law = read_law line in
      let a = law.alike u s t s' t' h (sym (ap (λ k. in_stage form_stage k) (user_stage s t h.passes u h.user)) ∙ i) in
      match_checked (policy_in s) u (day_in s) s t s' t' h.low h.day (checks_in room work) (checks_in room work') (done s t line) (done s' t' line) (own_alike a)
      λ q q'.
      let x = law.sound s t h.passes i (passed_both work.checks _ q).0 in
      let x' = law.sound s' t' h.passes' i' (passed_both work'.checks _ q').0 in
      λ full full'. record {
        reply = ap says a.text;
        low = low_effect u s t s' t' h (read_form line) work.effect work'.effect a.effect x x';
        today = day_effect u s t s' t' h (read_form line) work.effect work'.effect a.effect x;
      }
