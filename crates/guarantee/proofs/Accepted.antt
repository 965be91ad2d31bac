-- A line is refused and leaves all as it was, or it is accepted: then its effect is sound, and this is its answer and what it leaves. Assumes nothing.
use Prim.Native.Nat.{ℕ, ◌≤◌}
use mathlib.Core.Path.{◌≡◌, refl, sym, ap, ◌∙◌}
use mathlib.Core.Bool.{true}
use mathlib.Core.List.{List, [], ◌∷◌}
use mathlib.Core.Logic.{◌⊎◌, inl, inr}
use native.Mathlib.Omega.{arith}
use borrow.Author.Tests.{ltb-false, not-false}
use lib.ListN.{length}
use Rattle.forms.specs.Layout.{stage_of}
use Rattle.forms.specs.Form.{read_form}
use Rattle.forms.specs.Text.{line_ok}
use Rattle.lines.specs.State.{stage, store_ok}
use Rattle.lines.specs.Effect.{state_after, table_after, Work, guarded, checks_in, performed}
use Rattle.lines.specs.Outcome.{Reply, says, refuses, Outcome, answer_of}
use Rattle.lines.specs.Outcome as answer
use Rattle.lines.specs.Refusal.{area_check}
use Rattle.lines.specs.Clause.{work_of}
use Rattle.store.specs.Line.{in_stage, line_checks, step}
use Rattle.lines.proofs.CheckLaws.{passed_both, Refused, Went, checked-cases, refused-is}
use Rattle.lines.proofs.OutcomeLaws.{said-refused}
use Rattle.guarantee.proofs.Sound.{EffectSound}
use Rattle.guarantee.proofs.FormLaws.{read_law}

abbrev said_by : Reply → List ℕ
said_by (says b) = b
said_by (refuses n) = []

-- what is accepted was answered
pub accepted_said : (r : Reply) (n : ℕ) → answer_of r ≡ answer.Accepted n → (b : List ℕ) × (r ≡ says b)
accepted_said (says b) n e = (b, refl)
accepted_said (refuses k) n e = absurd (let z : ◌≡◌ {A = ℕ} 0 1 = cc in omega arith)

module _ (s t line : List ℕ) where
  -- the work of the form that was read
  abbrev pub line_work : Work
  line_work = work_of (read_form line) s t

  -- with the checks that every line meets
  abbrev guarded_work : Work
  guarded_work = guarded (line_checks s t line) line_work

  -- the work carried out
  abbrev pub done : Outcome
  done = record { reply = says line_work.text; state = state_after line_work.effect s; table = table_after line_work.effect t }

  pub record Accepted (room : ℕ) : Type 0 where
    pub passes : store_ok s t ≡ true
    pub bytes : line_ok line ≡ true
    pub sound : EffectSound (read_form line) s t line_work.effect
    pub fits : length line_work.text ≤ room
    pub is : step s t line room ≡ done

  module _ (room : ℕ) where
    -- Every line is refused, and leaves all as it was, or is accepted.
    pub line_cases : Refused s t (step s t line room) ⊎ Accepted room
    unfolding step performed
    line_cases = go (checked-cases (checks_in room guarded_work) s t done)
      where
        go : Refused s t (step s t line room) ⊎ Went (checks_in room guarded_work) s t done → Refused s t (step s t line room) ⊎ Accepted room
        go (inl x) = inl x
        go (inr x) =
            let p = passed_both guarded_work.checks (area_check room (length line_work.text) ∷ []) x.passed in
            let ok = not-false (store_ok s t) p.0.0 in
            inr (record {
              passes = ok;
              bytes = not-false (line_ok line) p.0.1.0;
              sound = (read_law line).sound s t ok (not-false (in_stage (stage_of (read_form line).word) (stage s)) p.0.1.1.1.0) p.0.1.1.1.1;
              fits = omega (arith, ltb-false room (length line_work.text) p.1.0);
              is = x.is;
            })

    -- "The number is returned; state, tables and answer area keep their bytes."
    pub refused-same : (n : ℕ) → (step s t line room).reply ≡ refuses n → ((step s t line room).state ≡ s) × ((step s t line room).table ≡ t)
    unfolding step performed
    refused-same n e =
        let r = refused-is (checks_in room guarded_work) s t done refl e in
        (ap (λ (o : Outcome). o.state) r, ap (λ (o : Outcome). o.table) r)

    -- a line that answers is accepted
    pub accepted : (b : List ℕ) → (step s t line room).reply ≡ says b → Accepted room
    accepted b e = go line_cases
      where
        go : Refused s t (step s t line room) ⊎ Accepted room → Accepted room
        go (inl x) = said-refused (sym e ∙ ap (λ (o : Outcome). o.reply) x.is)
        go (inr x) = x

    -- and says what the work of its form says
    pub answer_is : (b : List ℕ) → (step s t line room).reply ≡ says b → b ≡ line_work.text
    answer_is b e = ap said_by (sym e ∙ ap (λ (o : Outcome). o.reply) (accepted b e).is)

    pub taken : (n : ℕ) → answer_of (step s t line room).reply ≡ answer.Accepted n → Accepted room
    taken n e = let (b, q) = accepted_said (step s t line room).reply n e in accepted b q

    -- What holds of the store before, and of the store after every effect that is sound, holds after every line.
    pub after_line : (Q : List ℕ → List ℕ → Type 0) → Q s t
        → (store_ok s t ≡ true → EffectSound (read_form line) s t line_work.effect → Q (state_after line_work.effect s) (table_after line_work.effect t))
        → Q (step s t line room).state (step s t line room).table
    after_line Q q k = go line_cases
      where
        go : Refused s t (step s t line room) ⊎ Accepted room → Q (step s t line room).state (step s t line room).table
        go (inl x) = rw x.is q
        go (inr x) = rw x.is (k x.passes x.sound)
