-- One line of any form: `step` (document 01, "Lines", "Who can be turned down"). "13 is tested first, then 1 to 12 rising."
use Rattle.std.specs.Prelude.{ℕ, Bool, not, ◌&&◌, List, [], ◌∷◌, ◌++◌, leb, ltb, eqb}
use Rattle.std.specs.Bool.{beq}
use Rattle.forms.specs.Text.{line_ok}
use Rattle.forms.specs.Layout.{stage_c, no_stage, stage_of}
use Rattle.forms.specs.Form.{read_form}
use Rattle.lines.specs.State.{stage, store_ok}
use Rattle.lines.specs.Outcome.{Outcome}
use Rattle.lines.specs.Refusal.{Check, check, bad_store, bad_line, no_form, wrong_stage}
use Rattle.lines.specs.Effect.{guarded, performed}
use Rattle.lines.specs.Clause.{work_of}

-- A form of stage k where the state is in stage g: "A form of an earlier stage never follows a later one", and a root stands exactly for the forms
-- behind C ("`(root L)`, once", "D and E need a root").
abbrev pub in_stage : ℕ → ℕ → Bool
in_stage k g = leb g k && beq (ltb stage_c k) (leb stage_c g)

-- "2 no form listed above": it belongs to no stage
abbrev pub is_no_form : ℕ → Bool
is_no_form k = eqb k no_stage

-- what comes before a line is read, and before the own checks of the form that was read, of stage k, in stage g
abbrev pub text_checks : List ℕ → List ℕ → List ℕ → List Check
text_checks s t line = check bad_store (not (store_ok s t)) ∷ check bad_line (not (line_ok line)) ∷ []

abbrev pub form_checks : ℕ → ℕ → List Check
form_checks k g = check no_form (is_no_form k) ∷ check wrong_stage (not (in_stage k g)) ∷ []

abbrev pub line_checks : List ℕ → List ℕ → List ℕ → List Check
line_checks s t line = text_checks s t line ++ form_checks (stage_of (read_form line).word) (stage s)

-- What a line answers and leaves, from the state s, the table t and an area of `room` bytes.
unfoldable pub step : List ℕ → List ℕ → List ℕ → ℕ → Outcome
step s t line room = performed (guarded (line_checks s t line) (work_of (read_form line) s t)) room s t
