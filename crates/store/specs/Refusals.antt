-- The refusals of a line in one table (document 01, "Who can be turned down, and for what"): the conditions of every line around those of its form (lines,
-- Conditions). A line is refused with a number exactly if the number's condition holds and none before it does (law refused_exactly), and accepted exactly if
-- none holds (law accepted_exactly).
use Rattle.std.specs.Prelude.{ℕ, ◌≤◌, ◌<◌, ◌≡◌, not, List, [], ◌∷◌, ◌++◌, ◌⊎◌, length}
use Rattle.forms.specs.Text.{line_ok}
use Rattle.forms.specs.Command.{Command, stage_for, written, GoodCommand}
use Rattle.rights.specs.Nodes.{DatedNode}
use Rattle.lines.specs.State.{stage_c, stage, store_ok}
use Rattle.lines.specs.Allowed.{Session, HoldsStore}
use Rattle.lines.specs.Refusal.{Check, check, bad_store, bad_line, wrong_stage}
use Rattle.lines.specs.Clause.{clause}
use Rattle.lines.specs.Conditions.{Some, Conditions, rows}
use Rattle.store.specs.Line.{in_stage}

-- the checks in front of a form's own: 13, 1 and 3
abbrev pub front_checks : Command → List ℕ → List ℕ → List Check
front_checks c s t =
    check bad_store (not (store_ok s t))
    ∷ check bad_line (not (line_ok (written c)))
    ∷ check wrong_stage (not (in_stage (stage_for c) (stage s)))
    ∷ []

-- "13 a table .. against "Tree and table"; a state against the limits, names, paths or stages above; a root in the table without the root line taken, or the reverse";
-- "13 takes in bad windows and a state's day outside 1 to 366" (document 02, card 7):
-- state and table hold nothing that is allowed
abbrev pub NoStore : List ℕ → List ℕ → Type 0
NoStore s t = (session : Session) (nodes : List DatedNode) → HoldsStore s t session nodes → ⊥

-- "1 too long or a byte outside 32 to 126"
abbrev pub BadLine : List ℕ → Type 0
BadLine line = (1024 < length line) ⊎ Some (λ b. (b < 32) ⊎ (126 < b)) line

-- "3 wrong stage": "A form of an earlier stage never follows a later one; D and E need a root", and `(root L)` comes once
abbrev pub WrongStage : List ℕ → Command → Type 0
WrongStage s c = (stage_for c < stage s) ⊎ ((stage_c < stage_for c) × (stage s < stage_c)) ⊎ ((stage_for c ≡ stage_c) × (stage_c ≤ stage s))

-- What a line says: a good command that is written so, or nothing. Law line_says: every line says one of both.
pub data Says (line : List ℕ) : Type 0 where
  says : (c : Command) → GoodCommand c → line ≡ written c → Says line
  nothing : ((c : Command) → GoodCommand c → line ≡ written c → ⊥) → Says line

-- the rows of a line: 13, 1 and 2 or 3 in front of its form's own, behind them "12 answer area shorter than the answer"
abbrev pub refusals : List ℕ → List ℕ → ℕ → {line : List ℕ} → Says line → Conditions
refusals s t room {line} (says c g e) =
    (13, NoStore s t)
    ∷ (1, BadLine line)
    ∷ (3, WrongStage s c)
    ∷ (rows s t c ++ ((12, room < length (clause c s t).text) ∷ []))
refusals s t room {line} (nothing h) = (13, NoStore s t) ∷ (1, BadLine line) ∷ (2, Unit {0}) ∷ []
