-- What a line does to the store where nothing turns it down. Every form has one of these effects, and the laws of lines go by them.
use Rattle.std.specs.Prelude.{ℕ, ◌+◌, Bool, List, [], ◌∷◌, ◌++◌, length}
use Rattle.rights.specs.Record.{node_record}
use Rattle.rights.specs.Table.{records, level}
use Rattle.views.specs.Change.{insert_marked, rename, remove, chunks, raise, relabel, redate, changed}
use Rattle.views.specs.declared.insert.Place.{Place}
use Rattle.lines.specs.Outcome.{Answer, Outcome, says, Made}
use Rattle.lines.specs.Refusal.{Check, area_check, checked}
use Rattle.lines.specs.State.{stage_c, stage_e, with_stage, with_session, with_day, with_policy}

pub data Effect : Type 0 where
  -- a line of A or B: the policy's bytes and the stage afterwards
  policy : List ℕ → ℕ → Effect
  -- the root's label
  root : List ℕ → Effect
  -- a tree at marked places: the place, the marks, the number of records, their bytes, the stage afterwards
  insertion : Place → List Bool → ℕ → List ℕ → ℕ → Effect
  -- the new label, the marks
  renaming : List ℕ → List Bool → Effect
  -- the marks
  removal : List Bool → Effect
  -- the first and the last day of the new window, the marks
  redating : ℕ → ℕ → List Bool → Effect
  -- the subject's number
  login : ℕ → Effect
  -- the session's day
  dating : ℕ → Effect
  reading : Effect

abbrev pub state_after : Effect → List ℕ → List ℕ
state_after (policy p g) s = with_stage g (with_policy p s)
state_after (root l) s = with_stage stage_c s
state_after (insertion at ms m tree g) s = with_stage g s
state_after (renaming l ms) s = s
state_after (removal ms) s = s
state_after (redating f l ms) s = s
state_after (login u) s = with_session stage_e (u + 1) s
state_after (dating d) s = with_stage stage_e (with_day d s)
state_after reading s = s

-- The nodes after an effect, of anything with a level: the records of a table, or records that carry which node they are. `new` makes nodes of the records that a
-- line brings; `on` takes a node under a change of its record.
module _ {E : Type 0} (lev : E → ℕ) (new : List (List ℕ) → List E) (on : (List ℕ → List ℕ) → E → E) where
  abbrev pub nodes_after : Effect → List E → List E
  nodes_after (policy p g) ns = ns
  nodes_after (root l) ns = new (node_record 0 l ∷ [])
  nodes_after (insertion at ms m tree g) ns = insert_marked lev at (λ l. new (raise l (chunks m tree))) ms ns
  nodes_after (renaming l ms) ns = rename lev (on (relabel l)) ms ns
  nodes_after (removal ms) ns = remove lev ms ns
  nodes_after (redating f l ms) ns = rename lev (on (redate f l)) ms ns
  nodes_after (login u) ns = ns
  nodes_after (dating d) ns = ns
  nodes_after reading ns = ns

abbrev pub records_after : Effect → List (List ℕ) → List (List ℕ)
records_after e rs = nodes_after level (λ new. new) (λ f. f) e rs

-- An effect that touches no node leaves every byte of the table.
abbrev pub table_after : Effect → List ℕ → List ℕ
table_after (policy p g) t = t
table_after (root l) t = changed t (records_after (root l) (records t))
table_after (insertion at ms m tree g) t = changed t (records_after (insertion at ms m tree g) (records t))
table_after (renaming l ms) t = changed t (records_after (renaming l ms) (records t))
table_after (removal ms) t = changed t (records_after (removal ms) (records t))
table_after (redating f l ms) t = changed t (records_after (redating f l ms) (records t))
table_after (login u) t = t
table_after (dating d) t = t
table_after reading t = t

-- A form's work: the checks that may turn it down, in their order; what it answers and does where none of them fails.
pub record Work : Type 0 where
  pub checks : List Check
  pub text : List ℕ
  pub effect : Effect

-- the work with checks in front of its own
abbrev pub guarded : List Check → Work → Work
guarded cs w = record { checks = cs ++ w.checks; text = w.text; effect = w.effect }

-- all its checks, in an area of `room` bytes
abbrev pub checks_in : ℕ → Work → List Check
checks_in room w = w.checks ++ (area_check room (length w.text) ∷ [])

-- the work carried out on the state s and the table t
unfoldable pub performed : Work → ℕ → List ℕ → List ℕ → Outcome
performed w room s t =
    checked (checks_in room w) s t
    (record { reply = says w.text; state = state_after w.effect s; table = table_after w.effect t })

-- what is returned and left is what the work does, in the area that was lent
abbrev pub Performs : Work → List ℕ → List ℕ → List ℕ → Answer → List ℕ → List ℕ → List ℕ → Type 0
Performs w s t before r s' t' after = Made (performed w (length before) s t) before r s' t' after
