-- The start of what demand 3 compares (document 01, "What demand 3 compares"): two tables and two states that look alike to a reader, on one day (document 02, card 7).
-- What is claimed of them stands in specs/Demand3.antt.
use Rattle.std.specs.Prelude.{Some, ℕ, suc, ◌≤◌, ◌≡◌, true, false, List, [], ◌∷◌, ◌⊎◌}
use Rattle.rights.specs.Marks.{keep}
use Rattle.rights.specs.Labels.{same_label, restricted}
use Rattle.rights.specs.Nodes.{Nodes}
use Rattle.rights.specs.Policy.{Policy, policy_word}
use Rattle.rights.specs.Rights.{rights_on}
use Rattle.rights.specs.Table.{records, label}
use Rattle.views.specs.Shown.{Stored, stored, shown, carried, view}
use Rattle.lines.specs.PolicyEdit.{isa_held, subject_named}
use Rattle.forms.specs.declared.layout.Word.TheVariants as word
use Rattle.forms.specs.Form.{read_form}
use Rattle.forms.specs.Command.{command, form_of}
use Rattle.lines.specs.State.{stage_c, stage, user_byte, day_in, policy_in, store_ok}
use Rattle.lines.specs.Outcome.{Answer, Accepted, Outcome}
use Rattle.store.specs.Line.{step}

-- "A policy is the subjects in order, the set of isa lines and the rules in order that a state holds."
pub record SamePolicy (P Q : Policy) : Type 0 where
  pub names : P.names ≡ Q.names
  pub isa : (n r : ℕ) → isa_held P n r ≡ isa_held Q n r
  pub rules : P.rules ≡ Q.rules

-- the nodes of a table with the rights of subject u on each, and those of them that are shown to u on the session's day
abbrev pub stored_for : ℕ → List ℕ → List ℕ → List Stored
stored_for u s t = stored (day_in s) t (rights_on (policy_in s) u (records t))

abbrev pub shown_to : ℕ → List ℕ → List ℕ → List Stored
shown_to u s t = keep (shown (stored_for u s t)) (stored_for u s t)

-- "their lists of the nodes shown to N, in document order, each with its level and the label it carries"
abbrev pub look : ℕ → List ℕ → List ℕ → Nodes
look u s t = view (stored_for u s t)

-- the true labels are equal, or neither is a policy word
abbrev pub NoWordDiffers : Policy → List ℕ → List ℕ → Type 0
NoWordDiffers P a b = (same_label a b ≡ true) ⊎ ((policy_word P a ≡ false) × (policy_word P b ≡ false))

-- "Nodes with the same number in these lists stand in the same place." No policy word differs behind RESTRICTED in the same place.
abbrev pub Behind : Policy → List Stored → List Stored → Type 0
Behind P [] ys = Unit {0}
Behind P (x ∷ xs) [] = Unit {0}
Behind P (x ∷ xs) (y ∷ ys) =
    (carried x ≡ restricted → carried y ≡ restricted → NoWordDiffers P (label x.bytes) (label y.bytes)) × Behind P xs ys

-- The start: "any tables and states that 13 lets pass, the root line taken, both states holding the same policy"; "trees are compared on one day".
pub record Start (s t s' t' : List ℕ) : Type 0 where
  pub passes : store_ok s t ≡ true
  pub passes' : store_ok s' t' ≡ true
  pub rooted : stage_c ≤ stage s
  pub rooted' : stage_c ≤ stage s'
  pub policy : SamePolicy (policy_in s) (policy_in s')
  pub day : day_in s ≡ day_in s'

-- The two suppositions, for the reader u: the trees look the same, and no policy word differs behind RESTRICTED. The tables may differ in length and in all else.
pub record Alike (u : ℕ) (s t s' t' : List ℕ) : Type 0 where
  pub start : Start s t s' t'
  pub looks : look u s t ≡ look u s' t'
  pub behind : Behind (policy_in s) (shown_to u s t) (shown_to u s' t')

-- the session's user is u
abbrev pub UserIs : ℕ → List ℕ → Type 0
UserIs u s = user_byte s ≡ suc u

-- The line logs subject v in: it is a `(user N)`, N is the name of v, and it is accepted. A refused one logs nobody in.
pub record LogsIn (v : ℕ) (s line : List ℕ) (r : Answer) : Type 0 where
  pub name : List ℕ
  pub form : read_form line ≡ form_of (command word.User (name, tt))
  pub subject : subject_named (policy_in s) name ≡ Some v
  pub said : ℕ
  pub accepted : r ≡ Accepted said

-- a line, and the length of the area that it gets
pub record Input : Type 0 where
  pub line : List ℕ
  pub room : ℕ

abbrev pub outcome : List ℕ → List ℕ → Input → Outcome
outcome s t i = step s t i.line i.room
