-- What the lines of stages A and B ask of a policy and write into it (document 01, "Lines" and "Rights"; refusals 5, 6, 7 and 9). The bytes stand as
-- PolicyBytes says.
use Rattle.std.specs.Prelude.{Option, Some, None, ℕ, suc, ◌+◌, Bool, true, false, cond, ◌&&◌, ◌||◌, ◌≡◌, List, [], ◌∷◌, ◌++◌, map, eqb, length, get_or, set}
use Rattle.rights.specs.Labels.{same_label, restricted}
use Rattle.rights.specs.Path.{Test, Path, last, next, Brackets, none, position, holds}
use Rattle.rights.specs.declared.path.Axis.{Axis}
use Rattle.rights.specs.PathReader.{Got, got, bad, path_of}
use Rattle.rights.specs.PathText.{write_step}
use Rattle.rights.specs.Policy.{Policy, some, uses}
use Rattle.rights.specs.PolicyBytes.{subject_count, isa_count, rule_count, subject_at, isa_at, rule_at}
use Rattle.rights.specs.Record.{name_record, pasted}
use Rattle.rights.specs.Held.{join}
pub use Rattle.rights.specs.Held.{axis_byte, step_record, rule_head}

-- Refusal 5: "a name unknown, declared twice, an isa line repeated"

-- the number of the subject named x, among the names that start with number u
unfoldable pub subject_from : List ℕ → ℕ → List (List ℕ) → Option ℕ
subject_from x u [] = None
subject_from x u (y ∷ ys) = cond (same_label x y) (Some u) (subject_from x (suc u) ys)

unfoldable pub subject_named : Policy → List ℕ → Option ℕ
subject_named P x = subject_from x 0 P.names

abbrev pub is_unknown : Option ℕ → Bool
is_unknown (Some u) = false
is_unknown None = true

-- the number of a subject that was found; a check that it was found stands in front of each use
abbrev pub number_in : Option ℕ → ℕ
number_in (Some u) = u
number_in None = 0

-- an isa line that says that n is an r
abbrev pub is_line : ℕ → ℕ → ℕ × ℕ → Bool
is_line n r w = eqb w.0 n && eqb w.1 r

unfoldable pub isa_held : Policy → ℕ → ℕ → Bool
isa_held P n r = some (is_line n r) P.isa

-- Refusal 6: "a bracket in a rule's path", decided on what was read; a text that is no path has none
abbrev pub any_bracket : Brackets → Bool
any_bracket none = false
any_bracket (position n bs) = true
any_bracket (holds p bs) = true

unfoldable pub bracketed : Path → Bool
bracketed (last a x bs) = any_bracket bs
bracketed (next a x bs p) = any_bracket bs || bracketed p

abbrev pub bracketed_in : Got Path → Bool
bracketed_in (got p i) = bracketed p
bracketed_in bad = false

unfoldable pub has_bracket : List ℕ → Bool
has_bracket s = bracketed_in (path_of s)

-- a path that a rule may have: well formed and without brackets
pub record Plain (s : List ℕ) : Type 0 where
  pub path : Path
  pub read : path_of s ≡ got path (length s)
  pub flat : bracketed path ≡ false

-- The steps of a path without brackets, in its order
unfoldable pub step_list : Path → List (Axis × Test)
step_list (last a x bs) = (a, x) ∷ []
step_list (next a x bs p) = (a, x) ∷ step_list p

-- the steps that a text writes; none, if it is no path
abbrev pub steps_got : Got Path → List (Axis × Test)
steps_got (got p i) = step_list p
steps_got bad = []

unfoldable pub steps_in : List ℕ → List (Axis × Test)
steps_in s = steps_got (path_of s)

-- the text of steps
unfoldable pub write_stored : List (Axis × Test) → List ℕ
write_stored [] = []
write_stored (w ∷ ws) = 47 ∷ (write_step w.0 w.1 ++ write_stored ws)

-- Refusal 9: RESTRICTED as a label of a rule's path
unfoldable pub path_restricted : List ℕ → Bool
path_restricted s = some (uses false restricted) (steps_in s)

-- the records of steps, one after the other
unfoldable pub step_records : List (Axis × Test) → List ℕ
step_records ws = join (map step_record ws)

-- One line more: its bytes at their place, and the count at byte c raised by one. No other byte changes.
unfoldable pub with_line : List ℕ → ℕ → ℕ → List ℕ → List ℕ
with_line p c at x = set (pasted p at x) c (get_or p c 0 + 1)

-- `(subject N)`: x is the name
abbrev pub with_subject : List ℕ → List ℕ → List ℕ
with_subject p x = with_line p 0 (subject_at (subject_count p)) (name_record 0 x)

-- `(isa N R)`: n and r are the subjects' numbers
abbrev pub with_isa : List ℕ → ℕ → ℕ → List ℕ
with_isa p n r = with_line p 1 (isa_at (isa_count p)) (n ∷ r ∷ [])

-- `(rule accept|deny RIGHT PATH N)`: 1 or 0, the right's bit, the subject's number, the path's steps
abbrev pub with_rule : List ℕ → ℕ → ℕ → ℕ → List (Axis × Test) → List ℕ
with_rule p accept bit who ws = with_line p 2 (rule_at (rule_count p)) (rule_head accept bit who (length ws) ++ step_records ws)
