-- The kinds of a line's parts, and where a part of each kind ends (document 01, "Lines").
use Rattle.std.specs.Prelude.{Option, ℕ, Bool, List, eqb}
use Rattle.forms.specs.Word.{sign_at, right_at}
use Rattle.forms.specs.Part.{path_byte, label_end, day_end, run_end, known_end}
use Rattle.forms.specs.Tree.{tree_end}

-- a label, which may be a subject's name; a path; a tree; accept or deny; one of the five rights; a day
pub data Kind : Type 0 where
  Label Path Tree Sign Right Day : Kind

-- the place after a part
abbrev pub part_end : Kind → List ℕ → ℕ → Option ℕ
part_end Label s at = label_end s at
part_end Path s at = run_end path_byte s at
part_end Tree s at = tree_end s at
part_end Sign s at = known_end (sign_at s at) s at
part_end Right s at = known_end (right_at s at) s at
part_end Day s at = day_end s at

-- The number of a kind. In the code 0 is no kind.
abbrev pub code_of : Kind → ℕ
code_of Label = 1
code_of Path = 2
code_of Tree = 3
code_of Sign = 4
code_of Right = 5
code_of Day = 6

abbrev pub is_tree : Kind → Bool
is_tree k = eqb (code_of k) (code_of Tree)
