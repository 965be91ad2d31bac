-- How the code names words and kinds by numbers.
use Rattle.std.specs.Prelude.{Option, Some, None, ℕ, ◌+◌, ◌*◌, ◌-◌, ◌^◌, cond, List, [], ◌∷◌, ◌++◌, map, eqb, leb, ltb, ◌≡◌, ◌≤◌, length, replicate, take}
use Rattle.rights.specs.Labels.{label_byte}
use Rattle.rights.specs.PathReader.{run_at}
use Rattle.forms.specs.Word.{label_bytes_at, sign_at, right_at}
use Rattle.forms.specs.Part.{day_at}
use Rattle.forms.specs.Kind.{part_end, Label, Path, Tree, Sign, Right, Day, Kind, code_of}
use Rattle.rights.specs.Record.{pasted}
use Rattle.forms.specs.Tree.{tree_nodes, records_of}
use Rattle.forms.specs.declared.kind.Kind.{Kind as Coded}
use Rattle.forms.specs.declared.kind.Kind.TheVariants as coded
use Rattle.forms.specs.declared.layout.Word.{Word}
use Rattle.forms.specs.declared.layout.Layout.{Layout}
use Rattle.forms.specs.declared.stage.Stage.{Stage}
use Rattle.forms.specs.declared.stage.Stage.TheVariants as stages
use Rattle.forms.specs.Layout.{stage_a, stage_b, stage_c, stage_d, stage_e, no_stage, stage_of, shape_of}

-- The code compares words by textNumber: a text as a number, its first byte lowest. Law numbered-among says that this comes to the same.
unfoldable pub text_number : List ℕ → ℕ
text_number [] = 0
text_number (x ∷ xs) = text_number xs * 256 + x

unfoldable pub text_number_at : List ℕ → ℕ → ℕ
text_number_at s at = cond (leb (run_at label_byte s at) 8) (text_number (label_bytes_at s at)) 0

unfoldable pub by_number : {A : Type 0} → A → List (List ℕ × A) → ℕ → A
by_number other [] n = other
by_number other ((w, x) ∷ rest) n = cond (eqb n (text_number w)) x (by_number other rest n)

-- the weight of the letter after one of that weight, for words of up to 8 letters
abbrev pub next_weight : ℕ → ℕ
next_weight w = cond (ltb w (256 ^ 7)) (w * 256) 0

-- a table has 0 for a word that it lacks
abbrev pub found : ℕ → Option ℕ
found n = cond (eqb n 0) None (Some n)

-- the number of a kind of the code, and 0 for none
abbrev pub kind_number : Coded → ℕ
kind_number coded.Label = 1
kind_number coded.Path = 2
kind_number coded.Tree = 3
kind_number coded.Sign = 4
kind_number coded.Right = 5
kind_number coded.Day = 6

abbrev pub part_number : Option Coded → ℕ
part_number None = 0
part_number (Some k) = kind_number k

-- the number of a stage of the code, and the one of no form for none
abbrev pub stage_code : Stage → ℕ
stage_code stages.A = stage_a
stage_code stages.B = stage_b
stage_code stages.C = stage_c
stage_code stages.D = stage_d
stage_code stages.E = stage_e

abbrev pub stage_number : Option Stage → ℕ
stage_number None = no_stage
stage_number (Some k) = stage_code k

-- the place after a part of the kind with a number
unfoldable pub end_by : ℕ → List ℕ → ℕ → Option ℕ
end_by n s at =
    cond (eqb n 1) (part_end Label s at)
    (cond (eqb n 2) (part_end Path s at)
    (cond (eqb n 3) (part_end Tree s at)
    (cond (eqb n 4) (part_end Sign s at)
    (cond (eqb n 5) (part_end Right s at)
    (cond (eqb n 6) (part_end Day s at)
    None)))))

-- what such a part says besides its place: a sign's number, a right's bit, a day's number, how many nodes a tree has
unfoldable pub says_by : ℕ → List ℕ → ℕ → ℕ
says_by n s at =
    cond (eqb n 3) (length (tree_nodes s at))
    (cond (eqb n 4) (sign_at s at)
    (cond (eqb n 5) (right_at s at)
    (cond (eqb n 6) (day_at s at)
    0)))

-- the area once such a part was passed: a tree's records are put
unfoldable pub area_by : ℕ → List ℕ → ℕ → List ℕ → List ℕ
area_by n s at a = cond (eqb n 3) (pasted a 0 (records_of (tree_nodes s at))) a

-- a form's kinds by their numbers: at most four, and 0 after the last
abbrev pub codes_of : List Kind → List ℕ
codes_of ks = map code_of ks ++ replicate (1 + (4 - length ks)) 0

-- a word with its stage and the kinds of its parts
pub record LaidOut (w : Word) (r : Layout) : Type 0 where
  pub word : r.word ≡ w
  pub stage : stage_number r.stage ≡ stage_of w
  pub kinds : map part_number r.kinds ≡ take 4 (codes_of (shape_of w))
  pub size : length r.kinds ≡ 4
  pub few : length (shape_of w) ≤ 4
