-- A view that is printed is read back: each of its `(child TREE)` lines, typed, says that tree. Assumes nothing.
use Prim.Native.Nat.{ℕ}
use mathlib.Core.Path.{◌≡◌, refl, sym, ap}
use mathlib.Core.List.{List, ◌∷◌, [], ◌++◌, append_assoc}
use native.Mathlib.Omega.{arith}
use Rattle.rights.specs.Tree.{Tree, Trees, none, more, write_tree}
use Rattle.forms.specs.declared.layout.Word.TheVariants as word
use Rattle.forms.specs.TreeText.{GoodTree, GoodTrees}
use Rattle.forms.specs.Form.{read_form}
use Rattle.forms.specs.Command.{Command, command, write_value, written, GoodValue, GoodCommand, form_of}
use Rattle.forms.proofs.CommandLaws.{written_read}
use Rattle.answers.specs.AnswerTree.{lines_of}

abbrev child_of : Tree → Command
child_of t = command word.Child (t, tt)

-- a text is one line for each tree, and each line says its tree
abbrev pub ReadsBack : List ℕ → Trees → Type 0
ReadsBack s none = s ≡ []
ReadsBack s (more t ts) = (line rest : List ℕ) × (s ≡ line ++ (10 ∷ rest)) × (read_form line ≡ form_of (child_of t)) × ReadsBack rest ts

child_good : (t : Tree) → GoodTree t → GoodCommand (child_of t)
unfolding GoodValue
child_good t g = record { word = omega arith; values = (g, tt) }

pub view_reads_back : (ts : Trees) → GoodTrees ts → ReadsBack (lines_of ts) ts
unfolding lines_of GoodTrees written write_value
view_reads_back none g = refl
view_reads_back (more t ts) g = (
  written (child_of t),
  lines_of ts,
  ap (λ (v : List ℕ). 40 ∷ 99 ∷ 104 ∷ 105 ∷ 108 ∷ 100 ∷ 32 ∷ v) (sym (append_assoc (write_tree t) (41 ∷ []) (10 ∷ lines_of ts))),
  written_read (child_of t) (child_good t g.0),
  view_reads_back ts g.1,
)
