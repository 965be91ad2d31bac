-- Loading a tree in place of its lines (document 02, card 2): "Table and state must equal those that the matching lines would leave if lines had no
-- length limit." A tree is taken exactly if all these lines would be answered `(ok)` (law load_exactly), and leaves what they would (law lines_load).
use Rattle.std.specs.Prelude.{ℕ, ◌≤◌, ◌≡◌, not, List, [], ◌∷◌, map, length}
use Rattle.rights.specs.Held.{table_bytes, node_bytes}
use Rattle.rights.specs.Table.{capacity}
use Rattle.rights.specs.Tree.{Tree, tree, Trees, none, more, nodes_of, size_of}
use Rattle.answers.specs.Answer.{ok_text}
use Rattle.forms.specs.declared.layout.Word.TheVariants as word
use Rattle.forms.specs.Command.{Command, command, stage_for}
use Rattle.lines.specs.Clause.{clause}
use Rattle.lines.specs.Conditions.{TreeRestricted, DeepAt}
use Rattle.lines.specs.Effect.{guarded, performed}
use Rattle.lines.specs.Outcome.{Outcome, says}
use Rattle.lines.specs.Refusal.{Check, check, bad_store, wrong_stage}
use Rattle.lines.specs.State.{stage_c, stage_d, stage, with_stage, store_ok}
use Rattle.store.specs.Line.{in_stage}

-- The lines that match a tree: `(root L)` with the root's label, then `(child TREE)` for each child of the root, in order.
abbrev pub child_commands : Trees → List Command
child_commands none = []
child_commands (more u us) = command word.Child (u, tt) ∷ child_commands us

abbrev pub matching_lines : Tree → List Command
matching_lines (tree l us) = command word.Root (l, tt) ∷ child_commands us

-- What the line of a command would answer and leave "if lines had no length limit": 13 and 3, the form's own checks and 12. A line within the limit
-- does just this (law step_unlimited_lem).
abbrev pub unlimited_checks : Command → List ℕ → List ℕ → List Check
unlimited_checks c s t = check bad_store (not (store_ok s t)) ∷ check wrong_stage (not (in_stage (stage_for c) (stage s))) ∷ []

abbrev pub step_unlimited : List ℕ → List ℕ → Command → ℕ → Outcome
step_unlimited s t c room = performed (guarded (unlimited_checks c s t) (clause c s t)) room s t

-- The lines of these commands, each with an area of `room` bytes and on what the one before it left, are all answered `(ok)`, and leave s' and t'.
abbrev pub LinesLeave : ℕ → List Command → (s t s' t' : List ℕ) → Type 0
LinesLeave room [] s t s' t' = (s' ≡ s) × (t' ≡ t)
LinesLeave room (c ∷ cs) s t s' t' =
    ((step_unlimited s t c room).reply ≡ says ok_text) × LinesLeave room cs (step_unlimited s t c room).state (step_unlimited s t c room).table s' t'

-- The stage of the last of the matching lines: C if the root has no child, else D.
abbrev pub loaded_stage : Tree → ℕ
loaded_stage (tree l none) = stage_c
loaded_stage (tree l (more u us)) = stage_d

-- The state and the table with the tree loaded.
abbrev pub loaded_state : Tree → List ℕ → List ℕ
loaded_state u s = with_stage (loaded_stage u) s

abbrev pub loaded_table : Tree → List ℕ → List ℕ
loaded_table u t = table_bytes (length t) (map node_bytes (nodes_of 0 u))

-- What the tree is turned away for: "9 to 12 as for child lines, 11 on the whole size". None of it applies:
pub record Loadable (room : ℕ) (t : List ℕ) (u : Tree) : Type 0 where
  -- "9 RESTRICTED as a label of root, child"
  pub labels : TreeRestricted u → ⊥
  -- "10 a level above 11"
  pub levels : DeepAt 0 u → ⊥
  -- "11 fewer free records than the whole line needs": in a table that holds no node, all records are free
  pub size : size_of u ≤ capacity (length t)
  -- "12 answer area shorter than the answer"
  pub area : length ok_text ≤ room
