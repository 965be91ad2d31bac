-- Lines as they are written, `(append P TREE)`, `(before P TREE)`, `(after P TREE)`, `(child TREE)`, `(root L)`, `(view)`, `(sheet ROOM)`, `(find P)`: where an accepted insertion lands,
-- what a view and a sheet print, what is found. Assumes nothing.
use Prim.Native.Nat.{ℕ}
use mathlib.Core.Path.{◌≡◌, ap, ◌∙◌}
use mathlib.Core.Bool.{true, false}
use mathlib.Core.List.{List}
use lib.ListN.{get_or}
use Rattle.rights.specs.Bytes.{bytes}
use Rattle.rights.specs.Marks.{mark_count}
use Rattle.rights.specs.Nodes.{node, level_at, label_at}
use Rattle.rights.specs.Tree.{Tree, tree, none}
use Rattle.views.specs.Shown.{grants}
use Rattle.views.specs.StoredTree.{HoldsTree, Lands}
use Rattle.views.specs.declared.insert.Place.{Place}
use Rattle.views.specs.declared.insert.Place.TheVariants as place
use Rattle.answers.specs.Answer.{ok_text, done_text, none_line, hit_line}
use Rattle.answers.specs.AnswerTree.{Printed}
use Rattle.answers.specs.SheetTree.{week_sheet, SheetPrinted}
use Rattle.forms.specs.declared.layout.Word.TheVariants as word
use Rattle.forms.specs.Command.{command, written, GoodCommand}
use Rattle.forms.specs.Form.{ReadForm}
use Rattle.forms.proofs.CommandLaws.{written_read}
use Rattle.lines.specs.Outcome.{says}
use Rattle.lines.specs.UserView.{rights_in, view_in, marks_in, done_in, FirstSelected, NoneSelected}
use Rattle.lines.specs.Clause.{work_of, clause}
use Rattle.lines.specs.Work.{root_alone, change_at}
use Rattle.store.specs.Line.{step}
use Rattle.store.proofs.ClauseLaws.{find_clause, find_clause_none}
use Rattle.guarantee.proofs.Accepted.{answer_is}
use Rattle.guarantee.proofs.InsertionStep.{insert_command, root_lands, insert_lands, child_lands}
use Rattle.guarantee.proofs.ViewStep.{view_of_hidden_root, view_of_shown_root, sheet_of_hidden_root, sheet_of_shown_root}

module _ (s t : List ℕ) (room : ℕ) (text : List ℕ) where
  pub insert_written : (at : Place) (path : List ℕ) (new : Tree) → GoodCommand (insert_command at path new) → (step s t (written (insert_command at path new)) room).reply ≡ says text
      → Lands at (done_in (change_at at) s t path) new t (step s t (written (insert_command at path new)) room).table
      × (text ≡ done_text (mark_count (marks_in s t path)) (mark_count (done_in (change_at at) s t path)))
  insert_written at path new g a =
      insert_lands s t (written (insert_command at path new)) room text a new at path (written_read (insert_command at path new) g)

  -- `(child TREE)`
  pub child_written : (new : Tree) → GoodCommand (command word.Child (new, tt)) → (step s t (written (command word.Child (new, tt))) room).reply ≡ says text
      → Lands place.Append root_alone new t (step s t (written (command word.Child (new, tt))) room).table × (text ≡ ok_text)
  child_written new g a = child_lands s t (written (command word.Child (new, tt))) room text a new (written_read (command word.Child (new, tt)) g)

  -- `(root L)`
  pub root_written : (l : List ℕ) → GoodCommand (command word.Root (l, tt)) → (step s t (written (command word.Root (l, tt))) room).reply ≡ says text
      → HoldsTree (step s t (written (command word.Root (l, tt))) room).table (tree l none) × (text ≡ ok_text)
  root_written l g a = root_lands s t (written (command word.Root (l, tt))) room text a l (written_read (command word.Root (l, tt)) g)

  -- `(view)`
  pub view-written : GoodCommand (command word.View tt) → (step s t (bytes "(view)") room).reply ≡ says text
      → (grants (get_or (rights_in s t) 0 0) ≡ false → text ≡ bytes "(end 0)\n") × (grants (get_or (rights_in s t) 0 0) ≡ true → Printed (view_in s t) text)
  unfolding written
  view-written g a =
      let w = written_read (command word.View tt) g in
      (view_of_hidden_root s t (bytes "(view)") room text a w, view_of_shown_root s t (bytes "(view)") room text a w)

  -- `(sheet ROOM)` (document 02, card 3)
  pub sheet_written : (l : List ℕ) → GoodCommand (command word.Sheet (l, tt)) → (step s t (written (command word.Sheet (l, tt))) room).reply ≡ says text
      → (grants (get_or (rights_in s t) 0 0) ≡ false → text ≡ week_sheet l none) × (grants (get_or (rights_in s t) 0 0) ≡ true → SheetPrinted l (view_in s t) text)
  sheet_written l g a =
      let c = command word.Sheet (l, tt) in
      let w = written_read c g in
      (sheet_of_hidden_root s t (written c) room text a l w, sheet_of_shown_root s t (written c) room text a l w)

  -- `(find P)`: "the first selected node in document order", or "`(none)` if nothing is selected"
  pub find_written : (path : List ℕ) → GoodCommand (command word.Find (path, tt)) → (step s t (written (command word.Find (path, tt))) room).reply ≡ says text
      → ((k : ℕ) → FirstSelected s t path k → text ≡ hit_line (node (level_at (view_in s t) k) (label_at (view_in s t) k)))
      × (NoneSelected s t path → text ≡ none_line)
  find_written path g a =
      let c = command word.Find (path, tt) in
      let said : text ≡ (clause c s t).text = answer_is s t (written c) room text a ∙ ap (λ (f : ReadForm). (work_of f s t).text) (written_read c g) in
      (λ k f. said ∙ find_clause s t path k f, λ none. said ∙ find_clause_none s t path none)
