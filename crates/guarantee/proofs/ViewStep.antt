-- What an accepted `(view)` prints, in literal text: the tree of the nodes that the user is shown. What an accepted `(sheet ROOM)` prints: the sheet of that
-- tree. Assumes nothing.
use Prim.Native.Nat.{ℕ, ◌<◌}
use mathlib.Core.Path.{◌≡◌, subst, sym, ap, ◌∙◌}
use mathlib.Core.Bool.{true, false, false≢true}
use mathlib.Core.List.{List, [], ◌∷◌}
use native.Mathlib.Omega.{arith}
use borrow.Author.Tests.{le-leb}
use lib.ListN.{length, get_or}
use Rattle.rights.specs.Bytes.{bytes}
use Rattle.rights.specs.Table.{day_ok, table_ok}
use Rattle.views.specs.Shown.{grants}
use Rattle.views.proofs.TableKept.{length-records}
use Rattle.views.proofs.ViewLaws.{view-nested, view_hidden, view_rooted}
use Rattle.rights.specs.Tree.{none}
use Rattle.answers.specs.Answer.{view_text}
use Rattle.answers.specs.Sheet.{sheet_text}
use Rattle.answers.specs.SheetTree.{week_sheet, SheetPrinted}
use Rattle.answers.proofs.SheetTreeLaws.{sheet_printed, sheet_empty}
use Rattle.answers.specs.AnswerTree.{Printed}
use Rattle.answers.proofs.AnswerTreeLaws.{view-printed, view_empty}
use Rattle.forms.specs.declared.layout.Word.TheVariants as word
use Rattle.forms.specs.Form.{ReadForm, read_form}
use Rattle.forms.specs.Command.{command, form_of}
use Rattle.lines.specs.Clause.{work_of}
use Rattle.lines.specs.Outcome.{says}
use Rattle.lines.specs.UserView.{rights_in, view_in}
use Rattle.lines.specs.State.{day_in}
use Rattle.lines.proofs.StateLaws.{store_held}
use Rattle.lines.proofs.UserViewLaws.{rights-length}
use Rattle.store.specs.Line.{step}
use Rattle.guarantee.proofs.Accepted.{Accepted, accepted, answer_is}

some_right : (ss : List ℕ) → grants (get_or ss 0 0) ≡ true → 0 < length ss
some_right [] h = absurd (false≢true h)
some_right (x ∷ ss) h = omega arith

module _ (s t line : List ℕ) (room : ℕ) (text : List ℕ) (answered : (step s t line room).reply ≡ says text) where
  taken : Accepted s t line room
  taken = accepted s t line room text answered

  table_ok_lem : table_ok t ≡ true
  table_ok_lem = (store_held s t taken.passes).table

  day_ok_lem : day_ok (day_in s) ≡ true
  day_ok_lem = rw (le-leb 1 (day_in s) (omega arith), le-leb (day_in s) 366 (store_held s t taken.passes).day)

  -- Where the user has neither read nor position on the root, the view is empty; otherwise it shows the root.
  hidden : grants (get_or (rights_in s t) 0 0) ≡ false → view_in s t ≡ []
  hidden h = view_hidden (day_in s) t (rights_in s t) table_ok_lem h

  rooted : grants (get_or (rights_in s t) 0 0) ≡ true → 0 < length (view_in s t)
  rooted h =
      let k = some_right (rights_in s t) h in
      view_rooted (day_in s) t (rights_in s t) table_ok_lem day_ok_lem (omega (arith, k, rights-length s t, length-records t)) k h

  module _ (form : read_form line ≡ form_of (command word.View tt)) where
    view-said : text ≡ view_text (view_in s t)
    view-said = answer_is s t line room text answered ∙ ap (λ (f : ReadForm). (work_of f s t).text) form

    -- "nothing but `(end 0)` if the root is hidden"
    pub view_of_hidden_root : grants (get_or (rights_in s t) 0 0) ≡ false → text ≡ bytes "(end 0)\n"
    view_of_hidden_root h = view-said ∙ ap view_text (hidden h) ∙ view_empty

    -- Otherwise "`(root L)`, a `(child TREE)` for each shown child, `(end K)`, K shown nodes".
    pub view_of_shown_root : grants (get_or (rights_in s t) 0 0) ≡ true → Printed (view_in s t) text
    view_of_shown_root h = subst (Printed (view_in s t)) (sym view-said) (view-printed (view_in s t) (rooted h) (view-nested (day_in s) t (rights_in s t) table_ok_lem))

  module _ (room_label : List ℕ) (form : read_form line ≡ form_of (command word.Sheet (room_label, tt))) where
    sheet-said : text ≡ sheet_text room_label (view_in s t)
    sheet-said = answer_is s t line room text answered ∙ ap (λ (f : ReadForm). (work_of f s t).text) form

    -- the sheet of no days: nine rows of blank cells
    pub sheet_of_hidden_root : grants (get_or (rights_in s t) 0 0) ≡ false → text ≡ week_sheet room_label none
    sheet_of_hidden_root h = sheet-said ∙ ap (sheet_text room_label) (hidden h) ∙ sheet_empty room_label

    -- the sheet of the root's trees, in the tree of the nodes that are shown
    pub sheet_of_shown_root : grants (get_or (rights_in s t) 0 0) ≡ true → SheetPrinted room_label (view_in s t) text
    sheet_of_shown_root h =
        subst (SheetPrinted room_label (view_in s t)) (sym sheet-said) (sheet_printed room_label (view_in s t) (rooted h) (view-nested (day_in s) t (rights_in s t) table_ok_lem))
