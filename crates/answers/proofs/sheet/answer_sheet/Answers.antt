use mathlib.Core.Path.{refl, sym}
use native.Mathlib.Omega.{arith}
use Rattle.rights.specs.How.Seen.{nodes_in}
use Rattle.answers.specs.Sheet.{sheet_text}
use Rattle.answers.proofs.AnswerLaws.{answered-not, answered_fits}
use Rattle.answers.proofs.SheetLaws.{sheet_length}
use Rattle.answers.proofs.sheet.answer_sheet.Goals as goal

pub returns-then-area-lt-SHEET_BYTES : goal.returns-then-area-lt-SHEET_BYTES
returns-then-area-lt-SHEET_BYTES c =
    let a = c.args in
    let t = nodes_in a.shown.now in
    answered-not (sheet_text a.room.now t) a.area.now 657 (sym (sheet_length a.room.now t)) c.if-area-lt-SHEET_BYTES.true

pub returns : goal.returns
returns c =
    let a = c.args in
    let t = nodes_in a.shown.now in
    let p = c.put_sheet.ensures in
    let n = sheet_length a.room.now t in
    answered_fits (sheet_text a.room.now t) a.area.now c.put_sheet.new.area _ _ p refl (omega (arith, p.next, n, c.if-area-lt-SHEET_BYTES.false))
