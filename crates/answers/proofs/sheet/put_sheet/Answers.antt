use Rattle.rights.specs.How.Seen.{nodes_in}
use Rattle.answers.proofs.AnswerLaws.{puts_more}
use Rattle.answers.proofs.SheetParts.{sheet_of}
use Rattle.answers.proofs.sheet.put_sheet.Goals as goal

pub returns : goal.returns
returns c =
    let a = c.args in
    rw (sheet_of a.room.now (nodes_in a.shown.now) _ c.find_days-found.ensures.found) (puts_more c.put_row-a.ensures.0 c.put_rows.ensures.0)
