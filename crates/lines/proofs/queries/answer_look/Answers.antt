use Rattle.lines.proofs.queries.answer_look.Goals as goal

pub returns-in-View : goal.returns-in-View
returns-in-View c =
    rw c.in-View.is c.answer_view.ensures

pub returns-in-Sheet : goal.returns-in-Sheet
returns-in-Sheet c =
    rw c.in-Sheet.is c.answer_sheet.ensures
