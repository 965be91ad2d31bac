use lib.ListN.{length}
use borrow.Author.Rules.{rules}
use Rattle.timetable.proofs.PrintLaws.{prints_refusal, ended_long, ended_short}
use Rattle.timetable.proofs.end_line.Goals as goal

pub returns-then-buffer-used : goal.returns-then-buffer-used
returns-then-buffer-used c =
    let a = c.args in
    ended_long a.state.now a.table.now a.buffer.now a.used (length a.area.now) c.if-buffer-used.true
    (prints_refusal 1 a.state.now a.table.now a.area.now _ _ (rw c.from.ensures at c.answer_refused.ensures) (search rules) (search rules))

pub returns : goal.returns
returns c =
    let a = c.args in
    ended_short a.state.now a.table.now a.buffer.now a.used (length a.area.now) c.if-buffer-used.false c.answer_line.ensures
