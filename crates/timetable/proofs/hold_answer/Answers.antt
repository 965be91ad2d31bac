use Rattle.timetable.specs.How.Run.{ended, line_in}
use Rattle.timetable.proofs.PrintLaws.{prints_behind}
use Rattle.timetable.proofs.hold_answer.Goals as goal

pub returns : goal.returns
returns c =
    let a = c.args in
    prints_behind (ended a.state.now a.table.now (line_in a.buffer.now a.used)) a.held c.end_line.result a.out.now _ c.requires.0 c.requires.1
    c.end_line.ensures
