-- The answer stands where the call put it, or the refusal's text is put there.
use mathlib.Core.Path.{sym, ap}
use Rattle.lines.specs.Refusal.{numbered}
use Rattle.lines.proofs.OutcomeLaws.{accepted_within}
use borrow.Author.Rules.{rules}
use Rattle.timetable.proofs.PrintLaws.{prints_accepted, prints_refused}
use Rattle.timetable.proofs.answer_line.Goals as goal

pub returns-in-Ok : goal.returns-in-Ok
returns-in-Ok c =
    let m = c.line.ensures in let e = c.in-Ok.is in
    prints_accepted m _ (ap numbered e) (search rules) (accepted_within m (ap numbered e))

pub returns-in-Err : goal.returns-in-Err
returns-in-Err c =
    prints_refused c.line.ensures _ (ap numbered c.in-Err.is) _ _ (rw (sym c.from.ensures) c.answer_refused.ensures) (search rules) (search rules)
