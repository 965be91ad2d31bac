use Rattle.rights.proofs.TableLaws.{table_long}
use Rattle.lines.proofs.ChangeLaws.{answered-count}
use native.Mathlib.Omega.{arith}
use Rattle.rights.proofs.MarkLaws.{count_front}
use Rattle.lines.proofs.changes.answer_change.Goals as goal

pub count_of-n-requires : goal.count_of-n-requires
count_of-n-requires c = table_long _ c.requires.0

pub returns : goal.returns
returns c =
    let a = c.args in
    answered-count a.table.now a.done.now a.area.now _ a.selected _ _ _ c.count_of-n.ensures (count_front c.count_of-n.result a.done.now c.count_marks-d.result (omega (arith, c.count_of-n.ensures, c.requires.1)) c.count_marks-d.ensures).0 c.answer_done.ensures
