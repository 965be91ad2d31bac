use Rattle.answers.proofs.AnswerNodes.{hit_none, hit_some}
use Rattle.answers.proofs.AnswerLaws.{puts_none}
use Rattle.rights.specs.How.Seen.{nodes_in}
use native.Mathlib.Omega.{arith}
use Rattle.answers.proofs.answer.put_marked.Goals as goal

pub returns-then-marks-i-eq0 : goal.returns-then-marks-i-eq0
returns-then-marks-i-eq0 c =
    let a = c.args in
    (rw (hit_none a.marks.now (nodes_in a.shown.now) a.i c.if-marks-i-eq0.true) (puts_none a.at a.area.now), omega arith)

pub returns : goal.returns
returns c =
    let a = c.args in
    (rw (hit_some a.marks.now (nodes_in a.shown.now) a.i c.if-marks-i-eq0.false) c.put_hit.ensures.0, c.put_hit.ensures.1)
