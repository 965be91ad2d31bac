use Rattle.answers.proofs.AnswerNodes.{count_hits}
use Rattle.rights.proofs.PassLaws.{view-length}
use Rattle.answers.proofs.AnswerLaws.{puts_more}
use Rattle.rights.specs.How.Seen.{nodes_in}
use native.Mathlib.Omega.{arith}
use Rattle.rights.proofs.MarkLaws.{count_front}
use mathlib.Core.Path.{◌∙◌}
use Rattle.answers.proofs.answer.put_query.Goals as goal

pub returns : goal.returns
returns c =
    let a = c.args in
    let n = view-length a.shown.now.table.now a.shown.now.numbers.now in
    let q = (count_front c.len-n.result a.marks.now c.count_marks-k.result (omega arith) c.count_marks-k.ensures).0 ∙ count_hits a.marks.now (nodes_in a.shown.now) c.len-n.result (omega arith) in
    let hits = c.put_hits-at.ensures in
    let end = c.put_end.ensures in
    (rw (← q) (puts_more hits.0 end.0), omega (arith, hits.1, end.1))
