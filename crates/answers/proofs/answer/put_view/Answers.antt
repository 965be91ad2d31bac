use Rattle.answers.proofs.AnswerNodes.{view-none, view-some}
use Rattle.rights.proofs.PassLaws.{view-length}
use Rattle.answers.proofs.AnswerLaws.{puts_more}
use Rattle.rights.specs.How.Seen.{nodes_in}
use native.Mathlib.Omega.{arith}
use mathlib.Core.Path.{sym, ◌∙◌}
use Rattle.answers.proofs.answer.put_view.Goals as goal

pub returns-then-len-eq0 : goal.returns-then-len-eq0
returns-then-len-eq0 c =
    let a = c.args in
    let n = view-length a.shown.now.table.now a.shown.now.numbers.now in
    (rw (view-none (nodes_in a.shown.now) (omega arith)) c.put_end.ensures.0, omega (arith, c.put_end.ensures.1))

pub returns : goal.returns
returns c =
    let a = c.args in
    let n = view-length a.shown.now.table.now a.shown.now.numbers.now in
    let root = c.put_root-a.ensures in
    let children = c.put_children-b.ensures in
    let end = c.put_end-2.ensures in
    (rw (view-some (nodes_in a.shown.now) c.len-2.result (omega arith) (c.len-2.ensures ∙ sym n)) (puts_more root.0 (puts_more children.0 end.0)), omega (arith, root.1, children.1, end.1))
