use Rattle.answers.proofs.AnswerNodes.{children-step, children_end}
use Rattle.rights.proofs.PassLaws.{view-length}
use Rattle.answers.proofs.AnswerLaws.{toward_start, toward_more, toward_end}
use Rattle.answers.specs.Answer.{child_lines}
use Rattle.rights.specs.How.Seen.{nodes_in}
use native.Mathlib.Omega.{arith}
use lib.ListN.{drop}
use mathlib.Core.Path.{refl}
use borrow.Author.Rules.{rules}
use Rattle.answers.proofs.answer.put_children.Goals as goal

pub loop-i-init : goal.loop-i-init
loop-i-init c =
    let a = c.args in
    record { end = omega arith; same = refl; put = toward_start (child_lines (drop 1 (nodes_in a.shown.now))) a.at a.area.now }

pub loop-i-preserved : goal.loop-i-preserved
loop-i-preserved c =
    let a = c.args in
    let l = c.loop-i in
    let n = view-length a.shown.now.table.now a.shown.now.numbers.now in
    record {
      end = omega arith;
      same = search rules;
      put = toward_more l.invariant.put c.put_node-next.ensures.0 (children-step (nodes_in a.shown.now) l.i (omega arith));
    }

pub returns : goal.returns
returns c =
    let a = c.args in
    let l = c.loop-i in
    let n = view-length a.shown.now.table.now a.shown.now.numbers.now in
    (toward_end l.invariant.put (children_end (nodes_in a.shown.now) l.i (omega arith)), omega arith)
