use Rattle.rights.specs.Marks.{marks_of, keep}
use Rattle.answers.proofs.AnswerNodes.{hits_step, hit_lines_end}
use Rattle.rights.proofs.PassLaws.{view-length}
use Rattle.answers.proofs.AnswerLaws.{toward_start, toward_more, toward_end}
use Rattle.answers.specs.Answer.{hit_lines}
use Rattle.rights.specs.How.Seen.{nodes_in}
use native.Mathlib.Omega.{arith}
use mathlib.Core.Path.{refl}
use borrow.Author.Rules.{rules}
use Rattle.answers.proofs.answer.put_hits.Goals as goal

pub loop-i-init : goal.loop-i-init
loop-i-init c =
    let a = c.args in
    record { end = search rules; same = refl; put = toward_start (hit_lines (keep (marks_of a.marks.now) (nodes_in a.shown.now))) 0 a.area.now }

pub loop-i-preserved : goal.loop-i-preserved
loop-i-preserved c =
    let a = c.args in
    let l = c.loop-i in
    let n = view-length a.shown.now.table.now a.shown.now.numbers.now in
    record {
      end = omega arith;
      same = search rules;
      put = toward_more l.invariant.put c.put_marked-at.ensures.0 (hits_step a.marks.now (nodes_in a.shown.now) l.i (omega arith) (omega arith));
    }

pub returns : goal.returns
returns c =
    let a = c.args in
    let l = c.loop-i in
    let n = view-length a.shown.now.table.now a.shown.now.numbers.now in
    (toward_end l.invariant.put (hit_lines_end a.marks.now (nodes_in a.shown.now) l.i (omega arith)), omega arith)
