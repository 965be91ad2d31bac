use Rattle.answers.proofs.AnswerNodes.{hits_pass, found_hit, found_none}
use Rattle.rights.proofs.PassLaws.{view-length}
use Rattle.rights.specs.How.Seen.{nodes_in}
use native.Mathlib.Omega.{arith}
use mathlib.Core.Path.{sym, ◌∙◌}
use Rattle.answers.proofs.answer.put_found.Goals as goal

pub returns-then-marks-i-ne0 : goal.returns-then-marks-i-ne0
returns-then-marks-i-ne0 c =
    let a = c.args in
    let l = c.loop-i in
    let n = view-length a.shown.now.table.now a.shown.now.numbers.now in
    rw (found_hit a.marks.now (nodes_in a.shown.now) l.i l.invariant.1 (omega arith) (omega arith) c.if-marks-i-ne0.true, ← l.invariant.0) c.put_hit.ensures.0

pub loop-i-preserved : goal.loop-i-preserved
loop-i-preserved c =
    let a = c.args in
    let l = c.loop-i in
    let n = view-length a.shown.now.table.now a.shown.now.numbers.now in
    (l.invariant.0, sym (hits_pass a.marks.now (nodes_in a.shown.now) l.i (omega arith) (omega arith) c.if-marks-i-ne0.false) ∙ l.invariant.1)

pub returns : goal.returns
returns c =
    let a = c.args in
    let l = c.loop-i in
    let n = view-length a.shown.now.table.now a.shown.now.numbers.now in
    rw (found_none a.marks.now (nodes_in a.shown.now) l.i l.invariant.1 (omega arith), ← l.invariant.0) c.put_bytes.ensures
