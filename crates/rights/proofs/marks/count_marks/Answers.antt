use mathlib.Core.Path.{◌∙◌, ap}
use lib.Seq.{take_all}
use Rattle.rights.specs.Marks.{marks_of, mark_count}
use Rattle.rights.proofs.MarkLaws.{count_more, count_same, marks_length}
use native.Mathlib.Omega.{arith}
use Rattle.rights.proofs.marks.count_marks.Goals as goal
use Rattle.rights.proofs.marks.count_marks.Goals.{then-marks-i-ne0, else-marks-i-ne0}

pub loop-i-preserved : goal.loop-i-preserved
loop-i-preserved c =
    let a = c.args in
    let l = c.loop-i in (
      elim c.if-marks-i-ne0.branch [
        | then-marks-i-ne0 w ↦ w.k-is ∙ count_more a.marks.now l.i l.k (omega arith) l.invariant.0 w.if-marks-i-ne0.true
        | else-marks-i-ne0 w ↦ w.k-is ∙ count_same a.marks.now l.i l.k (omega arith) l.invariant.0 w.if-marks-i-ne0.false
      ],
      elim c.if-marks-i-ne0.branch [ then-marks-i-ne0 w ↦ omega arith | else-marks-i-ne0 w ↦ omega arith ],
    )

pub returns : goal.returns
returns c =
    let l = c.loop-i in
    (l.invariant.0 ∙ ap mark_count (take_all l.i (marks_of c.args.marks.now) (omega (arith, marks_length c.args.marks.now))), omega arith)
