use Prim.Native.Nat.{◌+◌, ◌*◌}
use mathlib.Core.Path.{sym, ◌∙◌}
use borrow.Author.Tests.{ltb-true, ltb-false}
use lib.ListN.{get_or}
use Rattle.views.specs.How.Pass.{cut_level}
use Rattle.views.proofs.CopyLaws.{moved_down}
use Rattle.views.proofs.RemovalLaws.{first_low, step-below, step_marked, step_kept}
use native.Mathlib.Omega.{arith}
use borrow.Author.Rules.{rules}
use Rattle.views.proofs.remove.step.Goals as goal

pub is_below-requires : goal.is_below-requires
is_below-requires c =
    let a = c.args in
    first_low a.n a.i a.t.now (omega arith) c.requires.4

pub returns-then-is_below : goal.returns-then-is_below
returns-then-is_below c =
    let a = c.args in
    let h = ltb-true (cut_level a.kept.cut) (get_or a.t.now (4 + a.i * 32) 0) (sym c.is_below.ensures ∙ c.if-is_below.true) in
    let r = step-below a.n a.i (cut_level a.kept.cut) a.kept.w a.t.now a.marks.now (omega arith) (omega arith) h c.requires.4 in
    (omega arith, r.0, r.1)

pub returns-then-marks-i-ne0 : goal.returns-then-marks-i-ne0
returns-then-marks-i-ne0 c =
    let a = c.args in
    let h = ltb-false (cut_level a.kept.cut) (get_or a.t.now (4 + a.i * 32) 0) (sym c.is_below.ensures ∙ c.if-is_below.false) in
    let r = step_marked a.n a.i (cut_level a.kept.cut) a.kept.w a.t.now a.marks.now (omega arith) (omega arith) h c.if-marks-i-ne0.true c.requires.4 in
    (omega arith, r.0, r.1)

pub returns : goal.returns
returns c =
    let a = c.args in
    let m = c.move_record in
    let h = ltb-false (cut_level a.kept.cut) (get_or a.t.now (4 + a.i * 32) 0) (sym c.is_below.ensures ∙ c.if-is_below.false) in
    let e = moved_down m.new.t a.t.now (4 + a.i * 32) (4 + a.kept.w * 32) 32 (omega arith) m.ensures (omega arith) in
    let r = step_kept a.n a.i (cut_level a.kept.cut) a.kept.w a.t.now a.marks.now (omega arith) (omega arith) m.new.t (omega arith) (omega arith) e.0 e.1 h (search rules)
    c.requires.4 in
    (omega arith, r.0, r.1)
