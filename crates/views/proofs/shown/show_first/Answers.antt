use mathlib.Core.Path.{refl}
use native.Mathlib.Omega.{arith}
use Rattle.views.specs.How.Numbers.{shown_number}
use Rattle.views.proofs.StoredLaws.{stored_at, showing_more, showing_end}
use Rattle.views.proofs.shown.show_first.Goals.{then-on, else-on}
use Rattle.views.proofs.shown.show_first.Goals as goal

pub loop-i-preserved : goal.loop-i-preserved
loop-i-preserved c =
    let a = c.args in
    let l = c.loop-i in
    showing_more a.day a.table.now a.rights.now a.shown.now a.n l.shown c.if-on.shown l.depth l.k l.i c.if-on.k c.depth_after-depth.result
    (shown_number (stored_at a.day a.table.now a.rights.now l.i)) c.is_shown-on.result (omega arith) (omega arith) (omega arith) l.invariant c.is_shown-on.ensures refl
    (elim c.if-on.branch [ then-on w ↦ rw (w.if-on.true, w.k-is) refl | else-on w ↦ rw (w.if-on.false, w.k-is) refl ])
    (elim c.if-on.branch [ then-on w ↦ rw (w.if-on.true, w.shown-is, w.number_of.ensures) refl | else-on w ↦ rw (w.if-on.false, w.shown-is) refl ])
    c.depth_after-depth.ensures

pub returns : goal.returns
returns c =
    let a = c.args in
    let l = c.loop-i in
    showing_end a.day a.table.now a.rights.now a.shown.now a.n l.shown l.depth l.k _ (omega arith) (omega arith) l.invariant
