use mathlib.Core.Path.{◌≡◌, refl, sym, ap, ◌∙◌}
use native.Mathlib.Omega.{arith}
use Rattle.rights.specs.How.Selection.{from_document}
use Rattle.rights.specs.Marks.{bit}
use Rattle.rights.proofs.PassLaws as laws
use Rattle.rights.proofs.passes.mark_start.Goals as goal
use Rattle.rights.proofs.passes.mark_start.Goals.{then-deep, else-deep}

pub loop-i-init : goal.loop-i-init
loop-i-init c = laws.marked_none _ _

pub loop-i-preserved : goal.loop-i-preserved
loop-i-preserved c =
    let deep = sym c.is_descendant-deep.ensures in
    let on : c.if-deep.from ≡ from_document c.args.axis c.loop-i.i =
    elim c.if-deep.branch [ then-deep w ↦ w.from-is ∙ rw (deep ∙ w.if-deep.true) w.if-deep.true | else-deep w ↦ w.from-is ∙ rw (deep ∙ w.if-deep.false) refl ] in
    laws.marked_more c.loop-i.marks _ c.loop-i.i c.from.result (omega arith) c.loop-i.invariant (c.from.ensures ∙ laws.byte_bit _ ∙ ap bit on)

pub returns : goal.returns
returns c = laws.marked_all _ _ _ _ (omega arith) c.loop-i.invariant
