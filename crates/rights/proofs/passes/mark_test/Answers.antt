use mathlib.Core.Path.{ap, ◌∙◌}
use native.Mathlib.Omega.{arith}
use Rattle.rights.specs.Marks.{bit}
use Rattle.rights.proofs.PassLaws as laws
use Rattle.rights.proofs.passes.mark_test.Goals as goal

pub loop-i-init : goal.loop-i-init
loop-i-init c = λ mine told x q. laws.marked_none _ _

pub loop-i-preserved : goal.loop-i-preserved
loop-i-preserved c =
    let l = c.loop-i in
    λ mine told x q. laws.marked_more l.marks _ l.i c.from.result (omega arith) (l.invariant mine told x q) (c.from.ensures ∙ laws.byte_bit _ ∙ ap bit (c.passes_test.ensures mine told x q))

pub returns : goal.returns
returns c = λ mine told x q. laws.marked_all _ _ _ _ (omega arith) (c.loop-i.invariant mine told x q)
