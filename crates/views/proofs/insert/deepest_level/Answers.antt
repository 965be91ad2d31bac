use Prim.Native.Nat.{◌-◌, ◌*◌}
use mathlib.Core.Path.{◌∙◌}
use Rattle.views.proofs.DepthLaws.{deepest-none, deepest_more, max_deeper}
use lib.Dec.{ltb}
use Rattle.rights.proofs.ListLaws.{by_case}
use native.Mathlib.Omega.{arith}
use Rattle.views.proofs.insert.deepest_level.Goals as goal

pub loop-j-init : goal.loop-j-init
loop-j-init c = let a = c.args in (omega arith, omega arith, deepest-none a.m a.tree.now)

pub loop-j-preserved : goal.loop-j-preserved
loop-j-preserved c =
    let l = c.loop-j in
    let a = c.args in
    let e = c.max-deep.ensures ∙ max_deeper l.deep c.from.result in
    let d = e ∙ deepest_more a.m (l.j - 1) l.j l.deep c.from.result a.tree.now (omega arith) (omega arith) l.invariant.2 c.from.ensures in
    (omega arith, rw e (by_case (ltb l.deep c.from.result) (λ q. rw q (omega (arith, c.from.ensures, c.type_inv.tree ((l.j - 1) * 32)))) (λ q. rw q l.invariant.1)), d)
