use mathlib.Core.Path.{sym, ◌∙◌}
use native.Mathlib.Omega.{arith}
use native.Mathlib.Numerals.{add-one}
use Rattle.rights.proofs.LabelLaws.{order_stop, order_level, order_next, rest-none, rest_stop, rest_next}
use Rattle.rights.proofs.labels.compare_labels.Goals as goal

pub returns-then-is_ne : goal.returns-then-is_ne
returns-then-is_ne c = order_stop _ _ _ _ _ c.cmp-lengths.ensures (rw c.is_ne.ensures at c.if-is_ne.true)

pub loop-i-init : goal.loop-i-init
loop-i-init c =
    let e = order_level _ _ _ c.cmp-lengths.ensures (rw c.is_ne.ensures at c.if-is_ne.false) in
    (e, order_next _ _ _ _ e)

pub returns-then-is_ne-2 : goal.returns-then-is_ne-2
returns-then-is_ne-2 c =
    let a = c.args in
    let l = c.loop-i in
    sym (l.invariant.1 ∙ rest_stop a.a.now a.b.now l.i _ (omega arith) (omega arith) c.byte_order-bytes.ensures (rw c.is_ne-in-loop-i.ensures at c.if-is_ne-2.true))

pub loop-i-preserved : goal.loop-i-preserved
loop-i-preserved c =
    let a = c.args in
    let l = c.loop-i in
    (l.invariant.0, l.invariant.1 ∙ rest_next a.a.now a.b.now l.i _ (omega arith) (omega arith) c.byte_order-bytes.ensures (rw c.is_ne-in-loop-i.ensures at c.if-is_ne-2.false) ∙ rw (add-one l.i))

pub returns : goal.returns
returns c =
    let a = c.args in
    let l = c.loop-i in
    sym (l.invariant.1 ∙ rest-none a.a.now a.b.now l.i (omega arith) (omega arith))
