use mathlib.Core.Path.{sym, ap, ◌∙◌}
use native.Mathlib.Omega.{arith}
use Rattle.rights.specs.XPath.{at, children, filter}
use Rattle.rights.specs.How.Seen.{nodes_in}
use Rattle.rights.proofs.PassLaws.{view-length}
use Rattle.answers.specs.Sheet.{carries, labelled}
use Rattle.answers.proofs.SheetParts.{children_from, passed_on, first_that, none_that}
use Rattle.answers.proofs.sheet.labelled_child.Goals as goal

pub loop-next-init : goal.loop-next-init
loop-next-init c =
    let a = c.args in
    let t = nodes_in a.shown.now in
    let f = c.child_from-next.ensures in
    (f.inside, ap (filter (carries a.room.now t)) (children_from t a.i _ (omega (arith, c.level-l.ensures.0)) ∙ f.first.is))

pub is_labelled-requires : goal.is_labelled-requires
is_labelled-requires c =
    let n = view-length c.args.shown.now.table.now c.args.shown.now.numbers.now in
    let h = rw c.in-Some.is at c.loop-next.invariant.0 in
    omega (arith, h)

pub returns-then-is_labelled-clause-first : goal.returns-then-is_labelled-clause-first
unfolding labelled
returns-then-is_labelled-clause-first c =
    let a = c.args in
    let t = nodes_in a.shown.now in
    let h = rw c.in-Some.is at c.loop-next.invariant in
    first_that (carries a.room.now t) t _ c.in-Some.j (children t (at a.i)) h.1 h.0 (sym c.is_labelled.ensures ∙ c.if-is_labelled.true)

pub overflow_add-j : goal.overflow_add-j
overflow_add-j c =
    let n = view-length c.args.shown.now.table.now c.args.shown.now.numbers.now in
    let h = rw c.in-Some.is at c.loop-next.invariant.0 in
    omega (arith, h, c.args.shown.now.fits.few)

pub loop-next-smaller : goal.loop-next-smaller
loop-next-smaller c =
    let h = rw c.in-Some.is at c.loop-next.invariant.0 in
    let f = c.child_from-next-in-Some.ensures.first in
    rw c.in-Some.is (omega (arith, h, f.on (omega (arith, h))))

pub loop-next-preserved : goal.loop-next-preserved
loop-next-preserved c =
    let a = c.args in
    let t = nodes_in a.shown.now in
    let h = rw c.in-Some.is at c.loop-next.invariant in
    let f = c.child_from-next-in-Some.ensures in
    (f.inside, passed_on (carries a.room.now t) t _ c.in-Some.j (children t (at a.i)) h.1 _ h.0 (sym c.is_labelled.ensures ∙ c.if-is_labelled.false) f.first)

pub returns-clause-first : goal.returns-clause-first
unfolding labelled
returns-clause-first c =
    let a = c.args in
    let t = nodes_in a.shown.now in
    let h = rw c.in_default.is at c.loop-next.invariant in
    none_that (carries a.room.now t) t _ _ (children t (at a.i)) h.1 (omega arith)
