use Prim.Native.Nat.{◌+◌}
use mathlib.Core.Path.{◌≡◌, ◌∙◌}
use native.Mathlib.Omega.{arith}
use Rattle.rights.specs.XPath.{at, children}
use Rattle.rights.specs.How.Seen.{nodes_in}
use Rattle.rights.proofs.PassLaws.{view-length}
use Rattle.answers.proofs.SheetParts.{children-none, children_from, child_next, child_reached, child_missed}
use Rattle.answers.proofs.sheet.nth_child.Goals as goal

pub returns-then-len-i-clause-nth : goal.returns-then-len-i-clause-nth
returns-then-len-i-clause-nth c =
    let t = nodes_in c.args.shown.now in
    let n = view-length c.args.shown.now.table.now c.args.shown.now.numbers.now in
    rw (children-none t c.args.i (omega arith))

pub returns-in_err-j-clause-nth : goal.returns-in_err-j-clause-nth
returns-in_err-j-clause-nth c =
    let a = c.args in
    let t = nodes_in a.shown.now in
    rw c.from_residual.ensures (child_missed t _ (children t (at a.i)) 0 a.k (children_from t a.i _ (omega (arith, c.level-l.ensures.0)) ∙ c.in_err-j.ensures.first.is) (omega arith))

pub loop-passed-init : goal.loop-passed-init
loop-passed-init c =
    let a = c.args in
    let t = nodes_in a.shown.now in
    (c.in_ok-j.ensures.inside, children_from t a.i _ (omega (arith, c.level-l.ensures.0)) ∙ c.in_ok-j.ensures.first.is)

pub overflow_add-j : goal.overflow_add-j
overflow_add-j c =
    let n = view-length c.args.shown.now.table.now c.args.shown.now.numbers.now in
    omega (arith, c.args.shown.now.fits.few)

pub returns-in_err-j-2-clause-nth : goal.returns-in_err-j-2-clause-nth
returns-in_err-j-2-clause-nth c =
    let a = c.args in
    let t = nodes_in a.shown.now in
    let l = c.loop-passed in
    rw c.from_residual-in_err-j-2.ensures
    (child_missed t _ (children t (at a.i)) (l._passed + 1) a.k (child_next t _ l.j (children t (at a.i)) l._passed _ l.invariant.1 c.in_err-j-2.ensures.first) (omega arith))

pub loop-passed-preserved : goal.loop-passed-preserved
loop-passed-preserved c =
    let a = c.args in
    let t = nodes_in a.shown.now in
    let l = c.loop-passed in
    let f = c.in_ok-j-2.ensures in
    (f.inside, child_next t _ l.j (children t (at a.i)) l._passed _ l.invariant.1 f.first)

pub returns-clause-nth : goal.returns-clause-nth
returns-clause-nth c =
    let a = c.args in
    let t = nodes_in a.shown.now in
    let l = c.loop-passed in
    let e : l._passed ≡ a.k = omega arith in
    child_reached t _ l.j (children t (at a.i)) a.k (rw e at l.invariant.1) (omega arith)
