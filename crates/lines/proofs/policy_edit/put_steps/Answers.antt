use Prim.Native.Nat.{◌+◌, ◌-◌}
use mathlib.Core.Path.{refl}
use native.Mathlib.Omega.{arith}
use lib.ListN.{drop, length-take}
use Rattle.rights.proofs.PathLaws.{step_on}
use Rattle.lines.proofs.StoredPaths.{put_first, put-none, put-asks, put_more, put_end}
use Rattle.lines.proofs.policy_edit.put_steps.Goals as goal

pub loop-i-init : goal.loop-i-init
loop-i-init c =
    let a = c.args in
    (omega arith, refl, put_first a.policy.now a.at a.path.now c.requires.0)

pub shape_of-policy-in_default : goal.shape_of-policy-in_default
shape_of-policy-in_default c = c.loop-i.invariant.1

pub returns-in_default : goal.returns-in_default
returns-in_default c =
    let a = c.args in
    let l = c.loop-i in
    let read = c.read_step in
    put-none a.policy.now a.at a.path.now l.policy l.n l.i l.invariant.2 c.requires.0 c.loop-i-test.true read.result read.ensures c.in_default.is

pub overflow_mul-n : goal.overflow_mul-n
overflow_mul-n c =
    omega (arith, c.loop-i.invariant.2.room)

pub overflow_add-at : goal.overflow_add-at
overflow_add-at c =
    omega (arith, c.loop-i.invariant.2.room, c.requires.1)

pub slice_bounds-put_name-start : goal.slice_bounds-put_name-start
slice_bounds-put_name-start c =
    let a = c.args in
    let l = c.loop-i in
    let t = c.loop-i-test.true in
    let read = c.read_step in
    let k = c.in-Some.step.at in
    let e = c.in-Some.step.end in
    let on = step_on a.path.now (l.i + 1) read.result read.ensures c.in-Some.step.axis k e c.in-Some.is in
    omega (arith, on.1)

pub put_name-requires : goal.put_name-requires
put_name-requires c =
    let a = c.args in
    let pre = c.requires in
    let l = c.loop-i in
    let t = c.loop-i-test.true in
    let read = c.read_step in
    let k = c.in-Some.step.at in
    let e = c.in-Some.step.end in
    let on = step_on a.path.now (l.i + 1) read.result read.ensures c.in-Some.step.axis k e c.in-Some.is in
    let w = put-asks a.policy.now a.at a.path.now l.policy l.n l.i l.invariant.2 pre.0 t read.result read.ensures c.in-Some.step.axis k e c.in-Some.is in
    (omega (arith, w.0, pre.1, l.invariant.1), omega (arith, w.1, length-take (e - k) (drop k a.path.now)))

pub overflow_add-n : goal.overflow_add-n
overflow_add-n c =
    omega (arith, c.loop-i.invariant.2.room)

pub loop-i-smaller : goal.loop-i-smaller
loop-i-smaller c =
    let a = c.args in
    let pre = c.requires in
    let l = c.loop-i in
    let t = c.loop-i-test.true in
    let read = c.read_step in
    let k = c.in-Some.step.at in
    let e = c.in-Some.step.end in
    let on = step_on a.path.now (l.i + 1) read.result read.ensures c.in-Some.step.axis k e c.in-Some.is in
    omega (arith, on.0, on.1, on.2)

pub loop-i-preserved : goal.loop-i-preserved
loop-i-preserved c =
    let a = c.args in
    let pre = c.requires in
    let l = c.loop-i in
    let t = c.loop-i-test.true in
    let read = c.read_step in
    let k = c.in-Some.step.at in
    let e = c.in-Some.step.end in
    let on = step_on a.path.now (l.i + 1) read.result read.ensures c.in-Some.step.axis k e c.in-Some.is in
    let r = c.put_name in
    let b = c.axis_byte-first in
    (on.2, omega (arith, l.invariant.1), put_more a.policy.now a.at a.path.now l.policy l.n l.i l.invariant.2 pre.0 t read.result read.ensures c.in-Some.step.axis k e c.in-Some.is r.new.out b.result pre.1 b.ensures r.ensures)

pub shape_of-policy : goal.shape_of-policy
shape_of-policy c = c.loop-i.invariant.1

pub returns : goal.returns
returns c =
    let a = c.args in
    let l = c.loop-i in
    put_end a.policy.now a.at a.path.now l.policy l.n l.i l.invariant.2 c.loop-i-test.false
