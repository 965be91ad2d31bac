use Prim.Native.Nat.{◌+◌}
use mathlib.Core.Path.{sym, ◌∙◌}
use native.Mathlib.Omega.{arith}
use Rattle.rights.proofs.PathLaws.{step_on}
use Rattle.lines.proofs.StoredPaths.{seek_first, seek_none, seek_found, seek_more, seek_end}
use Rattle.lines.proofs.policy_edit.path_restricted.Goals as goal

pub loop-i-init : goal.loop-i-init
loop-i-init c = (omega arith, seek_first c.args.s.now c.requires)

pub returns-in_default : goal.returns-in_default
returns-in_default c =
    let l = c.loop-i in
    let read = c.read_step in
    seek_none c.args.s.now l.i l.invariant.1 c.loop-i-test.true read.result read.ensures c.in_default.is

pub slice_bounds-is_restricted-start : goal.slice_bounds-is_restricted-start
slice_bounds-is_restricted-start c =
    let s = c.args.s.now in
    let l = c.loop-i in
    let t = c.loop-i-test.true in
    let read = c.read_step in
    let k = c.in-Some.step.at in
    let e = c.in-Some.step.end in
    let on = step_on s (l.i + 1) read.result read.ensures c.in-Some.step.axis k e c.in-Some.is in
    omega (arith, on.1)

pub slice_bounds-is_restricted-end : goal.slice_bounds-is_restricted-end
slice_bounds-is_restricted-end c =
    let s = c.args.s.now in
    let l = c.loop-i in
    let t = c.loop-i-test.true in
    let read = c.read_step in
    let k = c.in-Some.step.at in
    let e = c.in-Some.step.end in
    let on = step_on s (l.i + 1) read.result read.ensures c.in-Some.step.axis k e c.in-Some.is in
    omega (arith, on.1, on.2)

pub returns-then-is_restricted : goal.returns-then-is_restricted
returns-then-is_restricted c =
    let s = c.args.s.now in
    let l = c.loop-i in
    let t = c.loop-i-test.true in
    let read = c.read_step in
    let k = c.in-Some.step.at in
    let e = c.in-Some.step.end in
    let on = step_on s (l.i + 1) read.result read.ensures c.in-Some.step.axis k e c.in-Some.is in
    sym (seek_found s l.i l.invariant.1 t read.result read.ensures c.in-Some.step.axis k e c.in-Some.is (sym c.is_restricted.ensures ∙ c.if-is_restricted.true))

pub loop-i-smaller : goal.loop-i-smaller
loop-i-smaller c =
    let s = c.args.s.now in
    let l = c.loop-i in
    let t = c.loop-i-test.true in
    let read = c.read_step in
    let k = c.in-Some.step.at in
    let e = c.in-Some.step.end in
    let on = step_on s (l.i + 1) read.result read.ensures c.in-Some.step.axis k e c.in-Some.is in
    omega (arith, on.0, on.1, on.2)

pub loop-i-preserved : goal.loop-i-preserved
loop-i-preserved c =
    let s = c.args.s.now in
    let l = c.loop-i in
    let t = c.loop-i-test.true in
    let read = c.read_step in
    let k = c.in-Some.step.at in
    let e = c.in-Some.step.end in
    let on = step_on s (l.i + 1) read.result read.ensures c.in-Some.step.axis k e c.in-Some.is in
    (on.2, seek_more s l.i l.invariant.1 t read.result read.ensures c.in-Some.step.axis k e c.in-Some.is (sym c.is_restricted.ensures ∙ c.if-is_restricted.false))

pub returns : goal.returns
returns c =
    sym (seek_end c.args.s.now c.loop-i.i c.loop-i.invariant.1 c.loop-i-test.false)
