use mathlib.Core.Path.{sym}
use native.Mathlib.Omega.{arith}
use Rattle.rights.proofs.MatcherLaws.{stands, stands_not, within}
use Rattle.rights.proofs.PathLaws.{no_step, step_on, step_end}
use Rattle.lines.proofs.StoredPaths.{look_first, look-step, look_open, look_on, look_done}
use Rattle.lines.proofs.policy_edit.has_bracket.Goals as goal

pub loop-at-init : goal.loop-at-init
loop-at-init c = look_first c.args.s.now c.requires

pub returns-in_default : goal.returns-in_default
returns-in_default c =
    let s = c.args.s.now in
    let l = c.loop-at in
    look-step s l.at l.invariant (no_step s l.at c.read_step.result c.read_step.ensures c.in_default.is)

pub returns-then-byte_is : goal.returns-then-byte_is
returns-then-byte_is c =
    let s = c.args.s.now in
    let l = c.loop-at in
    let read = c.read_step in
    let e = c.in-Some.step.end in
    sym (look_open s l.at l.invariant read.result read.ensures _ _ e c.in-Some.is (stands s e 91 c.byte_is.result c.byte_is.ensures c.if-byte_is.true))

pub returns-then-not-byte_is : goal.returns-then-not-byte_is
returns-then-not-byte_is c =
    let s = c.args.s.now in
    let l = c.loop-at in
    let read = c.read_step in
    let e = c.in-Some.step.end in
    let o = stands_not s e 91 c.byte_is.result c.byte_is.ensures c.if-byte_is.false in
    sym (look_done s l.at l.invariant read.result read.ensures _ _ e c.in-Some.is o (stands_not s e 47 c.byte_is-in-loop-at.result c.byte_is-in-loop-at.ensures c.if-not-byte_is.true))

pub overflow_add-at : goal.overflow_add-at
overflow_add-at c =
    let s = c.args.s.now in
    let l = c.loop-at in
    let read = c.read_step in
    let e = c.in-Some.step.end in
    let w = within s e 47 (omega arith) (stands s e 47 c.byte_is-in-loop-at.result c.byte_is-in-loop-at.ensures c.if-not-byte_is.false) in
    omega (arith, w)

pub loop-at-smaller : goal.loop-at-smaller
loop-at-smaller c =
    let s = c.args.s.now in
    let l = c.loop-at in
    let read = c.read_step in
    let e = c.in-Some.step.end in
    let on = step_on s l.at read.result read.ensures _ _ e c.in-Some.is in
    omega (arith, on.0, on.1, on.2, c.loop-at-test.true)

pub loop-at-preserved : goal.loop-at-preserved
loop-at-preserved c =
    let s = c.args.s.now in
    let l = c.loop-at in
    let read = c.read_step in
    let e = c.in-Some.step.end in
    let o = stands_not s e 91 c.byte_is.result c.byte_is.ensures c.if-byte_is.false in
    look_on s l.at l.invariant read.result read.ensures _ _ e c.in-Some.is o (stands s e 47 c.byte_is-in-loop-at.result c.byte_is-in-loop-at.ensures c.if-not-byte_is.false)

pub returns : goal.returns
returns c =
    let s = c.args.s.now in
    let l = c.loop-at in
    look-step s l.at l.invariant (step_end s l.at (omega (arith, c.loop-at-test.false)))
