use Prim.Native.Nat.{◌+◌, ◌≤◌}
use mathlib.Core.Path.{◌≡◌}
use native.Mathlib.Omega.{arith}
use borrow.Author.Rules.{rules}
use Rattle.std.proofs.KnownBytes.{Appends-nil}
use Rattle.timetable.proofs.StreamLaws.{writes_all, write_more, write_short}
use Rattle.timetable.proofs.write_held.Goals as goal

pub loop-done-init : goal.loop-done-init
loop-done-init g c = (search rules, Appends-nil _)

pub loop-done-preserved : goal.loop-done-preserved
loop-done-preserved g c =
    let x = c.loop-done in let a = c.args in
    let more : x.done + c.unwrap_or-took.result ≤ a.held = search rules in
    (more, write_more a.out.now x.done a.held x.invariant.0 _ _ _ c.write.result _ c.unwrap_or-took.ensures x.invariant.1 c.write.ensures.bytes more)

pub returns-then-took-eq0 : goal.returns-then-took-eq0
returns-then-took-eq0 g c =
    let x = c.loop-done in let a = c.args in
    write_short a.out.now x.done a.held x.invariant.0 _ _ _ c.write.result _ c.unwrap_or-took.ensures x.invariant.1 c.write.ensures.bytes c.if-took-eq0.true

pub returns : goal.returns
returns g c =
    let x = c.loop-done in
    let e : x.done ≡ c.args.held = omega (arith, x.invariant.0, c.loop-done-test.false) in
    writes_all _ _ _ _ (rw e at x.invariant.1)
