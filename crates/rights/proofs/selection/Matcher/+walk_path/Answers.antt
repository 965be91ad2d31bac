use mathlib.Core.Path.{refl}
use native.Mathlib.Omega.{arith}
use native.Mathlib.Nat.{pos_of_ne-zero}
use Rattle.rights.proofs.PassLaws.{both_marked}
use Rattle.rights.proofs.MatcherLaws.{stands, stands_not}
use Rattle.rights.proofs.WalkLaws.{walk_none, walk_no_step, walk_stop, walk_last, walk_next}
use Rattle.rights.proofs.selection.Matcher.+walk_path.Goals as goal

pub returns-then-left-eq0 : goal.returns-then-left-eq0
returns-then-left-eq0 t c = walk_none _ _ _ _ _ _ _ _ _ c.if-left-eq0.true

pub returns-in_err-step : goal.returns-in_err-step
returns-in_err-step t c = rw c.from_residual.ensures (walk_no_step _ _ _ _ _ _ _ _ _ c.read_step.result c.read_step.ensures c.in_err-step.was)

pub returns-in_err-j : goal.returns-in_err-j
returns-in_err-j t c =
    let step = c.in_ok-step.step in
    rw c.from_residual-in_err-j.ensures
    (walk_stop _ _ _ _ _ _ _ _ _ c.read_step.result c.read_step.ensures step.axis step.at step.end c.in_ok-step.was _ c.match_step.result c.match_step.ensures c.in_err-j.was)

pub returns-then-not-byte_is : goal.returns-then-not-byte_is
returns-then-not-byte_is t c =
    let step = c.in_ok-step.step in
    walk_last _ _ _ _ _ _ _ _ _ c.read_step.result c.read_step.ensures step.axis step.at step.end c.in_ok-step.was _ c.match_step.result c.match_step.ensures (pos_of_ne-zero c.if-left-eq0.false)
    c.in_ok-j.j c.in_ok-j.was _ _ c.mark_reached.ensures (both_marked _ _ _ _ (omega arith) c.keep_both.ensures) refl (stands_not c.args.self.now.path.now c.in_ok-j.j 47 _ c.byte_is.ensures c.if-not-byte_is.true)

pub returns : goal.returns
returns t c =
    let step = c.in_ok-step.step in
    walk_next _ _ _ _ _ _ _ _ _ c.read_step.result c.read_step.ensures step.axis step.at step.end c.in_ok-step.was _ c.match_step.result c.match_step.ensures (pos_of_ne-zero c.if-left-eq0.false)
    c.in_ok-j.j c.in_ok-j.was _ _ c.mark_reached.ensures (both_marked _ _ _ _ (omega arith) c.keep_both.ensures) c.walk_path.result (stands c.args.self.now.path.now c.in_ok-j.j 47 _ c.byte_is.ensures c.if-not-byte_is.false) c.walk_path.ensures
