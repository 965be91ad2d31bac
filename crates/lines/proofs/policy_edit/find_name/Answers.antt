use mathlib.Core.Path.{sym, ◌∙◌}
use Prim.Native.Nat.{◌<◌}
use native.Mathlib.Omega.{arith}
use Rattle.rights.specs.PolicyBytes.{subject_count}
use Rattle.lines.proofs.EditTests.{find_first, find_here, find_later, find_none}
use Rattle.rights.proofs.SoundLaws.{policy_sound}
use Rattle.lines.proofs.policy_edit.find_name.Goals as goal

pub bounds-policy-0 : goal.bounds-policy-0
bounds-policy-0 c = omega (arith, (policy_sound c.args.policy.now c.requires).size)

pub loop-u-init : goal.loop-u-init
loop-u-init c = find_first c.args.policy.now c.args.name.now

pub is_name-requires : goal.is_name-requires
is_name-requires c =
    let p = c.args.policy.now in
    let h : c.loop-u.u < subject_count p = omega (arith, c.from-u-end.ensures) in
    record { declared = h; name = (policy_sound p c.requires).names c.loop-u.u h }

pub returns-then-is_name : goal.returns-then-is_name
returns-then-is_name c =
    let a = c.args in
    let l = c.loop-u in
    sym (l.invariant ∙ find_here a.policy.now a.name.now (subject_count a.policy.now) l.u (omega (arith, c.from-u-end.ensures)) (sym c.is_name.ensures ∙ c.if-is_name.true))

pub loop-u-preserved : goal.loop-u-preserved
loop-u-preserved c =
    let a = c.args in
    let l = c.loop-u in
    l.invariant ∙ find_later a.policy.now a.name.now (subject_count a.policy.now) l.u (omega (arith, c.from-u-end.ensures)) (sym c.is_name.ensures ∙ c.if-is_name.false)

pub returns : goal.returns
returns c =
    let a = c.args in
    sym (c.loop-u.invariant ∙ find_none a.policy.now a.name.now (subject_count a.policy.now) _ (omega (arith, c.from-u-end.ensures)))
