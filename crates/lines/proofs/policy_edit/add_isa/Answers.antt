-- Two stores at the line's place, then the count is raised.
use native.Mathlib.Omega.{arith}
use lib.ListN.{length-set}
use Rattle.lines.proofs.EditBytes.{isa_written}
use Rattle.rights.proofs.SoundLaws.{policy_sound}
use Rattle.lines.proofs.policy_edit.add_isa.Goals as goal

pub bounds-policy-1 : goal.bounds-policy-1
bounds-policy-1 c = omega (arith, (policy_sound c.args.policy.now c.requires.0).size)

pub overflow_cast-policy : goal.overflow_cast-policy
overflow_cast-policy c =
    let g = policy_sound c.args.policy.now c.requires.0 in
    omega (arith, g.subjects)

pub bounds-policy-a : goal.bounds-policy-a
bounds-policy-a c =
    let g = policy_sound c.args.policy.now c.requires.0 in
    omega (arith, g.size, c.from.ensures)

pub overflow_cast-policy-2 : goal.overflow_cast-policy-2
overflow_cast-policy-2 c =
    let g = policy_sound c.args.policy.now c.requires.0 in
    omega (arith, g.subjects)

pub bounds-policy-a-2 : goal.bounds-policy-a-2
bounds-policy-a-2 c =
    let g = policy_sound c.args.policy.now c.requires.0 in
    simp length-set (omega (arith, g.size, c.from.ensures))

pub bounds-policy-1-2 : goal.bounds-policy-1-2
bounds-policy-1-2 c =
    let g = policy_sound c.args.policy.now c.requires.0 in
    simp length-set (omega (arith, g.size))

pub returns : goal.returns
returns c =
    let g = policy_sound c.args.policy.now c.requires.0 in
    let a = c.args in
    isa_written a.policy.now a.n a.r c.from.result c.from.ensures (omega (arith, g.size, c.from.ensures))
