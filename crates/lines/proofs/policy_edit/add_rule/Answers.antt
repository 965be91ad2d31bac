-- The steps are put, then the head before them, then the count is raised.
use native.Mathlib.Omega.{arith}
use Rattle.lines.specs.PolicyEdit.{steps_in}
use Rattle.lines.proofs.EditBytes.{rule_written}
use Rattle.rights.proofs.SoundLaws.{policy_sound}
use Rattle.lines.proofs.StoredPaths.{written}
use Rattle.lines.proofs.policy_edit.add_rule.Goals as goal

pub bounds-policy-2 : goal.bounds-policy-2
bounds-policy-2 c =
    omega (arith, (policy_sound c.args.policy.now c.requires.0).size)

pub put_steps-n-requires : goal.put_steps-n-requires
put_steps-n-requires c =
    let g = policy_sound c.args.policy.now c.requires.0 in
    (c.requires.3, omega (arith, g.size, c.from.ensures, c.requires.1))

pub overflow_cast-who : goal.overflow_cast-who
overflow_cast-who c =
    omega (arith, (policy_sound c.args.policy.now c.requires.0).subjects, c.requires.2)

pub overflow_cast-n : goal.overflow_cast-n
overflow_cast-n c =
    omega (arith, c.put_steps-n.ensures.0, (written c.args.path.now c.requires.3).few)

pub put_head-requires : goal.put_head-requires
put_head-requires c =
    let g = policy_sound c.args.policy.now c.requires.0 in
    omega (arith, g.size, c.from.ensures, c.requires.1)

pub bounds-policy-2-2 : goal.bounds-policy-2-2
bounds-policy-2-2 c =
    omega (arith, (policy_sound c.args.policy.now c.requires.0).size)

pub returns : goal.returns
returns c =
    let a = c.args in
    let g = policy_sound c.args.policy.now c.requires.0 in
    let w = c.from in
    let t = c.put_steps-n in
    let h = c.put_head in
    rule_written a.policy.now t.new.policy h.new.policy a.accept a.bit a.who w.result t.result (steps_in a.path.now) w.ensures t.ensures.0 (omega (arith, g.size, w.ensures, c.requires.1)) t.ensures.1 h.ensures
