use native.Mathlib.Omega.{arith}
use Rattle.rights.proofs.SoundLaws.{policy_sound}
use Rattle.lines.proofs.policy_lines.isa_subjects.Goals as goal

pub bounds-policy-1 : goal.bounds-policy-1
bounds-policy-1 c = omega (arith, (policy_sound c.args.policy.now c.requires).size)
