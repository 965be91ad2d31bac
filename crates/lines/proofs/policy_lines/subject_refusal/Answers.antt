use native.Mathlib.Omega.{arith}
use Rattle.rights.proofs.SoundLaws.{policy_sound}
use Rattle.lines.proofs.policy_lines.subject_refusal.Goals as goal

pub bounds-policy-0 : goal.bounds-policy-0
bounds-policy-0 c = omega (arith, (policy_sound c.args.policy.now c.requires).size)
