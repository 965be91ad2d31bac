use Rattle.std.proofs.Common.{arith}
use Rattle.std.proofs.lemmas.Grind.{common_steps}
use Rattle.rights.specs.PolicyCheck.{bit_ok}
use Rattle.rights.proofs.policy_check.bit_ok.Goals as goal

pub returns-in_default : goal.returns-in_default
unfolding bit_ok
returns-in_default c = grind (arith, common_steps)

pub returns-in_default-2 : goal.returns-in_default-2
unfolding bit_ok
returns-in_default-2 c = grind (arith, common_steps)

pub returns-in-1 : goal.returns-in-1
unfolding bit_ok
returns-in-1 c = grind (arith, common_steps)

pub returns-in-1-2 : goal.returns-in-1-2
unfolding bit_ok
returns-in-1-2 c = grind (arith, common_steps)
