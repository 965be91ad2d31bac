use Rattle.std.proofs.Common.{arith}
use Rattle.std.proofs.lemmas.Grind.{common_steps}
use Rattle.rights.specs.PolicyCheck.{sign_ok}
use Rattle.rights.proofs.policy_check.sign_ok.Goals as goal

pub returns-then-is_sign : goal.returns-then-is_sign
unfolding sign_ok
returns-then-is_sign c = grind (arith, common_steps)

pub returns-else-is_sign : goal.returns-else-is_sign
unfolding sign_ok
returns-else-is_sign c = grind (arith, common_steps)
