use Rattle.std.proofs.Common.{arith}
use Rattle.std.proofs.lemmas.Grind.{common_steps}
use Rattle.rights.specs.PolicyCheck.{step_ok}
use Rattle.rights.proofs.policy_check.step_ok.Goals as goal

pub returns-then-sign_ok : goal.returns-then-sign_ok
unfolding step_ok
returns-then-sign_ok c = grind (arith, common_steps)

pub returns-else-sign_ok : goal.returns-else-sign_ok
unfolding step_ok
returns-else-sign_ok c = grind (arith, common_steps)
