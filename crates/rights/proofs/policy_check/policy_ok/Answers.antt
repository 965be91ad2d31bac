use Rattle.std.proofs.Common.{arith}
use Rattle.std.proofs.lemmas.Grind.{common_steps}
use Rattle.rights.specs.PolicyCheck.{policy_ok}
use Rattle.rights.proofs.policy_check.policy_ok.Goals as goal

pub returns-then-policy-ne-POLICY_BYTES : goal.returns-then-policy-ne-POLICY_BYTES
unfolding policy_ok
returns-then-policy-ne-POLICY_BYTES c = grind (arith, common_steps)

pub returns-then-isas_ok : goal.returns-then-isas_ok
unfolding policy_ok
returns-then-isas_ok c = grind (arith, common_steps)

pub returns-else-isas_ok : goal.returns-else-isas_ok
unfolding policy_ok
returns-else-isas_ok c = grind (arith, common_steps)
