use Rattle.std.proofs.Common.{arith}
use Rattle.std.proofs.lemmas.Grind.{common_steps}
use Rattle.rights.specs.PolicyCheck.{isa_ok}
use Rattle.rights.proofs.policy_check.isa_ok.Goals as goal

pub returns-then-policy-a-2 : goal.returns-then-policy-a-2
unfolding isa_ok
returns-then-policy-a-2 c = grind (arith, common_steps)

pub returns-else-policy-a-2 : goal.returns-else-policy-a-2
unfolding isa_ok
returns-else-policy-a-2 c = grind (arith, common_steps)
