-- `$` stands for all that the subject is, which its roles say.
use Rattle.rights.specs.Isa.{is, stands_for}
use Rattle.rights.specs.PolicyBytes.{policy_of}
use Rattle.rights.proofs.RolesLaws.{role_test}
use Rattle.rights.proofs.isa.stands_for.Goals as goal

pub returns : goal.returns
unfolding stands_for
returns c = let a = c.args in λ p roles. role_test (is (policy_of p) a.u a.k) _ (roles.at a.k c.requires)
