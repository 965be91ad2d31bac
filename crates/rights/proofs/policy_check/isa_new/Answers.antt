use Rattle.std.proofs.Common.{ℕ, not, rules}
use Rattle.rights.specs.PolicyCheck.{same_isa}
use Rattle.rights.proofs.EveryLaws.{every-told}
use Rattle.rights.proofs.policy_check.isa_new.Goals as goal

pub returns : goal.returns
returns c =
    every-told (λ (j : ℕ). not (same_isa c.args.policy.now j c.args.k)) c.args.k _ c.all.ensures.ran (λ x b q k. search rules)
