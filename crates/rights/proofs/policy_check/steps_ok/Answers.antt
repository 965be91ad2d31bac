use Rattle.std.proofs.Common.{ℕ, ◌+◌, ◌*◌, rules}
use Rattle.rights.specs.PolicyCheck.{step_ok}
use Rattle.rights.proofs.EveryLaws.{every-told}
use Rattle.rights.proofs.policy_check.steps_ok.Goals as goal

pub returns : goal.returns
returns c =
    every-told (λ (j : ℕ). step_ok c.args.policy.now (c.args.b + j * 32)) c.args.n _ c.all.ensures.ran (λ x b q k. search rules)
