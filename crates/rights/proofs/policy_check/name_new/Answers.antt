use Rattle.std.proofs.Common.{ℕ, not, rules}
use Rattle.rights.specs.Labels.{same_label}
use Rattle.rights.specs.PolicyBytes.{name_at}
use Rattle.rights.proofs.EveryLaws.{every-told}
use Rattle.rights.proofs.policy_check.name_new.Goals as goal

pub returns : goal.returns
returns c =
    let p = c.args.policy.now in
    every-told (λ (j : ℕ). not (same_label (name_at p j) (name_at p c.args.k))) c.args.k _ c.all.ensures.ran (λ x b q k. search rules)
