use Rattle.std.proofs.Common.{ℕ, ◌≡◌, ◌+◌, ◌-◌, ◌*◌, arith}
use Rattle.std.proofs.lemmas.Grind.{common_steps}
use Rattle.rights.specs.PolicyBytes.{rule_at, steps_at, step_count}
use Rattle.rights.specs.PolicyCheck.{rule_ok}
use Rattle.rights.proofs.policy_check.rule_ok.Goals as goal

pub returns-then-n-lt1 : goal.returns-then-n-lt1
unfolding rule_ok
returns-then-n-lt1 c = grind (arith, common_steps)

pub returns-then-steps_ok : goal.returns-then-steps_ok
unfolding rule_ok
returns-then-steps_ok c =
    let p = c.args.policy.now in
    let k : ℕ = c.args.k in
    let n : ℕ = step_count p k in
    let e : (rule_at k + 520) - (steps_at k + n * 32) ≡ (16 - n) * 32 = omega arith in
    grind (arith, common_steps)

pub returns-else-steps_ok : goal.returns-else-steps_ok
unfolding rule_ok
returns-else-steps_ok c = grind (arith, common_steps)
