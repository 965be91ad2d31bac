use mathlib.Core.Path.{sym}
use native.Mathlib.Omega.{arith}
use Rattle.rights.specs.PolicyBytes.{steps_at, step_count}
use Rattle.rights.specs.How.Trial.{policy_in, mine_in, rules_in}
use Rattle.rights.proofs.StateMaskLaws.{length-steps}
use Rattle.rights.proofs.GroupLaws.{size_more, size_none, some_rule}
use Rattle.rights.proofs.groups.Trial.group_end.Goals as goal

pub loop-k-init : goal.loop-k-init
loop-k-init c =
    let a = c.args in
    (sym (size_none (rules_in a.self.now a.right) a.from a.from (omega arith)), omega arith)

pub returns-then-used-gt63 : goal.returns-then-used-gt63
returns-then-used-gt63 c =
    let a = c.args in
    let l = c.loop-k in
    (some_rule (rules_in a.self.now a.right) a.from l.k l.used l.invariant.0 (omega (arith, c.size_of-used.ensures.1)), omega arith, omega (arith, l.invariant.0))

pub loop-k-preserved : goal.loop-k-preserved
loop-k-preserved c =
    let a = c.args in
    let l = c.loop-k in
    let p = policy_in a.self.now in
    (omega (arith, l.invariant.0, c.size_of-used.ensures.0, size_more (rules_in a.self.now a.right) a.from l.k (step_count p l.k) l.auto.k (length-steps (mine_in a.self.now) p (steps_at l.k) (step_count p l.k) 0)), omega arith)
