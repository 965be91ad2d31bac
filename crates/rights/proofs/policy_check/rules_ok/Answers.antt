use Rattle.std.proofs.Common.{ℕ, ◌≡◌, ◌+◌, ◌-◌, ◌*◌, ◌≤◌, sym, ◌∙◌, rules, arith}
use borrow.Author.Tests.{leb-true}
use Rattle.rights.specs.PolicyBytes.{rule_count}
use Rattle.rights.specs.PolicyCheck.{rule_ok, rules_ok}
use Rattle.rights.proofs.EveryLaws.{every-told, part_many, part_none, part_rest}
use Rattle.rights.proofs.policy_check.rules_ok.Goals.{then-n-le-RULES_MAX, else-n-le-RULES_MAX}
use Rattle.rights.proofs.policy_check.rules_ok.Goals as goal

pub returns-then-all : goal.returns-then-all
unfolding rules_ok
returns-then-all c =
    let p = c.args.policy.now in
    let n : ℕ = rule_count p in
    let e : 68872 - (2312 + n * 520) ≡ (128 - n) * 520 = omega arith in
    elim c.if-n-le-RULES_MAX.branch [
      | then-n-le-RULES_MAX w ↦
          let each = every-told (rule_ok p) c.from-n.result w.all.result w.all.ensures.ran (λ x b q k. search rules) in
          rw (c.from-n.ensures, e) at c.all_zero.ensures
          ∙ sym (part_rest (rule_ok p) n 128 _ c.from-n.result c.from-n.ensures (omega arith) (sym each ∙ sym w.value-is ∙ c.if-all.true))
      | else-n-le-RULES_MAX w ↦ absurd (let few : c.from-n.result ≤ 128 = leb-true _ _ (sym w.value-is ∙ c.if-all.true) in omega arith)
    ]

pub returns-else-all : goal.returns-else-all
unfolding rules_ok
returns-else-all c =
    let p = c.args.policy.now in
    let n : ℕ = rule_count p in
    elim c.if-n-le-RULES_MAX.branch [
      | then-n-le-RULES_MAX w ↦
          let each = every-told (rule_ok p) c.from-n.result w.all.result w.all.ensures.ran (λ x b q k. search rules) in
          c.if-all.false ∙ sym (part_none (rule_ok p) n 128 _ (sym (rw c.from-n.ensures at each) ∙ sym w.value-is ∙ c.if-all.false))
      | else-n-le-RULES_MAX w ↦ c.if-all.false ∙ sym (part_many (rule_ok p) n 128 _ (omega arith))
    ]
