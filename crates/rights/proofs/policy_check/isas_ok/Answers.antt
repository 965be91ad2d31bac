use Rattle.std.proofs.Common.{ℕ, ◌≡◌, ◌+◌, ◌-◌, ◌*◌, ◌≤◌, sym, ◌∙◌, rules, arith}
use borrow.Author.Tests.{leb-true}
use Rattle.rights.specs.PolicyBytes.{isa_count}
use Rattle.rights.specs.PolicyCheck.{isa_ok, isas_ok}
use Rattle.rights.proofs.EveryLaws.{every-told, part_many, part_none, part_rest}
use Rattle.rights.proofs.policy_check.isas_ok.Goals.{then-n-le-ISA_MAX, else-n-le-ISA_MAX}
use Rattle.rights.proofs.policy_check.isas_ok.Goals as goal

pub returns-then-all : goal.returns-then-all
unfolding isas_ok
returns-then-all c =
    let p = c.args.policy.now in
    let n : ℕ = isa_count p in
    let e : 2312 - (2056 + n * 2) ≡ (128 - n) * 2 = omega arith in
    elim c.if-n-le-ISA_MAX.branch [
      | then-n-le-ISA_MAX w ↦
          let each = every-told (isa_ok p) c.from-n.result w.all.result w.all.ensures.ran (λ x b q k. search rules) in
          rw (c.from-n.ensures, e) at c.all_zero.ensures
          ∙ sym (part_rest (isa_ok p) n 128 _ c.from-n.result c.from-n.ensures (omega arith) (sym each ∙ sym w.value-is ∙ c.if-all.true))
      | else-n-le-ISA_MAX w ↦ absurd (let few : c.from-n.result ≤ 128 = leb-true _ _ (sym w.value-is ∙ c.if-all.true) in omega arith)
    ]

pub returns-else-all : goal.returns-else-all
unfolding isas_ok
returns-else-all c =
    let p = c.args.policy.now in
    let n : ℕ = isa_count p in
    elim c.if-n-le-ISA_MAX.branch [
      | then-n-le-ISA_MAX w ↦
          let each = every-told (isa_ok p) c.from-n.result w.all.result w.all.ensures.ran (λ x b q k. search rules) in
          c.if-all.false ∙ sym (part_none (isa_ok p) n 128 _ (sym (rw c.from-n.ensures at each) ∙ sym w.value-is ∙ c.if-all.false))
      | else-n-le-ISA_MAX w ↦ c.if-all.false ∙ sym (part_many (isa_ok p) n 128 _ (omega arith))
    ]
