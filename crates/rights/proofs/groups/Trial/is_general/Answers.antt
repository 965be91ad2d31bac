use Prim.Native.Nat.{◌+◌, ◌*◌}
use mathlib.Core.Bool.{false≢true}
use mathlib.Core.Path.{◌≡◌, sym, ◌∙◌, subst}
use native.Mathlib.Omega.{arith}
use borrow.Author.Tests.{eqb-true}
use Rattle.rights.specs.PolicyBytes.{steps_at, step_count}
use Rattle.rights.specs.How.Places.{Text}
use Rattle.rights.specs.How.Trial.{policy_in}
use Rattle.rights.proofs.TextLaws.{text_first}
use Rattle.rights.proofs.GroupLaws.{general_path}
use Rattle.rights.proofs.groups.Trial.is_general.Goals.{then-policy-a-eq1 as one-step, else-policy-a-eq1 as other-count, then-is_deep, else-is_deep}
use Rattle.rights.proofs.groups.Trial.is_general.Goals as goal

pub returns-then-policy-b-eq42 : goal.returns-then-policy-b-eq42
returns-then-policy-b-eq42 c =
    let t = c.args.self.now in
    let k = c.args.k in
    let p = policy_in t in
    elim c.if-is_deep.branch [
      | then-is_deep v ↦ elim c.if-policy-a-eq1.branch [
        | one-step w ↦ (λ e. let one : step_count p k ≡ 1 = w.if-policy-a-eq1.true in
            let z : steps_at k + 0 * 32 ≡ steps_at k = omega arith in
            let text = subst (Text p) z ((t.ready.sound.paths k c.requires).texts 0 (omega (arith, one))) in
            let deep = sym w.is_deep.ensures ∙ sym w.value-is ∙ v.if-is_deep.true in
            let star = sym v.value-is ∙ c.if-policy-b-eq42.true in
            record { on = sym c.counts.ensures ∙ e; all = general_path p t.own.now k one deep (text_first p (steps_at k) text ∙ eqb-true _ _ star) })
        | other-count w ↦ absurd (w.if-policy-a-eq1.false (eqb-true _ _ (sym w.value-is ∙ v.if-is_deep.true)))
      ]
      | else-is_deep v ↦ absurd (false≢true (sym v.if-is_deep.false ∙ sym v.value-is ∙ c.if-policy-b-eq42.true))
    ]
