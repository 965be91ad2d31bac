use mathlib.Core.Bool.{true}
use mathlib.Core.Path.{refl, sym, ap, ◌∙◌}
use native.Mathlib.Omega.{arith}
use Rattle.rights.specs.Labels.{same_label}
use Rattle.rights.specs.Table.{rec_at}
use Rattle.rights.proofs.TextLaws.{text_first}
use Rattle.rights.proofs.PolicyWords.{uses_any, uses-own, uses_no_own, uses-label}
use Rattle.rights.proofs.policy.step_uses.Goals as goal

pub returns-in-42 : goal.returns-in-42
returns-in-42 c =
    let a = c.args in
    sym (uses_any a.label.now (rec_at a.policy.now a.step) a.own (text_first _ _ c.requires ∙ c.in-42.is))

pub returns-in-36 : goal.returns-in-36
returns-in-36 c =
    let a = c.args in
    let t = text_first _ _ c.requires ∙ c.in-36.is in
    sym (uses-own a.label.now (rec_at a.policy.now a.step) a.own (λ e. omega (arith, e, t)) t)

pub returns-then-not-own : goal.returns-then-not-own
returns-then-not-own c =
    let a = c.args in
    let t = text_first _ _ c.requires in
    c.same_label.ensures
    ∙ ap (same_label a.label.now) c.label_in.ensures
    ∙ sym (uses-label a.label.now (rec_at a.policy.now a.step) a.own (λ e. omega (arith, e, t)) (λ e. omega (arith, e, t)) c.if-not-own.true)

pub returns-else-not-own : goal.returns-else-not-own
returns-else-not-own c =
    let a = c.args in
    let t = text_first _ _ c.requires in
    rw c.if-not-own.false (sym (uses_no_own a.label.now (rec_at a.policy.now a.step) true (λ e. omega (arith, e, t)) (λ e. omega (arith, e, t)) refl))
