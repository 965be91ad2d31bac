use Rattle.std.proofs.Common.{rules, tests, ◌+◌, ◌*◌}
use Rattle.std.proofs.lemmas.Iterator.{YieldsList-from_range}
use Rattle.std.proofs.lemmas.Iterator.Search.{any_from_yields_List}
use mathlib.Core.Path.{refl, ◌∙◌}
use native.Mathlib.Omega.{arith}
use Rattle.rights.specs.Policy.{uses}
use Rattle.rights.specs.PolicyBytes.{step_of, step_count, steps_at}
use Rattle.rights.specs.Table.{rec_at}
use Rattle.rights.proofs.PolicyWords.{steps_any}
use Rattle.rights.proofs.policy.rule_uses.Goals as goal

pub returns : goal.returns
returns c =
    let a = c.args in
    let p = a.policy.now in
    any_from_yields_List (λ j. uses a.own a.label.now (step_of (rec_at p (steps_at a.k + j * 32)))) _ _ _ c.any.ensures.ran (YieldsList-from_range 0 _ (step_count p a.k) refl (omega (arith, c.from-count.ensures))) (λ x b q k. search (rules, tests))
    ∙ steps_any p (uses a.own a.label.now) (steps_at a.k) (step_count p a.k)
