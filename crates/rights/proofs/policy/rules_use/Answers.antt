use Rattle.std.proofs.Common.{rules, tests}
use Rattle.std.proofs.lemmas.Iterator.{YieldsList-from_range}
use Rattle.std.proofs.lemmas.Iterator.Search.{any_from_yields_List}
use mathlib.Core.Path.{refl, ◌∙◌}
use native.Mathlib.Omega.{arith}
use Rattle.rights.specs.Policy.{Rule, some, uses}
use Rattle.rights.specs.PolicyBytes.{rule_count, stored_path}
use Rattle.rights.proofs.PolicyWords.{rules_any}
use Rattle.rights.proofs.policy.rules_use.Goals as goal

pub returns : goal.returns
returns c =
    let a = c.args in
    let p = a.policy.now in
    any_from_yields_List (λ k. some (uses a.own a.label.now) (stored_path p k)) _ _ _ c.any.ensures.ran (YieldsList-from_range 0 _ (rule_count p) refl (omega (arith, c.from-count.ensures))) (λ x b q k. search (rules, tests))
    ∙ rules_any p (λ (r : Rule). some (uses a.own a.label.now) r.path) (rule_count p)
