use Rattle.std.proofs.Common.{rules, tests}
use Rattle.std.proofs.lemmas.Iterator.{YieldsList-from_range}
use Rattle.std.proofs.lemmas.Iterator.Search.{any_from_yields_List}
use mathlib.Core.Path.{refl, ◌∙◌}
use native.Mathlib.Omega.{arith}
use Rattle.rights.specs.Labels.{same_label}
use Rattle.rights.specs.PolicyBytes.{subject_count, name_at}
use Rattle.rights.proofs.PolicyWords.{names_any}
use Rattle.rights.proofs.policy.is_some_name.Goals as goal

pub returns : goal.returns
returns c =
    let a = c.args in
    let p = a.policy.now in
    any_from_yields_List (λ u. same_label a.label.now (name_at p u)) _ _ _ c.any.ensures.ran (YieldsList-from_range 0 _ (subject_count p) refl (omega (arith, c.from-count.ensures))) (λ x b q k. search (rules, tests))
    ∙ names_any p (same_label a.label.now) (subject_count p)
