use mathlib.Core.Path.{refl, ◌∙◌, ap}
use native.Mathlib.Numerals.{add-one}
use Rattle.rights.specs.How.Roles.{lined, lines_given}
use Rattle.rights.proofs.isa.add_roles.Goals as goal

pub loop-j-init : goal.loop-j-init
unfolding lines_given
loop-j-init c = refl

pub loop-j-preserved : goal.loop-j-preserved
unfolding lines_given
loop-j-preserved c =
    let a = c.args in rw add-one (c.add_role.ensures ∙ ap (lined a.policy.now a.k c.loop-j.j) c.loop-j.invariant)
