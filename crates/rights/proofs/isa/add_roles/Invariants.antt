-- The isa lines before j have given k their roles.
use mathlib.Core.Path.{◌≡◌}
use Rattle.rights.specs.How.Roles.{lines_given}
use Rattle.rights.proofs.isa.add_roles.Given as goal

abbrev pub invariant-loop-j : goal.invariant-loop-j
invariant-loop-j l = l.out ≡ lines_given l.policy l.k l.j l.initial.out
