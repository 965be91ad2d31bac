-- The siblings from place i on are those from place j on.
use mathlib.Core.Path.{◌≡◌}
use Rattle.rights.specs.How.Seen.{nodes_in}
use Rattle.answers.specs.How.SheetParts.{siblings}
use Rattle.answers.proofs.sheet.child_from.Given as goal

abbrev pub invariant-loop-j : goal.invariant-loop-j
invariant-loop-j l = siblings (nodes_in l.shown) l.l l.i ≡ siblings (nodes_in l.shown) l.l l.j
