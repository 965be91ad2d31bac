-- The first i nodes are marked where a path's first step goes.
use Rattle.rights.specs.How.Selection.{from_document, Marked}
use Rattle.rights.proofs.passes.mark_start.Given as goal

abbrev pub invariant-loop-i : goal.invariant-loop-i
invariant-loop-i l = Marked l.marks (from_document l.fn.axis) l.i
