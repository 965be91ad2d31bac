-- The first i nodes are decided: `shown` begins with the numbers of the k shown ones, and the depth is that of the shown chain.
use Rattle.views.proofs.StoredLaws.{Showing}
use Rattle.views.proofs.shown.show_first.Given as goal

abbrev pub invariant-loop-i : goal.invariant-loop-i
invariant-loop-i l = Showing l.day l.table l.rights l.initial.shown l.n l.shown l.depth l.k l.i
