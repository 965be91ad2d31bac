-- Before record i the shown nodes up to j have come: the slots say what the nodes above say, and the marks of the records before i are written.
use mathlib.Core.Bool.{false}
use Rattle.views.proofs.DonePassLaws.{Marking}
use Rattle.views.proofs.done.mark_by_rights.Given as goal

abbrev pub invariant-loop-i : goal.invariant-loop-i
invariant-loop-i l = Marking l.change (λ _. false) l.table l.rights l.shown l.marks l.initial.done l.i-end l.done l.chosen l.granting l.j l.i
