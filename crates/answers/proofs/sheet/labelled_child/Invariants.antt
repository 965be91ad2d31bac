-- Of the children those that carry the label are those among the next one and its later siblings.
use Prim.Native.Nat.{◌-◌}
use mathlib.Core.Path.{◌≡◌}
use lib.ListN.{length}
use Rattle.rights.specs.XPath.{at, children, filter}
use Rattle.rights.specs.How.Seen.{nodes_in}
use Rattle.answers.specs.Sheet.{carries}
use Rattle.answers.specs.How.SheetParts.{onward, place, Inside}
use Rattle.answers.proofs.sheet.labelled_child.Given as goal

abbrev pub invariant-loop-next : goal.invariant-loop-next
invariant-loop-next l = Inside (nodes_in l.shown) l.next
    × (filter (carries l.room (nodes_in l.shown)) (children (nodes_in l.shown) (at l.i))
    ≡ filter (carries l.room (nodes_in l.shown)) (onward (nodes_in l.shown) l.l (place (nodes_in l.shown) l.next)))

abbrev pub decreases-loop-next : goal.decreases-loop-next
decreases-loop-next l = length (nodes_in l.shown) - place (nodes_in l.shown) l.next
