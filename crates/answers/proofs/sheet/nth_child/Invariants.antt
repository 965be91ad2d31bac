-- After the children passed over comes node j with its later siblings.
use Prim.Native.Nat.{◌<◌}
use mathlib.Core.Path.{◌≡◌}
use lib.ListN.{length, drop}
use Rattle.rights.specs.XPath.{at, children}
use Rattle.rights.specs.How.Seen.{nodes_in}
use Rattle.answers.specs.How.SheetParts.{onward}
use Rattle.answers.proofs.sheet.nth_child.Given as goal

abbrev pub invariant-loop-passed : goal.invariant-loop-passed
invariant-loop-passed l = (l.j < length (nodes_in l.shown)) × (drop l._passed (children (nodes_in l.shown) (at l.i)) ≡ onward (nodes_in l.shown) l.l l.j)
