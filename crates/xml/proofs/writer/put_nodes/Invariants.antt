-- The records of the nodes so far are put, and the nodes from the place on are the rest.
use Prim.Native.Nat.{◌-◌}
use lib.ListN.{length}
use Rattle.xml.proofs.WriterLaws.{Written}
use Rattle.xml.proofs.writer.put_nodes.Given as goal

abbrev pub invariant-loop-q : goal.invariant-loop-q
invariant-loop-q l = Written l.xml l.initial.table l.table l.p

abbrev pub decreases-loop-q : goal.decreases-loop-q
decreases-loop-q l = length l.xml - l.p.at
