-- What is told from the place on is what is told in the end.
use Prim.Native.Nat.{◌-◌}
use mathlib.Core.Path.{◌≡◌}
use lib.ListN.{length}
use Rattle.xml.specs.How.Scan.{Ready}
use Rattle.xml.proofs.ScanLaws.{Passing}
use Rattle.xml.proofs.document.scan_rest.Given as goal

abbrev pub invariant-loop-q : goal.invariant-loop-q
invariant-loop-q l = Ready l.xml l.places l.p × (length l.places ≡ length l.initial.places) × Passing l.xml l.low l.initial.places l.initial.p l.places l.p

abbrev pub decreases-loop-q : goal.decreases-loop-q
decreases-loop-q l = length l.xml - l.p.at
