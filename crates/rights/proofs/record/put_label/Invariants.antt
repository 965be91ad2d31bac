-- After k turns the length and the first k of the 24 padded bytes are put.
use Prim.Native.Nat.{◌+◌}
use mathlib.Core.Path.{◌≡◌}
use lib.Seq.{paste}
use Rattle.rights.specs.Record.{padded}
use Rattle.rights.proofs.record.put_label.Given as goal

abbrev pub invariant-loop-k : goal.invariant-loop-k
invariant-loop-k l = l.out ≡ paste l.initial.out (l.at + 2) (padded l.label) l.k
