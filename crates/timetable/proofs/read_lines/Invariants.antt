-- The areas hold the run after what was read, and all that it hands over is written; the bytes that may still be read fall with every chunk.
use Prim.Native.Nat.{◌≤◌}
use mathlib.Core.Path.{◌≡◌}
use lib.ListN.{length}
use Rattle.timetable.specs.How.Run.{run_in, start}
use Rattle.timetable.proofs.ByteLaws.{ReadSoFar}
use Rattle.timetable.proofs.StreamLaws.{BytesSoFar}
use Rattle.timetable.proofs.read_lines.Given as goal

abbrev pub invariant-loop-left : goal.invariant-loop-left
invariant-loop-left g l = (l.used ≤ 1025) × (length l.state ≡ length l.initial.state) × (length l.table ≡ length l.initial.table) × (length l.buffer ≡ length l.initial.buffer) × (length l.out ≡ length l.initial.out) × (length l.chunk ≡ length l.initial.chunk)
    × ReadSoFar start (run_in l.state l.table l.buffer l.used l.out 0) l.left
    × BytesSoFar (run_in l.state l.table l.buffer l.used l.out 0) (g.R.Read.remaining l.initial.input) (g.R.Read.remaining l.input)
    (g.W.Write.contents l.initial.output) (g.W.Write.contents l.output) l.left

abbrev pub decreases-loop-left : goal.decreases-loop-left
decreases-loop-left g l = l.left
