-- After i bytes the areas hold the run after them, and what they hand over is written; every area keeps its length.
use Prim.Native.Nat.{◌≤◌}
use mathlib.Core.Path.{◌≡◌}
use lib.ListN.{length, take}
use Rattle.std.specs.Io.KnownBytes.{Appends}
use Rattle.timetable.specs.How.Run.{run_in, chunk_taken, handed}
use Rattle.timetable.proofs.take_chunk.Given as goal

abbrev pub invariant-loop-b : goal.invariant-loop-b
invariant-loop-b g l = (l.used ≤ 1025) × (l.held ≤ 65536) × (length l.state ≡ length l.initial.state) × (length l.table ≡ length l.initial.table) × (length l.buffer ≡ length l.initial.buffer) × (length l.out ≡ length l.initial.out)
    × (run_in l.state l.table l.buffer l.used l.out l.held ≡ chunk_taken (run_in l.initial.state l.initial.table l.initial.buffer l.from l.initial.out 0) (take l.b-index l.chunk))
    × Appends (g.W.Write.contents l.initial.output) (g.W.Write.contents l.output) (handed (run_in l.initial.state l.initial.table l.initial.buffer l.from l.initial.out 0) (take l.b-index l.chunk))
