-- n is the number of the digits before i, and those from i on finish it; at most four digits keep it small.
use Prim.Native.Nat.{◌+◌, ◌-◌, ◌<◌}
use mathlib.Core.Path.{◌≡◌}
use lib.ListN.{take, drop}
use Rattle.rights.specs.Bytes.{digit_byte}
use Rattle.rights.specs.PathReader.{run_at, number_of}
use Rattle.rights.proofs.PassLaws as laws
use Rattle.rights.proofs.passes.number_at.Given as goal

abbrev pub invariant-loop-i : goal.invariant-loop-i
invariant-loop-i l = (l.i + run_at digit_byte l.s l.i ≡ l.at + run_at digit_byte l.s l.at) × (number_of 0 (take (run_at digit_byte l.s l.at) (drop l.at l.s)) ≡ number_of l.n (take (run_at digit_byte l.s l.i) (drop l.i l.s))) × (l.n < laws.tens (l.i - l.at))
