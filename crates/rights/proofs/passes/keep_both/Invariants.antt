-- The first i marks are those of both, and the rest is as it was.
use Prim.Native.Nat.{ℕ, ◌≤◌, ◌<◌}
use mathlib.Core.Path.{◌≡◌}
use lib.ListN.{get_or}
use Rattle.std.specs.Prelude.{bit_and}
use Rattle.rights.proofs.passes.keep_both.Given as goal

abbrev pub invariant-loop-i : goal.invariant-loop-i
invariant-loop-i l = ((k : ℕ) → l.i ≤ k → get_or l.marks k 0 ≡ get_or l.initial.marks k 0) × ((k : ℕ) → k < l.i → get_or l.marks k 0 ≡ bit_and (get_or l.initial.marks k 0) (get_or l.other k 0))
