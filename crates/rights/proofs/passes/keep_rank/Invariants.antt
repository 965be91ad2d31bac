-- The first i nodes are decided; the slot of a level counts the marked nodes of that level since the last node above it.
use Prim.Native.Nat.{ℕ, ◌≤◌, ◌<◌}
use mathlib.Core.Path.{◌≡◌}
use mathlib.Core.Bool.{Bool, ◌&&◌}
use lib.ListN.{length, get_or}
use lib.Dec.{eqb}
use Rattle.rights.specs.How.Seen.{nodes_in}
use Rattle.rights.specs.How.Selection.{before, sibling_rank, Marked}
use Rattle.rights.proofs.passes.keep_rank.Given as goal

abbrev pub invariant-loop-i : goal.invariant-loop-i
invariant-loop-i z = (length z.counts ≡ 32) × ((l : ℕ) → l < 16 → get_or z.counts l 0 ≤ z.i) × ((k : ℕ) → z.i ≤ k → get_or z.marks k 0 ≡ get_or z.initial.marks k 0) × ((f : ℕ → Bool) → Marked z.initial.marks f (length z.shown.numbers.now) → (l : ℕ) → l < 16 → get_or z.counts l 0 ≡ before (nodes_in z.shown) f l z.i) × ((f : ℕ → Bool) → Marked z.initial.marks f (length z.shown.numbers.now) → Marked z.marks (λ k. f k && eqb (sibling_rank f (nodes_in z.shown) k) z.want) z.i)
