-- The first i nodes are decided; the flag of a level says whether the node above the next node of that level counts, itself or by an ancestor.
use Prim.Native.Nat.{ℕ, ◌≤◌, ◌<◌}
use mathlib.Core.Path.{◌≡◌}
use mathlib.Core.Bool.{Bool, false}
use lib.ListN.{length, get_or}
use Rattle.rights.specs.How.Seen.{nodes_in}
use Rattle.rights.specs.How.Selection.{above, under, Marked}
use Rattle.rights.proofs.passes.mark_under.Given as goal

abbrev pub invariant-loop-i : goal.invariant-loop-i
invariant-loop-i z = (length z.flags ≡ 32) × ((k : ℕ) → z.i ≤ k → get_or z.marks k 0 ≡ get_or z.initial.marks k 0) × ((f : ℕ → Bool) → Marked z.initial.marks f (length z.shown.numbers.now) → (l : ℕ) → l < 16 → get_or z.flags l false ≡ above (nodes_in z.shown) z.fn.axis f l z.i) × ((f : ℕ → Bool) → Marked z.initial.marks f (length z.shown.numbers.now) → Marked z.marks (under z.fn.axis f (nodes_in z.shown)) z.i)
