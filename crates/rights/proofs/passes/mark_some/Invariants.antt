-- From the last node back to node i all are decided; the flag of a level says whether one of the nodes from i on, below a node of the level above, is kept.
use Prim.Native.Nat.{ℕ, ◌-◌, ◌≤◌, ◌<◌}
use mathlib.Core.Path.{◌≡◌}
use mathlib.Core.Bool.{Bool, false}
use lib.ListN.{length, get_or}
use Rattle.rights.specs.How.Seen.{nodes_in}
use Rattle.rights.specs.How.Selection.{some_from, some_along, Marked}
use Rattle.rights.specs.Marks.{bit}
use Rattle.rights.proofs.passes.mark_some.Given as goal

abbrev pub invariant-loop-i : goal.invariant-loop-i
invariant-loop-i z = (length z.flags ≡ 32) × ((f : ℕ → Bool) → Marked z.kept f (length z.shown.numbers.now) → (l : ℕ) → l < 16 → get_or z.flags l false ≡ some_from (nodes_in z.shown) z.axis f l z.i (length z.shown.numbers.now - z.i)) × ((f : ℕ → Bool) → Marked z.kept f (length z.shown.numbers.now) → (k : ℕ) → z.i ≤ k → k < length z.shown.numbers.now → get_or z.marks k 0 ≡ bit (some_along z.axis f (nodes_in z.shown) k))
