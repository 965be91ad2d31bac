-- Without a `$` nothing is said. With one the first i nodes are marked where their labels are among the sorted names, and the rest is as it was.
use Prim.Native.Nat.{ℕ, ◌≤◌}
use mathlib.Core.Path.{◌≡◌}
use lib.ListN.{length, get_or}
use Rattle.rights.specs.How.Roles.{name_among}
use Rattle.rights.specs.Nodes.{label_at}
use Rattle.rights.specs.How.Seen.{nodes_in}
use Rattle.rights.specs.How.Selection.{Marked}
use Rattle.rights.proofs.passes.mark_own.Given as goal

abbrev pub invariant-loop-i : goal.invariant-loop-i
invariant-loop-i l = (length l.marks ≡ length l.initial.marks) × Marked l.marks (λ k. name_among l.fn.policy l.fn.own (label_at (nodes_in l.shown) k)) l.i × ((k : ℕ) → l.i ≤ k → get_or l.marks k 0 ≡ get_or l.initial.marks k 0)
