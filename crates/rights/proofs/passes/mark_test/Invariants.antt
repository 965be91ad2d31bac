-- The first i nodes are marked where they pass the test.
use Prim.Native.Nat.{ℕ}
use mathlib.Core.Bool.{Bool}
use mathlib.Core.List.{List}
use mathlib.Core.Path.{◌≡◌}
use lib.ListN.{length}
use Rattle.rights.specs.Path.{Test, passes}
use Rattle.rights.specs.PathReader.{got, read_test}
use Rattle.rights.specs.Nodes.{label_at}
use Rattle.rights.specs.How.Seen.{nodes_in}
use Rattle.rights.specs.How.Selection.{Marked, OwnMarked}
use Rattle.rights.proofs.passes.mark_test.Given as goal

abbrev pub invariant-loop-i : goal.invariant-loop-i
invariant-loop-i l = (mine : List ℕ → Bool) → OwnMarked (nodes_in l.shown) mine l.s l.own (length l.shown.numbers.now) → (x : Test) → read_test l.s l.at ≡ got x l.end → Marked l.marks (λ k. passes mine x (label_at (nodes_in l.shown) k)) l.i
