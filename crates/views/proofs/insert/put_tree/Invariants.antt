-- The first j records of the tree stand at their places, k levels deeper; the bytes around them are as they were.
use Prim.Native.Nat.{◌+◌, ◌*◌}
use mathlib.Core.Path.{◌≡◌}
use mathlib.Core.List.{◌++◌}
use lib.ListN.{length, drop}
use Rattle.views.specs.Change.{chunks, raise}
use Rattle.views.proofs.insert.put_tree.Given as goal

abbrev pub invariant-loop-j : goal.invariant-loop-j
invariant-loop-j l = (length l.t ≡ length l.initial.t)
    × (chunks (l.w + l.j) (drop 4 l.t) ≡ chunks l.w (drop 4 l.initial.t) ++ raise l.k (chunks l.j l.tree))
    × (drop (4 + (l.w + l.j) * 32) l.t ≡ drop (4 + (l.w + l.j) * 32) l.initial.t)
