-- k is how many of the first i nodes are marked.
use Prim.Native.Nat.{◌≤◌}
use mathlib.Core.Path.{◌≡◌}
use lib.ListN.{take}
use Rattle.rights.specs.Marks.{marks_of, mark_count}
use Rattle.rights.proofs.marks.count_marks.Given as goal

abbrev pub invariant-loop-i : goal.invariant-loop-i
invariant-loop-i l = (l.k ≡ mark_count (take l.i (marks_of l.marks))) × (l.k ≤ l.i)
