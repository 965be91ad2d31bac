-- The first i records are overwritten where they are marked, and the rest is as it was.
use Prim.Native.Nat.{◌+◌, ◌*◌}
use mathlib.Core.Path.{◌≡◌}
use lib.ListN.{length, take, drop}
use Rattle.rights.specs.Table.{level}
use Rattle.rights.specs.Marks.{marks_of}
use Rattle.views.specs.Change.{chunks, rename}
use Rattle.views.specs.How.Pass.{overwritten}
use Rattle.views.proofs.OverwriteLaws.{halfway}
use Rattle.views.proofs.overwrite.overwrite_marked.Given as goal

abbrev pub invariant-loop-i : goal.invariant-loop-i
invariant-loop-i l = (length l.t ≡ length l.initial.t) × (halfway l.i-end (overwritten l.k l.x) l.marks l.i l.t ≡ rename level (overwritten l.k l.x) (marks_of l.marks) (chunks l.i-end (drop 4 l.initial.t)))
    × (take 4 l.t ≡ take 4 l.initial.t) × (drop (4 + l.i-end * 32) l.t ≡ drop (4 + l.i-end * 32) l.initial.t)
