-- The records kept so far and what stays of those from i on make the whole removal; those deeper than `cut` at the front still go.
use Prim.Native.Nat.{◌≤◌, ◌-◌, ◌+◌, ◌*◌}
use Rattle.rights.specs.Table.{level}
use mathlib.Core.Path.{◌≡◌}
use lib.ListN.{length, drop}
use Rattle.rights.specs.Marks.{marks_of}
use Rattle.views.specs.Change.{removed, chunks}
use Rattle.views.specs.How.Pass.{going, cut_level}
use Rattle.views.specs.Nodes.{Under}
use Rattle.views.proofs.remove.compact.Given as goal

abbrev pub invariant-loop-i : goal.invariant-loop-i
invariant-loop-i l = (l.kept.w ≤ l.i) × (length l.t ≡ length l.initial.t) × (Under level 12 (chunks (l.n - l.i) (drop (4 + l.i * 32) l.t))) × (going l.n l.i l.kept.w (cut_level l.kept.cut) l.t l.marks ≡ removed (marks_of l.marks) (chunks l.n (drop 4 l.initial.t)))
