-- After n steps of the text, up to i, their records are put.
use Prim.Native.Nat.{◌-◌, ◌≤◌}
use mathlib.Core.Path.{◌≡◌}
use lib.ListN.{length}
use Rattle.lines.proofs.StoredPaths.{Putting}
use Rattle.lines.proofs.policy_edit.put_steps.Given as goal

abbrev pub invariant-loop-i : goal.invariant-loop-i
invariant-loop-i l = (l.i ≤ length l.path) × (length l.policy ≡ length l.initial.policy) × Putting l.initial.policy l.at l.path l.policy l.n l.i

abbrev pub decreases-loop-i : goal.decreases-loop-i
decreases-loop-i l = length l.path - l.i
