-- The sets so far have the right set or cleared, and the rest is as it was.
use Prim.Native.Nat.{ℕ, ◌<◌}
use mathlib.Core.Path.{◌≡◌}
use lib.ListN.{length, drop, get_or}
use Rattle.rights.specs.Rights.{ruled_set}
use Rattle.rights.proofs.EachLaws.{Done}
use Rattle.rights.proofs.groups.rule_all.Given as goal

abbrev pub invariant-loop-x : goal.invariant-loop-x
invariant-loop-x l = (length l.x-items ≡ length l.fn.out)
    × (drop l.x-index l.x-items ≡ drop l.x-index l.fn.out)
    × Done (λ (q x : ℕ). ruled_set x l.right l.accept) l.fn.out l.x-items l.x-index
    × ((q : ℕ) → q < l.x-index → get_or l.fn.out q 0 < 256)
