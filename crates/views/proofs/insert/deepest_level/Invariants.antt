-- `deep` is the deepest level of the records from m - j on.
use Prim.Native.Nat.{◌≤◌, ◌-◌, ◌*◌, ◌<◌}
use mathlib.Core.Path.{◌≡◌}
use lib.ListN.{drop}
use Rattle.views.specs.Change.{deepest, chunks}
use Rattle.views.proofs.insert.deepest_level.Given as goal

abbrev pub invariant-loop-j : goal.invariant-loop-j
invariant-loop-j l = (l.j ≤ l.m) × (l.deep < 256) × (l.deep ≡ deepest (chunks (l.m - l.j) (drop (l.j * 32) l.tree)))
