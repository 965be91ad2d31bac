-- The rules from `from` up to k take `used` bits, at most 63; one rule alone always fits.
use Prim.Native.Nat.{◌-◌, ◌≤◌}
use mathlib.Core.Path.{◌≡◌}
use lib.ListN.{length}
use Rattle.rights.specs.How.Groups.{laid}
use Rattle.rights.specs.How.Trial.{rules_in}
use Rattle.rights.proofs.groups.Trial.group_end.Given as goal

abbrev pub invariant-loop-k : goal.invariant-loop-k
invariant-loop-k l = (l.used ≡ length (laid (rules_in l.self l.right) l.from (l.k - l.from))) × (l.used ≤ 63)
