-- The group holds the rules from `from` up to k in numbers; a rule more keeps what it holds and adds its own bits above. At the end the rows get the bits of `$`.
use Prim.Native.Nat.{◌-◌}
use Rattle.rights.specs.How.Trial.{GroupedIn}
use Rattle.rights.proofs.groups.Trial.make_group.Given as goal

abbrev pub invariant-loop-k : goal.invariant-loop-k
invariant-loop-k l = GroupedIn l.self l.right l.from (l.k - l.from) l.g l.rows
