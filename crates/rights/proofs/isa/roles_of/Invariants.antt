-- What the pass over the subjects below k will make of the roles so far is what the whole pass makes. An isa line's R stands before its N, so none below k is missed.
use mathlib.Core.Path.{◌≡◌}
use Prim.Native.Nat.{◌+◌}
use lib.ListN.{set, replicate}
use Rattle.rights.specs.How.Roles.{sweep}
use Rattle.rights.proofs.isa.roles_of.Given as goal

abbrev pub invariant-loop-k : goal.invariant-loop-k
invariant-loop-k l = sweep l.policy l.k l.out ≡ sweep l.policy (l.u + 1) (set (replicate 64 0) l.u 1)
