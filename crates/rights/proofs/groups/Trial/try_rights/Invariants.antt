-- The first k rights have been tried on every node, each on what those before it left.
use Prim.Native.Nat.{ℕ}
use lib.ListN.{length}
use Rattle.rights.specs.How.Automaton.{chain_of, Each}
use Rattle.rights.specs.How.Groups.{by_first}
use Rattle.rights.specs.How.Trial.{policy_in}
use Rattle.rights.proofs.groups.Trial.try_rights.Given as goal

abbrev pub invariant-loop-k : goal.invariant-loop-k
invariant-loop-k l = Each (length l.self.numbers.now) l.initial.out l.out (λ (i x : ℕ). by_first (policy_in l.self) l.self.own.now l.self.roles.now (chain_of l.self.table.now i) l.asked l.k x)
