-- The rules before k have been tried on every node, in groups; each group goes on with what those before it left.
use Prim.Native.Nat.{ℕ, ◌-◌, ◌≤◌}
use lib.ListN.{length}
use Rattle.rights.specs.How.Groups.{ruled}
use Rattle.rights.specs.How.Trial.{rules_in}
use Rattle.rights.specs.How.Automaton.{chain_of, Each}
use Rattle.rights.proofs.groups.Trial.try_right.Given as goal

abbrev pub invariant-loop-k : goal.invariant-loop-k
invariant-loop-k l = (l.initial.k ≤ l.k) × (l.k ≤ l.rules) × Each (length l.self.numbers.now) l.initial.out l.out (λ (i x : ℕ). ruled (rules_in l.self l.right) l.right (chain_of l.self.table.now i) l.initial.k (l.k - l.initial.k) x)

abbrev pub decreases-loop-k : goal.decreases-loop-k
decreases-loop-k l = l.rules - l.k
