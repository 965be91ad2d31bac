-- The steps before j stand in the marks and rows, one bit each.
use mathlib.Core.Path.{◌≡◌}
use mathlib.Core.List.{List, ◌++◌}
use lib.ListN.{length}
use Rattle.rights.specs.Rights.{Step}
use Rattle.rights.specs.PolicyBytes.{steps_at}
use Rattle.rights.specs.How.Automaton.{steps_for}
use Rattle.rights.specs.How.Trial.{policy_in, mine_in, PackedIn}
use Rattle.rights.proofs.groups.Trial.with_rule.Given as goal

abbrev pub invariant-loop-j : goal.invariant-loop-j
invariant-loop-j l = (length l.rows ≡ 2113)
    × ((ss : List Step) → length ss ≡ l.g.used → PackedIn l.self ss l.g.marks l.initial.rows
    → PackedIn l.self (ss ++ steps_for (mine_in l.self) (policy_in l.self) (steps_at l.k) l.j 0) l.marks l.rows)
