-- The first i nodes have their sets, and the states of each level are those along the chain of the node before.
use Prim.Native.Nat.{ℕ, ◌-◌}
use mathlib.Core.Path.{◌≡◌}
use lib.ListN.{length, drop}
use Rattle.rights.specs.How.Groups.{laid, firsts, ruled}
use Rattle.rights.specs.How.Trial.{rules_in}
use Rattle.rights.specs.How.Automaton.{chain_of, chain_to}
use Rattle.rights.proofs.StateLaws.{Levels}
use Rattle.rights.proofs.EachLaws.{Done}
use Rattle.rights.proofs.groups.Trial.try_group.Given as goal

abbrev pub invariant-loop-i : goal.invariant-loop-i
invariant-loop-i l = (length l.out ≡ length l.initial.out)
    × (drop l.i l.out ≡ drop l.i l.initial.out)
    × Done (λ (j x : ℕ). ruled (rules_in l.self l.right) l.right (chain_of l.table j) l.from (l.to - l.from) x) l.initial.out l.out l.i
    × (length l.st ≡ 13)
    × Levels (laid (rules_in l.self l.right) l.from (l.to - l.from)) (firsts (rules_in l.self l.right) l.from (l.to - l.from)) l.st (chain_to l.table l.i)
