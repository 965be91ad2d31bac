-- The words hold what the rules before k name; each rule adds 16 words at most.
use mathlib.Core.Bool.{false}
use mathlib.Core.List.{List}
use Prim.Native.Nat.{ℕ, ◌*◌}
use Rattle.rights.specs.Policy.{Rule, some, uses}
use Rattle.rights.specs.PolicyBytes.{rules_from}
use Rattle.rights.specs.How.WordList.{Adds}
use Rattle.rights.proofs.vocabulary.WordList.add_rules.Given as goal

abbrev pub invariant-loop-k : goal.invariant-loop-k
invariant-loop-k l = Adds l.fn.self l.self (l.k * 16) (λ (x : List ℕ). some (λ (r : Rule). some (uses false x) r.path) (rules_from l.fn.self.policy.now l.k 0))
