-- The words hold what the steps before j name; each step adds one word at most.
use mathlib.Core.Bool.{false}
use mathlib.Core.List.{List}
use Prim.Native.Nat.{ℕ}
use Rattle.rights.specs.Policy.{some, uses}
use Rattle.rights.specs.PolicyBytes.{steps_at, steps_from}
use Rattle.rights.specs.How.WordList.{Adds}
use Rattle.rights.proofs.vocabulary.WordList.add_rule.Given as goal

abbrev pub invariant-loop-j : goal.invariant-loop-j
invariant-loop-j l = Adds l.fn.self l.self l.j (λ (x : List ℕ). some (uses false x) (steps_from l.fn.self.policy.now (steps_at l.k) l.j 0))
