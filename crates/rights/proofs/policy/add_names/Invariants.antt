-- The words hold the names before u; each name adds one word at most.
use Prim.Native.Nat.{ℕ}
use mathlib.Core.List.{List}
use Rattle.rights.specs.Labels.{same_label}
use Rattle.rights.specs.Policy.{some}
use Rattle.rights.specs.PolicyBytes.{names_from}
use Rattle.rights.specs.How.WordList.{Adds}
use Rattle.rights.proofs.policy.add_names.Given as goal

abbrev pub invariant-loop-u : goal.invariant-loop-u
invariant-loop-u l = Adds l.fn.words l.words l.u (λ (x : List ℕ). some (same_label x) (names_from l.fn.words.policy.now l.u 0))
