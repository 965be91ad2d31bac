-- The name is looked for among the subjects from number u on.
use Prim.Native.Nat.{◌-◌}
use mathlib.Core.Path.{◌≡◌}
use Rattle.rights.specs.PolicyBytes.{subject_count, names_from, policy_of}
use Rattle.lines.specs.PolicyEdit.{subject_from, subject_named}
use Rattle.lines.proofs.policy_edit.find_name.Given as goal

abbrev pub invariant-loop-u : goal.invariant-loop-u
invariant-loop-u l = subject_named (policy_of l.policy) l.name ≡ subject_from l.name l.u (names_from l.policy (subject_count l.policy - l.u) l.u)
