-- The subjects before k pass.
use Rattle.std.proofs.Common.{◌≡◌, true}
use Rattle.rights.specs.Bytes.{every}
use Rattle.rights.specs.PolicyCheck.{subject_ok}
use Rattle.rights.proofs.policy_check.subjects_ok.Given as goal

abbrev pub invariant-loop-k : goal.invariant-loop-k
invariant-loop-k l = every (subject_ok l.policy) l.k ≡ true
