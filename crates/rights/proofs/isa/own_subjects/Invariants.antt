-- The first m places hold the subjects below k for which `$` stands, and the others are as they were.
use Prim.Native.Nat.{◌≤◌}
use mathlib.Core.Path.{◌≡◌}
use lib.ListN.{length, take, drop}
use Rattle.rights.specs.Isa.{stands_for, subjects_where}
use Rattle.rights.specs.PolicyBytes.{policy_of}
use Rattle.rights.proofs.isa.own_subjects.Given as goal

abbrev pub invariant-loop-k : goal.invariant-loop-k
invariant-loop-k l = (l.m ≤ l.k) × (take l.m l.out ≡ subjects_where (stands_for (policy_of l.policy) l.u) l.k) × (length l.out ≡ 64) × (drop l.m l.out ≡ drop l.m l.initial.out)
