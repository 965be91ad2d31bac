-- The marks of the records before i are those of labels that are no policy words, and from i on the marks are as they were.
use Prim.Native.Nat.{ℕ}
use mathlib.Core.Bool.{not, ◌&&◌}
use mathlib.Core.List.{List}
use mathlib.Core.Path.{◌≡◌}
use lib.Dec.{eqb}
use lib.ListN.{length, drop}
use Rattle.rights.specs.Marks.{bit}
use Rattle.rights.specs.Policy.{policy_word}
use Rattle.rights.specs.PolicyBytes.{policy_of}
use Rattle.rights.specs.Table.{record_at, label}
use Rattle.rights.proofs.EachLaws.{Done}
use Rattle.rights.proofs.policy.unmark_words.Given as goal

-- the mark of record q that was x
abbrev pub unmarked : List ℕ → List ℕ → ℕ → ℕ → ℕ
unmarked policy table q x = bit (not (eqb x 0) && not (policy_word (policy_of policy) (label (record_at table q))))

abbrev pub invariant-loop-i : goal.invariant-loop-i
invariant-loop-i l = (length l.marks ≡ length l.initial.marks) × (drop l.i l.marks ≡ drop l.i l.initial.marks) × Done (unmarked l.policy l.table) l.initial.marks l.marks l.i
