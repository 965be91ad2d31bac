-- The numbers before i are written, and those from i on are as they were.
use Prim.Native.Nat.{ℕ}
use mathlib.Core.Path.{◌≡◌}
use lib.ListN.{length, drop}
use Rattle.rights.specs.Table.{record_at, label}
use Rattle.rights.specs.How.WordList.{number_in}
use Rattle.rights.proofs.EachLaws.{Done}
use Rattle.rights.proofs.vocabulary.WordList.number_nodes.Given as goal

abbrev pub invariant-loop-i : goal.invariant-loop-i
invariant-loop-i l = (length l.numbers ≡ length l.initial.numbers)
    × (drop l.i l.numbers ≡ drop l.i l.initial.numbers)
    × Done (λ (q x : ℕ). number_in l.self (label (record_at l.t q))) l.initial.numbers l.numbers l.i
