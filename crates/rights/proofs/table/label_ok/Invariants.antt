-- No fault is gathered exactly if there is none at the places before i and at those 8 behind them.
use Prim.Native.Nat.{ℕ, ◌+◌, ◌<◌}
use mathlib.Core.Bool.{true}
use mathlib.Core.Path.{◌≡◌}
use mathlib.Core.List.{List}
use lib.Dec.{eqb}
use lib.ListN.{length}
use Rattle.rights.proofs.LabelLaws.{FaultlessAt}
use Rattle.rights.proofs.table.label_ok.Given as goal

-- what the faults that are gathered before place i tell, and what they are told by
abbrev pub Tells : List ℕ → ℕ → ℕ → ℕ → Type 0
Tells s n faults i = eqb faults 0 ≡ true → (k : ℕ) → k < i → FaultlessAt s n k × FaultlessAt s n (k + 8)

abbrev pub Told : List ℕ → ℕ → ℕ → Type 0
Told s n faults = ((k : ℕ) → k < length s → FaultlessAt s n k) → eqb faults 0 ≡ true

abbrev pub invariant-loop-i : goal.invariant-loop-i
invariant-loop-i l = Tells l.field l.n l.faults l.i × Told l.field l.n l.faults
