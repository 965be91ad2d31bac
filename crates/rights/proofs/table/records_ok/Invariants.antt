-- The records before i pass, so those from i on decide, the next with a level from `low` to `high`.
use Prim.Native.Nat.{◌-◌}
use mathlib.Core.Path.{◌≡◌}
use Rattle.rights.specs.Table.{records_ok, records_from}
use Rattle.rights.proofs.table.records_ok.Given as goal

abbrev pub invariant-loop-i : goal.invariant-loop-i
invariant-loop-i l = (records_ok 0 0 (records_from l.t l.n 0) ≡ records_ok l.low l.high (records_from l.t (l.n - l.i) l.i))
