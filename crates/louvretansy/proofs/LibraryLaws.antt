-- The size of a state as 13 asks for it. Assumes nothing.
use Prim.Native.Nat.{ℕ}
use mathlib.Core.Bool.{true}
use mathlib.Core.Path.{◌≡◌}
use mathlib.Core.List.{List}
use lib.ListN.{length}
use Rattle.lines.specs.State.{store_ok}
use Rattle.lines.proofs.StateLaws.{store_held}
use Rattle.louvretansy.specs.Library.{state_bytes}

-- 13 lets a state of these bytes alone pass
pub store_bytes : (s t : List ℕ) → store_ok s t ≡ true → length s ≡ state_bytes
store_bytes s t e = (store_held s t e).size
