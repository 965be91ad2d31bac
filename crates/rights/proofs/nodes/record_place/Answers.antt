use Prim.Native.Nat.{ℕ, ◌+◌, ◌*◌, ◌%◌}
use mathlib.Core.Path.{ap}
use Rattle.rights.specs.How.Numbers.{record_place}
use Rattle.rights.proofs.nodes.record_place.Goals as goal

pub returns : goal.returns
unfolding record_place
returns c = ap (λ (n : ℕ). 4 + n % 16384 * 32) c.from.ensures
