use Prim.Native.Nat.{◌^◌}
use native.Mathlib.Omega.{arith}
use borrow.Author.Tests.{lt-ltb, le-ltb}
use Rattle.forms.proofs.word.next_weight.Goals as goal

pub returns-then-weight-lt-LAST_WEIGHT : goal.returns-then-weight-lt-LAST_WEIGHT
returns-then-weight-lt-LAST_WEIGHT c = rw (lt-ltb c.args.weight (256 ^ 7) (omega arith))

pub returns-else-weight-lt-LAST_WEIGHT : goal.returns-else-weight-lt-LAST_WEIGHT
returns-else-weight-lt-LAST_WEIGHT c = rw (le-ltb c.args.weight (256 ^ 7) (omega arith))
