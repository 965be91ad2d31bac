use mathlib.Core.Path.{refl}
use Rattle.rights.specs.Policy.{read, update}
use Rattle.rights.proofs.FiveRights.{bit_right}
use Rattle.views.proofs.done.Asked.is_renamable.Goals as goal

pub holds_right-requires : goal.holds_right-requires
holds_right-requires c = bit_right read

pub holds_right-requires-then-holds_right : goal.holds_right-requires-then-holds_right
holds_right-requires-then-holds_right c = bit_right update

pub returns-then-holds_right : goal.returns-then-holds_right
returns-then-holds_right c =
    rw (← c.holds_right.ensures read refl, c.if-holds_right.true) (c.holds_right-then-holds_right.ensures update refl)

pub returns-else-holds_right : goal.returns-else-holds_right
returns-else-holds_right c = rw (← c.holds_right.ensures read refl, c.if-holds_right.false) refl
