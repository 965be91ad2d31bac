use Rattle.rights.specs.Policy.{read}
use Rattle.rights.proofs.FiveRights.{bit_right}
use mathlib.Core.Path.{refl}
use Rattle.views.proofs.shown.number_of.Goals.{then-holds_right, else-holds_right}
use Rattle.views.proofs.shown.number_of.Goals as goal

pub holds_right-requires : goal.holds_right-requires
holds_right-requires c = bit_right read

pub returns : goal.returns
returns c =
    rw (← c.holds_right.ensures read refl)
    (elim c.if-holds_right.branch [ then-holds_right w ↦ rw (w.if-holds_right.true, w.number-is) refl | else-holds_right w ↦ rw (w.if-holds_right.false, w.number-is) refl ])
