use mathlib.Core.Bool.{false≢true}
use mathlib.Core.Path.{refl, sym, ◌∙◌}
use Rattle.rights.specs.Policy.{insert, delete}
use Rattle.rights.proofs.FiveRights.{bit_right}
use Rattle.views.proofs.done.Asked.is_done.Goals.{then-self-7, else-self-7}
use Rattle.views.proofs.done.Asked.is_done.Goals as goal

pub holds_right-requires : goal.holds_right-requires
holds_right-requires c = bit_right insert

pub holds_right-requires-then-self-7 : goal.holds_right-requires-then-self-7
holds_right-requires-then-self-7 c = bit_right delete

pub returns-then-self-4 : goal.returns-then-self-4
returns-then-self-4 c = rw (c.in-Append.is, c.if-self-4.true) (c.holds_right.ensures insert refl)

pub returns-then-holds_right : goal.returns-then-holds_right
returns-then-holds_right c =
    rw c.in-Remove.is
    (elim c.if-self-7.branch [
      | then-self-7 w ↦ rw (w.if-self-7.true, ← w.holds_right-then-self-7.ensures delete refl, ← w.value-is, c.if-holds_right.true) refl
      | else-self-7 w ↦ absurd (false≢true (sym w.if-self-7.false ∙ sym w.value-is ∙ c.if-holds_right.true))
    ])

pub returns-else-holds_right : goal.returns-else-holds_right
returns-else-holds_right c =
    rw c.in-Remove.is
    (elim c.if-self-7.branch [
      | then-self-7 w ↦ rw (w.if-self-7.true, ← w.holds_right-then-self-7.ensures delete refl, ← w.value-is, c.if-holds_right.false) refl
      | else-self-7 w ↦ rw (w.value-is, w.if-self-7.false) refl
    ])
