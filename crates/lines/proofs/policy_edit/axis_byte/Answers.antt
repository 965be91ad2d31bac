use mathlib.Core.Path.{refl}
use Rattle.lines.proofs.policy_edit.axis_byte.Goals as goal

pub returns-in-Child : goal.returns-in-Child
returns-in-Child c = rw c.in-Child.is refl

pub returns-in-Descendant : goal.returns-in-Descendant
returns-in-Descendant c = rw c.in-Descendant.is refl
