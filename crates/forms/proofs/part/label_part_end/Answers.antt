use Prim.Native.Nat.{ℕ}
use mathlib.Core.List.{List}
use native.Mathlib.Omega.{arith}
use Rattle.rights.specs.Limits.{label_max}
use Rattle.rights.specs.Labels.{label_byte}
use Rattle.rights.proofs.PathLaws.{bad_onward}
use Rattle.forms.specs.Part.{label_end}
use Rattle.forms.proofs.PartLaws.{short_long, short_moved}
use Rattle.forms.proofs.part.label_part_end.Goals as goal

pub returns-then-e-at-gt-LABEL_MAX : goal.returns-then-e-at-gt-LABEL_MAX
unfolding label_end
returns-then-e-at-gt-LABEL_MAX c =
    let s : List ℕ = c.args.s.now in
    bad_onward _ _ (short_long label_byte label_max s c.args.at (omega arith))

pub returns : goal.returns
unfolding label_end
returns c =
    let s : List ℕ = c.args.s.now in
    rw c.moved.ensures (short_moved label_byte label_max s c.args.at _ c.label_end-e.ensures (omega arith))
