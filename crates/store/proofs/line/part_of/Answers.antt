use Prim.Native.Nat.{suc, ◌+◌}
use native.Mathlib.Numerals.{add-one}
use Rattle.forms.specs.Form.{place_in}
use Rattle.store.proofs.LineLaws.{part_clipped}
use Rattle.store.proofs.line.part_of.Goals as goal

pub overflow_add-ends : goal.overflow_add-ends
overflow_add-ends c = record { fits = c.requires.1.1 c.args.i }

pub returns : goal.returns
returns c =
    let a = c.args in
    rw (c.min-at.ensures, c.min-end.ensures, add-one a.i)
    (part_clipped a.line.now (place_in a.ends.now a.i + 1) (place_in a.ends.now (suc a.i)))
