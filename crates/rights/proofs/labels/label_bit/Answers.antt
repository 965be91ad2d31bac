-- The five ranges together are the class, computed at each byte.
use native.Mathlib.Omega.{arith}
use Rattle.rights.proofs.LabelLaws.{five_ranges, bit_most}
use Rattle.rights.proofs.labels.label_bit.Goals as goal

pub returns : goal.returns
returns c =
    let b = c.args.b in
    let r = five_ranges b (omega arith) in (
      rw (c.in_range.ensures, c.in_range-2.ensures, c.in_range-3.ensures, c.in_range-4.ensures, c.in_range-5.ensures) r,
      rw (c.in_range.ensures, c.in_range-2.ensures, c.in_range-3.ensures, c.in_range-4.ensures, c.in_range-5.ensures, r) (bit_most b),
    )
