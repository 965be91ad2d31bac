use Rattle.std.proofs.Common.{◌≤◌, ◌≡◌, arith}
use borrow.Author.Tests.{le-leb, le-ltb}
use Rattle.rights.specs.Bytes.{digit_byte}
use Rattle.rights.specs.PathReader.{is_position, run_at}
use Rattle.rights.proofs.path.is_position.Goals as goal

pub returns-then-at-e : goal.returns-then-at-e
unfolding is_position
returns-then-at-e c =
    let some : 1 ≤ run_at digit_byte c.args.s.now c.args.at = omega arith in
    rw (le-leb _ _ some, ← c.digits_end-e.ensures.is) c.byte_is.ensures

pub returns-else-at-e : goal.returns-else-at-e
unfolding is_position
returns-else-at-e c =
    let none : run_at digit_byte c.args.s.now c.args.at ≡ 0 = omega arith in
    rw (none, le-ltb _ _ c.if-at-e.false)
