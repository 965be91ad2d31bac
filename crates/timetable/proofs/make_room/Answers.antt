use mathlib.Core.Path.{refl}
use native.Mathlib.Omega.{arith}
use borrow.Author.Tests.{le-leb, lt-leb}
use lib.ListN.{take}
use lib.Seq.{length-take-le}
use Rattle.std.proofs.lemmas.Result.{err_from_is_err_and}
use Rattle.timetable.proofs.StreamLaws.{writes_none, writes_as, overflow_fits, overflow_full}
use Rattle.timetable.proofs.make_room.Goals as goal

pub returns-then-held-le-AREA_BYTES : goal.returns-then-held-le-AREA_BYTES
returns-then-held-le-AREA_BYTES g c =
    let a = c.args in let n = length-take-le a.held a.out.now c.requires in
    record {
      room = (refl, rw (le-leb a.held 65536 c.if-held-le-AREA_BYTES.true));
      writes = writes_as (overflow_fits (take a.held a.out.now) (omega (arith, n, c.if-held-le-AREA_BYTES.true))) (writes_none _ _);
    }

pub returns : goal.returns
returns g c =
    let a = c.args in let n = length-take-le a.held a.out.now c.requires in
    record {
      room = (refl, rw (lt-leb a.held 65536 c.if-held-le-AREA_BYTES.false));
      writes = writes_as (overflow_full (take a.held a.out.now) (omega (arith, n, c.if-held-le-AREA_BYTES.false))) c.in_ok-write_held.ensures;
    }

pub returns-in_err-write_held : goal.returns-in_err-write_held
returns-in_err-write_held g c =
    let a = c.args in let n = length-take-le a.held a.out.now c.requires in
    rw (err_from_is_err_and c.from_residual.result c.from_residual.ensures.1).1
    (record {
      room = c.if-held-le-AREA_BYTES.false;
      writes = writes_as (overflow_full (take a.held a.out.now) (omega (arith, n, c.if-held-le-AREA_BYTES.false))) c.in_err-write_held.ensures;
    })
