use Rattle.rights.specs.How.Numbers.{record_place}
use Rattle.rights.proofs.PassLaws.{label_hidden}
use Rattle.answers.proofs.NodeLaws.{label_read, label_short}
use Rattle.answers.proofs.AnswerLaws.{take_short}
use Rattle.rights.proofs.ListLaws.{part_of}
use native.Mathlib.Omega.{arith}
use lib.ListN.{drop, get_or}
use mathlib.Core.Path.{◌∙◌}
use Prim.Native.Nat.{◌+◌, ◌-◌}
use Rattle.answers.proofs.answer.put_label.Goals as goal

pub returns-then-from-ge-RECORDS_MAX : goal.returns-then-from-ge-RECORDS_MAX
returns-then-from-ge-RECORDS_MAX c =
    let a = c.args in
    (rw (label_hidden a.shown.now.table.now a.shown.now.numbers.now a.i (omega arith) (omega arith)) c.put_bytes.ensures, omega (arith, c.put_bytes.ensures.next))

pub overflow_add-from : goal.overflow_add-from
overflow_add-from c =
    let w = c.args.shown.now.fits.stands c.args.i (omega arith) in
    omega (arith, w.room, c.record_place-place.ensures)

pub overflow_add-place : goal.overflow_add-place
overflow_add-place c =
    let w = c.args.shown.now.fits.stands c.args.i (omega arith) in
    omega (arith, w.room, c.record_place-place.ensures)

pub bounds-shown-place : goal.bounds-shown-place
bounds-shown-place c =
    let w = c.args.shown.now.fits.stands c.args.i (omega arith) in
    omega (arith, w.room, c.record_place-place.ensures)

pub overflow_add-end : goal.overflow_add-end
overflow_add-end c =
    let w = c.args.shown.now.fits.stands c.args.i (omega arith) in
    let s = label_short c.args.shown.now.table.now (record_place (get_or c.args.shown.now.numbers.now c.args.i 0)) w.short c.record_place-place.ensures c.from-2.ensures in
    omega (arith, w.room, c.record_place-place.ensures)

pub put_bytes-requires-2 : goal.put_bytes-requires-2
put_bytes-requires-2 c =
    let w = c.args.shown.now.fits.stands c.args.i (omega arith) in
    let s = label_short c.args.shown.now.table.now (record_place (get_or c.args.shown.now.numbers.now c.args.i 0)) w.short c.record_place-place.ensures c.from-2.ensures in
    let f = c.record_place-place.result + 2 in
    let n = c.from-2.result in
    omega (arith, take_short (f + n - f) (drop f c.args.shown.now.table.now))

pub returns : goal.returns
returns c =
    let a = c.args in
    let w = c.args.shown.now.fits.stands a.i (omega arith) in
    let s = label_short c.args.shown.now.table.now (record_place (get_or c.args.shown.now.numbers.now c.args.i 0)) w.short c.record_place-place.ensures c.from-2.ensures in
    let f = c.record_place-place.result + 2 in
    let n = c.from-2.result in
    let q = part_of a.shown.now.table.now f n ∙ label_read a.shown.now.table.now a.shown.now.numbers.now a.i (omega arith) a.shown.now.fits (omega arith) c.record_place-place.result n c.record_place-place.ensures c.from-2.ensures in
    (rw (← q) c.put_bytes-2.ensures, omega (arith, take_short (f + n - f) (drop f a.shown.now.table.now), c.put_bytes-2.ensures.next))
