use native.Mathlib.Omega.{arith}
use Rattle.views.proofs.TableLaws.{facts}
use Rattle.views.proofs.DepthLaws.{held_fits, product_fits, room_is}
use Rattle.rights.proofs.MarkLaws.{count_front}
use Rattle.views.proofs.insert.has_room.Goals as goal

pub count_of-n-requires : goal.count_of-n-requires
count_of-n-requires c = omega (arith, (facts c.args.t.now c.requires.0).head)

pub capacity_of-c-requires : goal.capacity_of-c-requires
capacity_of-c-requires c =
    omega (arith, (facts c.args.t.now c.requires.0).head)

pub overflow_mul-result : goal.overflow_mul-result
overflow_mul-result c =
    let a = c.args in
    let k = c.count_marks-k in
    let q = count_front c.count_of-n.result a.marks.now k.result (omega (arith, c.count_of-n.ensures, c.requires.1)) k.ensures in
    record { fits = product_fits c.count_of-n.result c.capacity_of-c.result k.result a.m a.t.now a.marks.now c.requires.0 c.count_of-n.ensures c.capacity_of-c.ensures q.0 q.1 c.requires.2 }

pub overflow_sub-result : goal.overflow_sub-result
overflow_sub-result c =
    let a = c.args in
    let k = c.count_marks-k in
    let q = count_front c.count_of-n.result a.marks.now k.result (omega (arith, c.count_of-n.ensures, c.requires.1)) k.ensures in
    held_fits c.count_of-n.result c.capacity_of-c.result k.result a.m a.t.now a.marks.now c.requires.0 c.count_of-n.ensures c.capacity_of-c.ensures q.0 q.1 c.requires.2

pub returns : goal.returns
returns c =
    let a = c.args in
    let k = c.count_marks-k in
    let q = count_front c.count_of-n.result a.marks.now k.result (omega (arith, c.count_of-n.ensures, c.requires.1)) k.ensures in
    room_is c.count_of-n.result c.capacity_of-c.result k.result a.m a.t.now a.marks.now c.requires.0 c.count_of-n.ensures c.capacity_of-c.ensures q.0 q.1 c.requires.2
