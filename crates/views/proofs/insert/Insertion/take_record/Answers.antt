use mathlib.Core.Path.{refl}
use Prim.Native.Nat.{◌+◌, ◌*◌}
use lib.ListN.{get_or, length-set}
use Rattle.views.proofs.CopyLaws.{moved_down}
use Rattle.views.proofs.TurnLaws.{push_marked, push_plain}
use native.Mathlib.Omega.{arith}
use Rattle.views.proofs.insert.Insertion.take_record.Goals as goal

pub returns-then-mark-ne0 : goal.returns-then-mark-ne0
returns-then-mark-ne0 c =
    let a = c.args in
    let p = a.at.now in
    let e = moved_down _ a.t.now (4 + (a.self.now.gap + p.i) * 32) (4 + p.w * 32) 32 (omega arith) c.move_record.ensures (omega arith) in
    record { i_value = (refl, refl, omega arith, push_marked (get_or a.self.now.marks.now p.i 0) a.l p.d p.levels c.if-mark-ne0.true (omega arith)); room = length-set p.levels p.d a.l; t_after = e }

pub returns-else-mark-ne0 : goal.returns-else-mark-ne0
returns-else-mark-ne0 c =
    let a = c.args in
    let p = a.at.now in
    let e = moved_down _ a.t.now (4 + (a.self.now.gap + p.i) * 32) (4 + p.w * 32) 32 (omega arith) c.move_record.ensures (omega arith) in
    record { i_value = (refl, refl, omega arith, push_plain (get_or a.self.now.marks.now p.i 0) a.l p.d p.levels c.if-mark-ne0.false); room = refl; t_after = e }
