use Prim.Native.Nat.{◌+◌, ◌-◌, ◌*◌}
use mathlib.Core.Path.{refl, ◌∙◌}
use native.Mathlib.Omega.{arith}
use lib.ListN.{length, get_or, take, drop}
use borrow.Rule.Slice.PartMut.{put_mid}
use Rattle.std.proofs.lemmas.Slice.{put_mid-paste}
use Rattle.rights.proofs.RecordLaws.{paste_all}
use Rattle.views.specs.How.Pass.{overwritten}
use Rattle.views.proofs.OverwriteLaws.{over_front, over_back, marked_front, unmarked_front}
use Rattle.views.proofs.overwrite.overwrite_one.Goals as goal

pub returns-then-marks-i-ne0 : goal.returns-then-marks-i-ne0
returns-then-marks-i-ne0 c =
    let a = c.args in
    let at = 4 + a.i * 32 in
    let r = take 32 (drop at a.t.now) in
    let n = length a.x.now in
    let p = put_mid-paste (at + a.k) (at + a.k + n - (at + a.k)) a.t.now c.copy_from_slice.new.self a.x.now n c.copy_from_slice.ensures.after (omega arith) refl
    ∙ paste_all a.t.now a.x.now (at + a.k) n refl in
    let t = put_mid (at + a.k) (at + a.k + n - (at + a.k)) a.t.now c.copy_from_slice.new.self in (
      marked_front (get_or a.marks.now a.i 0) (take (at + 32) t) (take at a.t.now) (overwritten a.k a.x.now r) r c.if-marks-i-ne0.true
          (over_front a.t.now t a.x.now at a.k (omega arith) (omega arith) p),
      over_back a.t.now t a.x.now at a.k (omega arith) (omega arith) p,
    )

pub returns-else-marks-i-ne0 : goal.returns-else-marks-i-ne0
returns-else-marks-i-ne0 c =
    let a = c.args in
    (unmarked_front (get_or a.marks.now a.i 0) a.i a.t.now (overwritten a.k a.x.now (take 32 (drop (4 + a.i * 32) a.t.now))) c.if-marks-i-ne0.false, refl)
