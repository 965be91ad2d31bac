use mathlib.Core.Path.{◌≡◌, refl}
use Prim.Native.Nat.{◌+◌}
use lib.ListN.{length, length-set}
use lib.Seq.{paste-zero}
use Rattle.rights.proofs.ListLaws.{copy_more}
use native.Mathlib.Omega.{arith}
use Rattle.answers.proofs.answer.copy.Goals as goal

pub loop-j-init : goal.loop-j-init
loop-j-init c = (omega arith, refl, paste-zero c.args.d.now c.args.to c.args.s.now)

pub loop-j-preserved : goal.loop-j-preserved
loop-j-preserved c =
    let l = c.loop-j in
    let a = c.args in
    let z : 0 + l.j ≡ l.j = omega arith in
    (omega arith, simp length-set (omega arith), rw z at (copy_more l.d a.d.now a.s.now a.to 0 l.j (length a.s.now) (omega arith) (omega arith) (omega arith) l.invariant.2))

pub returns : goal.returns
returns c =
    let e : c.loop-j.j ≡ length c.args.s.now = omega arith in
    rw e at c.loop-j.invariant.2
