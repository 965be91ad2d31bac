use Prim.Native.Nat.{ℕ, ◌+◌, ◌-◌}
use mathlib.Core.Path.{◌≡◌, ap, ◌∙◌}
use mathlib.Core.List.{List, ◌++◌}
use native.Mathlib.Omega.{arith}
use lib.ListN.{set, get_or, take, drop, length-drop}
use lib.Seq.{paste, take-take, length-take-le}
use borrow.Rule.Slice.PartMut.{put_mid}
use Rattle.std.proofs.lemmas.Slice.{put_mid-paste}
use Rattle.views.proofs.RecordBytes.{put_front, put_back}
use Rattle.views.proofs.insert.put_raised.Goals as goal

pub returns : goal.returns
returns c =
    let a = c.args in
    let k : a.to + 32 - a.to ≡ 32 = omega arith in
    let j : a.from + 32 - a.from ≡ 32 = omega arith in
    let r = take 32 (drop a.from a.tree.now) in
    let n = length-take-le 32 (drop a.from a.tree.now) (rw length-drop (omega arith)) in
    let m : put_mid a.to (a.to + 32 - a.to) a.t.now c.copy_from_slice.new.self ≡ paste a.t.now a.to (drop a.from a.tree.now) 32 =
    put_mid-paste a.to (a.to + 32 - a.to) a.t.now c.copy_from_slice.new.self r 32 (rw j at c.copy_from_slice.ensures.after) (omega arith) (omega (arith, n))
    ∙ ap (λ (s : List ℕ). (take a.to a.t.now ++ s) ++ drop (a.to + 32) a.t.now) (take-take 32 32 (drop a.from a.tree.now) (omega arith)) in
    let e = ap (λ (l : List ℕ). set l a.to (a.k + get_or a.tree.now a.from 0)) m in (
      put_front a.t.now _ a.tree.now a.to a.from a.k (omega arith) (omega arith) e,
      put_back a.t.now _ a.tree.now a.to a.from a.k (omega arith) (omega arith) e,
    )
