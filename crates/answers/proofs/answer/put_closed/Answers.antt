use Prim.Native.Nat.{ℕ, ◌-◌}
use mathlib.Core.Path.{◌≡◌}
use native.Mathlib.Omega.{arith}
use lib.ListN.{length-replicate}
use Rattle.std.proofs.lemmas.List.{take-replicate}
use Rattle.answers.proofs.answer.put_closed.Goals as goal

pub returns : goal.returns
returns c =
    let a = c.args in
    let e = take-replicate {X = ℕ} a.k 12 41 (omega arith) in
    let z : a.k - 0 ≡ a.k = omega arith in
    let q = rw (z, e) at c.put_bytes.ensures in
    (q, rw length-replicate at q.next)
