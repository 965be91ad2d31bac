use Prim.Native.Nat.{◌≤◌}
use Rattle.views.proofs.RecordBytes.{rest-front, rest-none}
use native.Mathlib.Omega.{arith}
use Rattle.views.proofs.insert.Insertion.next_level.Goals as goal

pub returns-then-i-self : goal.returns-then-i-self
returns-then-i-self c =
    let a = c.args in
    rest-front a.self.now.n a.self.now.gap a.i a.t.now (omega arith)

pub returns-else-i-self : goal.returns-else-i-self
returns-else-i-self c =
    let a = c.args in
    let z : a.self.now.n ≤ a.i = omega arith in
    rw (rest-none a.self.now.n a.self.now.gap a.i a.t.now z)
