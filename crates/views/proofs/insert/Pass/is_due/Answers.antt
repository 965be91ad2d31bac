use mathlib.Core.Path.{◌≡◌, refl}
use Rattle.views.proofs.RecordBytes.{stack_pop}
use native.Mathlib.Omega.{arith}
use Rattle.views.specs.How.Pass.{stack}
use Rattle.views.proofs.insert.Pass.is_due.Goals as goal

pub returns-then-self-gt0 : goal.returns-then-self-gt0
returns-then-self-gt0 c =
    let p = c.args.self.now in
    rw (stack_pop p.d p.levels (omega arith)) refl

pub returns-else-self-gt0 : goal.returns-else-self-gt0
unfolding stack
returns-else-self-gt0 c =
    let z : c.args.self.now.d ≡ 0 = omega arith in
    rw z refl
