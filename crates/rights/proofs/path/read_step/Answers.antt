use mathlib.Core.Path.{sym, ◌∙◌}
use native.Mathlib.Omega.{arith}
use borrow.Author.Tests.{eqb-true}
use Rattle.rights.proofs.PathLaws.{inside}
use Rattle.rights.proofs.path.read_step.Goals as goal

pub overflow_add-at : goal.overflow_add-at
overflow_add-at c =
    let args = c.args in
    let l = inside args.s.now args.at 47 (omega arith) (eqb-true _ _ (sym c.byte_is.ensures ∙ c.if-byte_is.true)) in
    omega (arith, l)

pub returns-then-byte_is : goal.returns-then-byte_is
returns-then-byte_is c = rw (sym c.byte_is.ensures ∙ c.if-byte_is.true) c.step_along.ensures

pub returns : goal.returns
returns c = rw (sym c.byte_is.ensures ∙ c.if-byte_is.false) c.step_along-2.ensures
