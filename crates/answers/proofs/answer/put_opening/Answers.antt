use native.Mathlib.Omega.{arith}
use borrow.Author.Tests.{eq-eqb, ne_eqb}
use Rattle.answers.proofs.answer.put_opening.Goals as goal

pub returns-then-level-eq1 : goal.returns-then-level-eq1
returns-then-level-eq1 c =
    (rw (eq-eqb c.args.level 1 c.if-level-eq1.true) c.put_bytes.ensures, omega (arith, c.put_bytes.ensures.next))

pub returns : goal.returns
returns c =
    (rw (ne_eqb c.args.level 1 c.if-level-eq1.false) c.put_bytes-2.ensures, omega (arith, c.put_bytes-2.ensures.next))
