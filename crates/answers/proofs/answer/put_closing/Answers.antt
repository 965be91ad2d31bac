use Rattle.answers.proofs.AnswerLaws.{puts_more}
use native.Mathlib.Omega.{arith}
use borrow.Author.Tests.{eq-eqb, ne_eqb}
use mathlib.Core.List.{append-nil}
use Rattle.answers.proofs.answer.put_closing.Goals as goal

pub put_bytes-requires : goal.put_bytes-requires
put_bytes-requires c =
    omega (arith, c.saturating_sub-k.ensures, c.put_closed-a.ensures.1)

pub returns-then-m-eq1 : goal.returns-then-m-eq1
returns-then-m-eq1 c =
    let p = c.put_closed-a.ensures in
    (rw (eq-eqb c.args.m 1 c.if-m-eq1.true, ← c.saturating_sub-k.ensures) (puts_more p.0 c.put_bytes.ensures), omega (arith, c.saturating_sub-k.ensures, p.1, c.put_bytes.ensures.next))

pub returns : goal.returns
returns c =
    let p = c.put_closed-a.ensures in
    (rw (ne_eqb c.args.m 1 c.if-m-eq1.false, ← c.saturating_sub-k.ensures, append-nil) p.0, omega (arith, c.saturating_sub-k.ensures, p.1))
