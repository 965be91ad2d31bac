use Rattle.answers.proofs.AnswerLaws.{puts_none, puts_more, decimal_zero, decimal_small, decimal_large}
use native.Mathlib.Omega.{arith}
use Rattle.answers.proofs.answer.+put_decimal.Goals as goal

pub returns-then-k-eq0 : goal.returns-then-k-eq0
returns-then-k-eq0 t c =
    let a = c.args in
    (rw (decimal_zero a.k a.n c.if-k-eq0.true) (puts_none a.at a.area.now), omega arith)

pub returns-then-n-lt10 : goal.returns-then-n-lt10
returns-then-n-lt10 t c =
    let a = c.args in
    let p = c.put_byte.ensures in
    (rw (decimal_small a.k a.n c.if-k-eq0.false c.if-n-lt10.true, ← c.digit-d.ensures) p, omega (arith, p.next, c.if-k-eq0.false))

pub returns : goal.returns
returns t c =
    let a = c.args in
    let p = c.put_byte-2.ensures in
    let q = c.put_decimal-next.ensures in (
      rw (decimal_large a.k a.n c.if-k-eq0.false c.if-n-lt10.false, ← c.digit-d.ensures) (puts_more q.0 p),
      omega (arith, p.next, q.1, c.if-k-eq0.false),
    )
