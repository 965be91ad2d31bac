use Rattle.answers.proofs.AnswerLaws.{puts_more}
use native.Mathlib.Omega.{arith}
use Rattle.answers.proofs.answer.put_end.Goals as goal

pub returns : goal.returns
returns c =
    let one = c.put_bytes-a.ensures in
    let two = c.put_decimal-b.ensures in
    let three = c.put_bytes.ensures in
    (puts_more one (puts_more two.0 three), omega (arith, one.next, two.1, three.next))
