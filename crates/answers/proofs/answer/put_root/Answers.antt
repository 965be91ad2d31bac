use Rattle.answers.proofs.AnswerLaws.{puts_more}
use native.Mathlib.Omega.{arith}
use Rattle.answers.proofs.answer.put_root.Goals as goal

pub returns : goal.returns
returns c =
    (puts_more c.put_bytes-a.ensures (puts_more c.put_label-b.ensures.0 c.put_bytes.ensures), omega (arith, c.put_bytes-a.ensures.next, c.put_label-b.ensures.1, c.put_bytes.ensures.next))
