use Rattle.answers.proofs.AnswerLaws.{puts_more}
use Rattle.answers.proofs.answer.put_refused.Goals as goal

pub returns : goal.returns
returns c = rw (← c.from.ensures) (puts_more c.put_bytes-a.ensures (puts_more c.put_decimal-b.ensures.0 c.put_bytes.ensures))
