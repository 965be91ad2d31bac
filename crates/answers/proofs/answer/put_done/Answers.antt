use Rattle.answers.proofs.AnswerLaws.{puts_more}
use Rattle.answers.proofs.answer.put_done.Goals as goal

pub returns : goal.returns
returns c =
    puts_more c.put_bytes-a.ensures
    (puts_more c.put_decimal-b.ensures.0
    (puts_more c.put_byte-c.ensures (puts_more c.put_decimal-e.ensures.0 c.put_bytes.ensures)))
