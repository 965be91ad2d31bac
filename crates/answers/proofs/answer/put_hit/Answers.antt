use Rattle.answers.proofs.AnswerLaws.{puts_more}
use Rattle.rights.specs.Nodes.{level_at, label_at}
use native.Mathlib.Omega.{arith}
use Rattle.answers.proofs.answer.put_hit.Goals as goal

pub returns : goal.returns
unfolding level_at label_at
returns c =
    let one = c.put_bytes-a.ensures in
    let two = c.put_decimal-b.ensures in
    let three = c.put_byte-c.ensures in
    let four = c.put_label-d.ensures in
    let five = c.put_bytes.ensures in
    let p = c.requires in
    (rw (← c.level-level.ensures.0) (puts_more one (puts_more two.0 (puts_more three (puts_more four.0 five)))), omega (arith, one.next, two.1, three.next, four.1, five.next))
