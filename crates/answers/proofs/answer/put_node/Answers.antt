use Rattle.answers.proofs.AnswerLaws.{puts_more}
use Rattle.answers.specs.How.AnswerParts.{node_text}
use Rattle.rights.specs.Nodes.{level_at, label_at}
use native.Mathlib.Omega.{arith}
use Rattle.answers.proofs.answer.put_node.Goals as goal

pub returns : goal.returns
unfolding level_at label_at node_text
returns c =
    let one = c.put_opening-a.ensures in
    let two = c.put_label-b.ensures in
    let three = c.put_closing.ensures in
    (rw (← c.level-level.ensures.0, ← c.next_level-next.ensures) (puts_more one.0 (puts_more two.0 three.0)), omega (arith, one.1, two.1, three.1))
