use borrow.Author.Rules.{rules}
use Rattle.answers.specs.Answer.{done_text}
use Rattle.answers.proofs.answer.answer_done.Goals as goal

pub returns : goal.returns
returns c = c.answer.ensures (done_text c.args.s c.args.d) (search rules)
