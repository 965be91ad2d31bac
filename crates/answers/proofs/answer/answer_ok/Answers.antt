use borrow.Author.Rules.{rules}
use Rattle.answers.specs.Answer.{ok_text}
use Rattle.answers.proofs.answer.answer_ok.Goals as goal

pub returns : goal.returns
returns c = c.answer.ensures ok_text (search rules)
