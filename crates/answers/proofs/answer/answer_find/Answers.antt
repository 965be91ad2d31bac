use borrow.Author.Rules.{rules}
use Rattle.rights.specs.Marks.{marks_of, keep}
use Rattle.rights.specs.How.Seen.{nodes_in}
use Rattle.answers.specs.Answer.{find_text}
use Rattle.answers.proofs.answer.answer_find.Goals as goal

pub returns : goal.returns
returns c = c.answer.ensures (find_text (keep (marks_of c.args.marks.now) (nodes_in c.args.shown.now))) (search rules)
