use Rattle.rights.specs.Marks.{marks_of, keep}
use Rattle.rights.specs.How.Seen.{nodes_in}
use Rattle.answers.proofs.AnswerLaws.{answered_surely}
use Rattle.answers.specs.Answer.{query_text}
use borrow.Author.Rules.{rules}
use mathlib.Core.Path.{sym, ◌∙◌}
use Rattle.answers.proofs.answer.answer_query.Goals as goal

pub returns-then-surely_fits : goal.returns-then-surely_fits
returns-then-surely_fits c =
    let a = c.args in
    answered_surely (query_text (keep (marks_of a.marks.now) (nodes_in a.shown.now))) a.area.now c.put_query.new.area c.len.result _ (rw (← c.len.ensures) at c.put_query.ensures)
    (sym c.surely_fits.ensures ∙ c.if-surely_fits.true)

pub returns : goal.returns
returns c = c.answer.ensures (query_text (keep (marks_of c.args.marks.now) (nodes_in c.args.shown.now))) (search rules)
