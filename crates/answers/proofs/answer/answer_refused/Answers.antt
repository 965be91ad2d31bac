use native.Mathlib.Omega.{arith}
use borrow.Author.Rules.{rules}
use Rattle.answers.specs.Answer.{refused_text}
use Rattle.answers.proofs.AnswerLengths.{refused_most}
use Rattle.answers.proofs.answer.answer_refused.Goals as goal

pub returns : goal.returns
returns c =
    let n = c.args.number in
    let e = c.answer.ensures (refused_text n) (search rules) in
    (e, omega (arith, e.size, refused_most n))
