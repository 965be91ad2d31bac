-- `(` and a run of label bytes, whose number tells the word.
use mathlib.Core.Path.{sym, ap, ◌∙◌}
use native.Mathlib.Omega.{arith}
use Rattle.forms.specs.declared.layout.Word.TheVariants.{Other}
use Rattle.forms.specs.Layout.{words}
use Rattle.forms.specs.How.Codes.{by_number}
use Rattle.forms.proofs.PartLaws.{run_none, run-some}
use Rattle.forms.proofs.FormLaws.{laid_at, word_numbered, unbegun, wordless, word_read}
use Rattle.forms.proofs.reader.pass_word.Goals as goal

pub returns-then-not-byte_is : goal.returns-then-not-byte_is
returns-then-not-byte_is c = unbegun c.args.s.now (sym c.byte_is.ensures ∙ c.if-not-byte_is.true)

pub returns-then-e-le1 : goal.returns-then-e-le1
returns-then-e-le1 c = wordless c.args.s.now (sym c.byte_is.ensures ∙ c.if-not-byte_is.false) (run_none c.args.s.now 1 _ c.pass_run-run.ensures.0 (omega arith))

pub returns : goal.returns
returns c =
    let run = c.pass_run-run.ensures.0 in
    word_read c.args.s.now (sym c.byte_is.ensures ∙ c.if-not-byte_is.false) _ _ (run-some c.args.s.now 1 _ run (omega arith)) run.to
    (laid_at (ap (by_number Other words) c.pass_run-run.ensures.1 ∙ word_numbered c.args.s.now 1) c.numbered_layout.ensures)
