use mathlib.Core.Path.{sym, ◌∙◌}
use Rattle.xml.proofs.WindowLaws.{no_document_lem, document_is}
use Rattle.xml.proofs.document.check_document.Goals as goal

pub returns-in_err-tally : goal.returns-in_err-tally
returns-in_err-tally c = c.from_residual.ensures ∙ no_document_lem c.args.xml.now _ c.scan.ensures c.in_err-tally.was

pub returns-then-matches_below : goal.returns-then-matches_below
returns-then-matches_below c =
    let a = document_is c.args.xml.now _ c.scan.ensures _ c.in_ok-tally.was _ c.matches_below.ensures in
    sym (rw c.if-matches_below.true at a)

pub returns-else-matches_below : goal.returns-else-matches_below
returns-else-matches_below c =
    let a = document_is c.args.xml.now _ c.scan.ensures _ c.in_ok-tally.was _ c.matches_below.ensures in
    sym (rw c.if-matches_below.false at a)
