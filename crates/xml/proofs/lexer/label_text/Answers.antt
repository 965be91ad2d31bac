use mathlib.Core.Path.{sym, ◌∙◌}
use native.Mathlib.Omega.{arith}
use Rattle.xml.proofs.LexerLaws.{texting-none, texting_unended, texting_read}
use Rattle.xml.proofs.lexer.label_text.Goals as goal

pub returns-in_default : goal.returns-in_default
returns-in_default c =
    let args = c.args in
    texting-none args.xml.now args.i (sym c.label_part_end.ensures.is ∙ c.in_default.is)

pub blanks_end-t-requires : goal.blanks_end-t-requires
blanks_end-t-requires c =
    let h = c.label_part_end.ensures.on (c.in-Some.e) c.in-Some.is in
    omega arith

pub returns : goal.returns
returns c =
    let args = c.args in
    texting_read args.xml.now args.i (c.in-Some.e) c.blanks_end-t.result ((sym c.label_part_end.ensures.is ∙ c.in-Some.is)) c.blanks_end-t.ensures (sym c.byte_is.ensures ∙ c.if-not-byte_is.false)

pub returns-then-not-byte_is : goal.returns-then-not-byte_is
returns-then-not-byte_is c =
    let args = c.args in
    texting_unended args.xml.now args.i (c.in-Some.e) c.blanks_end-t.result ((sym c.label_part_end.ensures.is ∙ c.in-Some.is)) c.blanks_end-t.ensures (sym c.byte_is.ensures ∙ c.if-not-byte_is.true)
