use Prim.Native.Nat.{ℕ}
use mathlib.Core.Path.{sym, ◌∙◌}
use Rattle.xml.proofs.LexerLaws.{closing_unnamed, closing_unended, closing_read}
use Rattle.xml.proofs.lexer.closing_tag.Goals as goal

pub returns-in_default : goal.returns-in_default
returns-in_default c =
    let args = c.args in
    closing_unnamed args.xml.now args.i (sym c.label_part_end.ensures.is ∙ c.in_default.is)

pub returns : goal.returns
returns c =
    let args = c.args in
    let e : ℕ = c.in-Some.e in
    closing_read args.xml.now args.i e (sym c.label_part_end.ensures.is ∙ c.in-Some.is) (sym c.byte_is.ensures ∙ c.if-not-byte_is.false)

pub returns-then-not-byte_is : goal.returns-then-not-byte_is
returns-then-not-byte_is c =
    let args = c.args in
    let e : ℕ = c.in-Some.e in
    closing_unended args.xml.now args.i e (sym c.label_part_end.ensures.is ∙ c.in-Some.is) (sym c.byte_is.ensures ∙ c.if-not-byte_is.true)
