use Prim.Native.Nat.{◌+◌}
use mathlib.Core.Path.{sym, ◌∙◌}
use native.Mathlib.Omega.{arith}
use borrow.Author.Tests.{eqb-true}
use Rattle.rights.proofs.PathLaws.{inside}
use Rattle.xml.proofs.LexerLaws.{lex_end, lex_text, lex-closing, lex-opening}
use Rattle.xml.proofs.lexer.next_token.Goals as goal

pub returns-then-xml-i : goal.returns-then-xml-i
returns-then-xml-i c =
    let args = c.args in
    lex_end args.xml.now args.at _ c.blanks_end-i.ensures c.if-xml-i.true

pub returns-then-xml-i-ne60 : goal.returns-then-xml-i-ne60
returns-then-xml-i-ne60 c =
    let args = c.args in
    lex_text args.xml.now args.at _ c.blanks_end-i.ensures _ c.if-xml-i.false c.if-xml-i-ne60.true c.label_text.ensures

pub closing_tag-requires : goal.closing_tag-requires
closing_tag-requires c =
    let args = c.args in
    let w = inside args.xml.now (c.blanks_end-i.result + 1) 47 (omega arith) (eqb-true _ _ (sym c.byte_is.ensures ∙ c.if-byte_is.true)) in
    omega arith

pub returns-then-byte_is : goal.returns-then-byte_is
returns-then-byte_is c =
    let args = c.args in
    lex-closing args.xml.now args.at _ c.blanks_end-i.ensures _ c.if-xml-i.false c.if-xml-i-ne60.false
    (sym c.byte_is.ensures ∙ c.if-byte_is.true)
    c.closing_tag.ensures

pub returns : goal.returns
returns c =
    let args = c.args in
    lex-opening args.xml.now args.at _ c.blanks_end-i.ensures _ c.if-xml-i.false c.if-xml-i-ne60.false
    (sym c.byte_is.ensures ∙ c.if-byte_is.false)
    c.opening_tag.ensures
