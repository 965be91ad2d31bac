use mathlib.Core.Path.{sym, ◌∙◌}
use Rattle.xml.proofs.LexerLaws.{opening_unnamed, opening_unstarted, opening_read, opening_other, opening_unended, opening_empty}
use Rattle.xml.proofs.lexer.opening_tag.Goals as goal
use Rattle.xml.proofs.lexer.opening_tag.Goals.{else-byte_is-2-via-then-byte_is-2+else-byte_is-3, else-byte_is-2-via-else-byte_is-2}

pub returns-in_default : goal.returns-in_default
returns-in_default c = opening_unnamed c.args.xml.now c.args.i (sym c.label_part_end.ensures.is ∙ c.in_default.is)

pub returns-then-not-name_start : goal.returns-then-not-name_start
returns-then-not-name_start c =
    opening_unstarted c.args.xml.now c.args.i c.in-Some.e (sym c.label_part_end.ensures.is ∙ c.in-Some.is) (sym c.name_start.ensures ∙ c.if-not-name_start.true)

pub returns-then-byte_is : goal.returns-then-byte_is
returns-then-byte_is c =
    let p = sym c.label_part_end.ensures.is ∙ c.in-Some.is in
    opening_read c.args.xml.now c.args.i c.in-Some.e p (sym c.name_start.ensures ∙ c.if-not-name_start.false) (sym c.byte_is.ensures ∙ c.if-byte_is.true)

pub returns-then-byte_is-3 : goal.returns-then-byte_is-3
returns-then-byte_is-3 c =
    let p = sym c.label_part_end.ensures.is ∙ c.in-Some.is in
    opening_empty c.args.xml.now c.args.i c.in-Some.e p (sym c.name_start.ensures ∙ c.if-not-name_start.false) (sym c.byte_is.ensures ∙ c.if-byte_is.false)
    (sym c.byte_is-2.ensures ∙ c.if-byte_is-2.true)
    (sym c.byte_is-then-byte_is-2.ensures ∙ c.if-byte_is-3.true)

pub returns : goal.returns
returns c =
    let p = sym c.label_part_end.ensures.is ∙ c.in-Some.is in
    let n = sym c.name_start.ensures ∙ c.if-not-name_start.false in
    let o = sym c.byte_is.ensures ∙ c.if-byte_is.false in
    elim c.else-byte_is-2.branch [
      | else-byte_is-2-via-then-byte_is-2+else-byte_is-3 w ↦
          opening_unended c.args.xml.now c.args.i c.in-Some.e p n o (sym c.byte_is-2.ensures ∙ w.if-byte_is-2.true) (sym w.byte_is-then-byte_is-2.ensures ∙ w.if-byte_is-3.false)
      | else-byte_is-2-via-else-byte_is-2 w ↦ opening_other c.args.xml.now c.args.i c.in-Some.e p n o (sym c.byte_is-2.ensures ∙ w.if-byte_is-2.false)
    ]
