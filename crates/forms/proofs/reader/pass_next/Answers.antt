-- A space, and the part of the kind that the layout has.
use mathlib.Core.Path.{sym, ap, ◌∙◌}
use Rattle.forms.specs.How.Reader.{end_of}
use native.Mathlib.Omega.{arith}
use Rattle.forms.proofs.FormLaws.{next_over, next_unspaced, next_missing, next_held}
use Rattle.forms.proofs.reader.pass_next.Goals as goal

pub returns-in_default : goal.returns-in_default
returns-in_default c = next_over c.args.s.now c.args.i c.args.p c.requires.0 c.requires.1 c.in_default.not-Some c.args.tree.now

pub returns-then-not-byte_is : goal.returns-then-not-byte_is
returns-then-not-byte_is c =
    next_unspaced c.args.s.now c.args.i c.args.p c.requires.0 c.requires.1 c.in-Some.k c.in-Some.is (sym c.byte_is.ensures ∙ c.if-not-byte_is.true) c.args.tree.now

pub returns-in_err-part : goal.returns-in_err-part
returns-in_err-part c =
    let x = c.pass_part.ensures in
    let none = ap end_of c.in_err-part.was in
    rw c.from_residual.ensures (
    next_missing c.args.s.now c.args.i c.args.p c.requires.0 c.requires.1 c.in-Some.k c.in-Some.is (sym c.byte_is.ensures ∙ c.if-not-byte_is.false) c.args.tree.now _ x.1 (sym x.0.end.is ∙ none)
    )

pub returns : goal.returns
returns c =
    let x = c.pass_part.ensures in
    let some = ap end_of c.in_ok-part.was in
    let on = x.0.end.on c.in_ok-part.part.end some in
    rw c.held.ensures (
    next_held c.args.s.now c.args.i c.args.p c.requires.0 c.requires.1 c.in-Some.k c.in-Some.is (sym c.byte_is.ensures ∙ c.if-not-byte_is.false) c.args.tree.now _ x.1 _ _
    (sym x.0.end.is ∙ some)
    (omega (arith, on))
    on.1
    (x.0.says c.in_ok-part.part c.in_ok-part.was)
    )
