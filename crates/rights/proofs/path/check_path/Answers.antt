use Rattle.std.proofs.Common.{sym, ◌∙◌}
use borrow.Author.Tests.{eqb-true, eqb-false}
use Rattle.rights.proofs.PathLaws.{path_no_slash, path_no_steps, path_more, path_whole}
use Rattle.rights.proofs.path.check_path.Goals as goal

pub returns-then-not-byte_is : goal.returns-then-not-byte_is
returns-then-not-byte_is c = sym (path_no_slash c.args.s.now (eqb-false _ _ (sym c.byte_is.ensures ∙ c.if-not-byte_is.true)))

pub returns-in_err-i : goal.returns-in_err-i
returns-in_err-i c =
    let slash = eqb-true _ _ (sym c.byte_is.ensures ∙ c.if-not-byte_is.false) in
    c.from_residual.ensures ∙ sym (path_no_steps c.args.s.now slash (sym c.read_path.ensures.is ∙ c.in_err-i.was))

pub returns-then-i-s : goal.returns-then-i-s
returns-then-i-s c =
    let slash = eqb-true _ _ (sym c.byte_is.ensures ∙ c.if-not-byte_is.false) in
    sym (path_whole c.args.s.now c.in_ok-i.i (sym c.read_path.ensures.is ∙ c.in_ok-i.was) slash c.if-i-s.true)

pub returns-else-i-s : goal.returns-else-i-s
returns-else-i-s c =
    let slash = eqb-true _ _ (sym c.byte_is.ensures ∙ c.if-not-byte_is.false) in
    sym (path_more c.args.s.now c.in_ok-i.i (sym c.read_path.ensures.is ∙ c.in_ok-i.was) slash c.if-i-s.false)
