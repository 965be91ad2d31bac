use mathlib.Core.Path.{sym, ◌∙◌}
use native.Mathlib.Omega.{arith}
use borrow.Author.Tests.{eqb-true, eqb-false}
use Rattle.rights.proofs.PathLaws.{bad_onward, earlier}
use Rattle.forms.proofs.PartLaws.{open_not, open_label}
use Rattle.forms.proofs.tree.open_end.Goals as goal

pub returns-then-byte_is : goal.returns-then-byte_is
returns-then-byte_is c =
    earlier _ _ _ (open_label c.args.s.now c.args.at (eqb-true _ 40 (sym c.byte_is.ensures ∙ c.if-byte_is.true))) (omega arith) c.label_part_end.ensures

pub returns-else-byte_is : goal.returns-else-byte_is
returns-else-byte_is c = bad_onward _ _ (open_not c.args.s.now c.args.at (eqb-false _ 40 (sym c.byte_is.ensures ∙ c.if-byte_is.false)))
