use mathlib.Core.Path.{sym, ◌∙◌}
use native.Mathlib.Omega.{arith}
use lib.ListN.{length}
use Rattle.rights.specs.PathReader.{read_test}
use Rattle.rights.proofs.PathLaws.{along-none, along-step}
use Rattle.rights.proofs.path.step_along.Goals as goal

pub returns-in_err-end : goal.returns-in_err-end
returns-in_err-end c =
    let args = c.args in
    rw c.from_residual.ensures (along-none args.axis args.at (read_test args.s.now args.at) (length args.s.now) (sym c.read_test.ensures.is ∙ c.in_err-end.was))

pub returns : goal.returns
returns c =
    let args = c.args in
    let read = c.read_test in
    let e = c.in_ok-end.was in
    let o = read.ensures.on c.in_ok-end.end e in
    along-step args.axis args.at (read_test args.s.now args.at) (length args.s.now) c.in_ok-end.end (sym read.ensures.is ∙ e) (omega arith) o.1
