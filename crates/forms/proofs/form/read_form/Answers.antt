-- What the reader passed is handed on; where something was missing, there is no form.
use mathlib.Core.Path.{sym}
use native.Mathlib.Omega.{arith}
use Rattle.forms.proofs.FormLaws.{whole_read, none_read}
use Rattle.forms.proofs.form.read_form.Goals as goal

pub returns-in_default : goal.returns-in_default
returns-in_default c = let x = c.in_default.ensures in (none_read c.args.s.now x.0, sym x.1)

pub returns : goal.returns
returns c =
    let x = c.in-Some.ensures in
    let inside = x.0.inside in
    (whole_read c.args.s.now c.in-Some.p x.0 (λ j. omega (arith, inside j, c)), sym x.1)
