use mathlib.Core.Path.{ap, ◌∙◌}
use Rattle.std.specs.Prelude.{ℕ}
use Rattle.forms.specs.Word.{signs}
use Rattle.forms.specs.How.Codes.{by_number, found}
use Rattle.forms.proofs.PartLaws.{sign_passed}
use Rattle.forms.proofs.kind.pass_sign.Goals as goal

pub returns : goal.returns
returns c =
    sign_passed c.args.s.now c.args.at _ _ _ c.known.ensures (c.numbered_sign.ensures ∙ ap (λ (n : ℕ). found (by_number 0 signs n)) c.pass_run-run.ensures.1) c.pass_run-run.ensures.0
