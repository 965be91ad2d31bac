use mathlib.Core.Path.{ap, ◌∙◌}
use Rattle.std.specs.Prelude.{ℕ}
use Rattle.forms.specs.Word.{rights}
use Rattle.forms.specs.How.Codes.{by_number, found}
use Rattle.forms.proofs.PartLaws.{right_passed}
use Rattle.forms.proofs.kind.pass_right.Goals as goal

pub returns : goal.returns
returns c =
    right_passed c.args.s.now c.args.at _ _ _ c.known.ensures (c.numbered_right.ensures ∙ ap (λ (n : ℕ). found (by_number 0 rights n)) c.pass_run-run.ensures.1) c.pass_run-run.ensures.0
