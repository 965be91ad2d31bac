use mathlib.Core.Path.{◌∙◌}
use Rattle.rights.proofs.PassLaws as laws
use Rattle.rights.proofs.passes.has_own.Goals as goal

pub returns : goal.returns
returns c = c.contains.ensures.value ∙ laws.any_some _ c.args.s.now
