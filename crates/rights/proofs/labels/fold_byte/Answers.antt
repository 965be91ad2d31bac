use mathlib.Core.Path.{◌∙◌}
use Rattle.rights.proofs.LabelLaws.{lower_folded}
use Rattle.rights.proofs.labels.fold_byte.Goals as goal

pub returns : goal.returns
returns c = c.to_ascii_lowercase.ensures.value ∙ lower_folded c.args.b
