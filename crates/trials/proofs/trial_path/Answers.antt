use mathlib.Core.Path.{ap, ◌∙◌}
use Rattle.std.specs.Prelude.{is_some}
use Rattle.rights.specs.PathReader.{path_of}
use Rattle.trials.proofs.TrialLaws.{path_told}
use Rattle.trials.proofs.trial_path.Goals as goal

pub returns : goal.returns
returns c = c.is_some.ensures ∙ ap is_some c.check_path.ensures ∙ path_told (path_of c.args.s.now)
