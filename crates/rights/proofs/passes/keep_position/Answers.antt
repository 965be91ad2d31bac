use mathlib.Core.Path.{sym, ◌∙◌}
use Rattle.rights.proofs.PassLaws as laws
use Rattle.rights.proofs.passes.keep_position.Goals as goal

pub returns : goal.returns
returns c = λ m e f q p. rw (laws.position_number c.args.s.now c.args.at m e q ∙ sym c.number_at.ensures) (c.keep_rank.ensures f p)
