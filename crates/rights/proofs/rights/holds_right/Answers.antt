use Rattle.rights.proofs.FiveRights.{bit-above}
use Rattle.rights.proofs.rights.holds_right.Goals as goal

pub nonzero_div-result : goal.nonzero_div-result
nonzero_div-result c = bit-above c.args.right c.requires
