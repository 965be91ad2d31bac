use native.Mathlib.Omega.{arith}
use Rattle.lines.proofs.StateLaws.{store_held}
use Rattle.lines.proofs.changes.rename_refusal.Goals as goal

pub path_refusal-requires : goal.path_refusal-requires
path_refusal-requires c = omega (arith, (store_held _ _ c.requires).size)
