use native.Mathlib.Omega.{arith}
use Rattle.rights.proofs.ListLaws.{rest_of}
use Rattle.lines.proofs.StateLaws.{store_held}
use Rattle.lines.proofs.changes.is_barred.Goals as goal

pub slice_bounds-is_policy_word-count : goal.slice_bounds-is_policy_word-count
slice_bounds-is_policy_word-count c = omega (arith, (store_held _ _ c.requires).size)

pub slice_bounds-is_policy_word-start : goal.slice_bounds-is_policy_word-start
slice_bounds-is_policy_word-start c = omega (arith, (store_held _ _ c.requires).size)

pub is_policy_word-requires : goal.is_policy_word-requires
is_policy_word-requires c = rw (rest_of c.args.state.now 8) (store_held _ _ c.requires).policy
