use Prim.Native.Nat.{◌-◌, ◌*◌}
use mathlib.Core.Path.{◌≡◌, ap}
use lib.ListN.{take}
use native.Mathlib.Omega.{arith}
use borrow.Author.Rules.{rules}
use Rattle.store.proofs.line.tree_of.Goals as goal

pub overflow_mul-end : goal.overflow_mul-end
overflow_mul-end c = search rules

pub slice_bounds-result-count : goal.slice_bounds-result-count
slice_bounds-result-count c = search rules

pub slice_bounds-result-start : goal.slice_bounds-result-start
slice_bounds-result-start c = search rules

pub slice_bounds-result-end : goal.slice_bounds-result-end
slice_bounds-result-end c = search rules

pub returns : goal.returns
returns c = let z : c.args.m * 32 - 0 ≡ c.args.m * 32 = omega arith in ap (λ n. take n c.args.tree.now) z
