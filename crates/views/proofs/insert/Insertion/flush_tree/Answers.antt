use native.Mathlib.Omega.{arith}
use borrow.Author.Rules.{rules}
use Rattle.views.proofs.insert.Insertion.flush_tree.Goals as goal

pub put_tree-requires : goal.put_tree-requires
put_tree-requires c =
    (search rules, search rules, λ j h. omega (arith, c.requires.d_bound.2 j h))
