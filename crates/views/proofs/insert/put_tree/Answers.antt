use Prim.Native.Nat.{◌+◌, ◌*◌}
use mathlib.Core.Path.{refl, ◌∙◌}
use Rattle.views.proofs.CopyLaws.{drop_more}
use Rattle.views.proofs.RecordBytes.{tree_none, tree_more}
use native.Mathlib.Omega.{arith}
use borrow.Author.Rules.{rules}
use Rattle.views.proofs.insert.put_tree.Goals as goal

pub loop-j-init : goal.loop-j-init
loop-j-init c =
    let a = c.args in
    (refl, tree_none a.w a.k a.t.now a.tree.now, refl)

pub loop-j-preserved : goal.loop-j-preserved
loop-j-preserved c =
    let a = c.args in
    let l = c.loop-j in
    let p = c.put_raised in (
      search rules,
      tree_more a.w a.k l.j a.t.now l.t p.new.t a.tree.now (omega arith) l.invariant.1 p.ensures.0,
      drop_more (4 + (a.w + l.j) * 32 + 32) 0 p.new.t a.t.now (4 + (a.w + (l.j + 1)) * 32) (omega arith)
          (p.ensures.1 ∙ drop_more (4 + (a.w + l.j) * 32) 32 l.t a.t.now (4 + (a.w + l.j) * 32 + 32) (omega arith) l.invariant.2),
    )
