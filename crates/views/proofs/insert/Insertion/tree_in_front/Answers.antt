use Prim.Native.Nat.{◌+◌, ◌-◌, ◌*◌}
use mathlib.Core.Path.{refl}
use lib.ListN.{get_or}
use Rattle.views.proofs.CopyLaws.{drop_more}
use Rattle.views.proofs.TurnLaws.{with_tree, no_tree}
use native.Mathlib.Omega.{arith}
use borrow.Author.Rules.{rules}
use Rattle.views.proofs.insert.Insertion.tree_in_front.Goals as goal

pub put_tree-requires : goal.put_tree-requires
put_tree-requires c =
    let r = c.requires.m_bound.0 c.if-self-i-ne0.true in
    (omega (arith, r), search rules, λ j h. omega (arith, c.requires.m_bound.1 c.if-self-i-ne0.true j h))

pub returns-then-self-i-ne0 : goal.returns-then-self-i-ne0
returns-then-self-i-ne0 c =
    let a = c.args in
    let f = c.put_tree in
    let z = c.if-self-i-ne0.true in
    let r = c.requires.m_bound.0 z in (
      r,
      with_tree (get_or a.self.now.marks.now a.i 0) a.l a.w a.self.now.m a.t.now f.new.t a.self.now.tree.now z f.ensures.0,
      drop_more (4 + (a.w + a.self.now.m) * 32) ((a.self.now.gap + a.i - (a.w + a.self.now.m)) * 32) f.new.t a.t.now (4 + (a.self.now.gap + a.i) * 32) (omega (arith, r)) f.ensures.1,
    )

pub returns : goal.returns
returns c =
    let a = c.args in
    (search rules, no_tree (get_or a.self.now.marks.now a.i 0) a.l a.w a.self.now.m a.t.now a.self.now.tree.now c.if-self-i-ne0.false, refl)
