use Prim.Native.Nat.{◌+◌, ◌*◌}
use mathlib.Core.Path.{refl}
use Rattle.views.proofs.CopyLaws.{moved_down}
use Rattle.views.proofs.TurnLaws.{front-asks, front_done, front_same}
use borrow.Author.Rules.{rules}
use Rattle.views.proofs.insert.Insertion.step_front.Goals as goal

pub tree_in_front-p-requires : goal.tree_in_front-p-requires
tree_in_front-p-requires c =
    let a = c.args in
    let g = front-asks a.self.now.n a.self.now.gap a.self.now.m a.i a.w a.t.now a.self.now.marks.now a.self.now.tree.now c.requires.fixed c.requires.i_lt_n.0 c.requires.i_lt_n.1 c.requires.i_lt_n.2 _ refl in
    record { w_bound = g.0; m_bound = g.1 }

pub returns : goal.returns
returns c =
    let a = c.args in
    let f = c.tree_in_front-p in
    let g = c.move_record in
    let e = moved_down g.new.t f.new.t (4 + (a.self.now.gap + a.i) * 32) (4 + f.result * 32) 32 (search rules) g.ensures (search rules) in (
      front_done a.self.now.n a.self.now.gap a.self.now.m a.i a.w a.t.now a.self.now.marks.now a.self.now.tree.now c.requires.fixed c.requires.i_lt_n.0 c.requires.i_lt_n.1 c.requires.i_lt_n.2
          f.result f.new.t g.new.t (search rules) f.ensures.0 f.ensures.1 f.ensures.2 e.0 e.1,
      front_same a.self.now.n a.self.now.gap a.self.now.m a.i a.w a.t.now a.self.now.marks.now a.self.now.tree.now c.requires.fixed c.requires.i_lt_n.0 c.requires.i_lt_n.1 c.requires.i_lt_n.2
          f.result f.new.t g.new.t (search rules) f.ensures.0 f.ensures.1 f.ensures.2 e.0 e.1,
    )
