use mathlib.Core.Path.{sym, ◌∙◌}
use Rattle.views.proofs.TurnLaws.{depth, flush_asks, flush_gives, take-asks, take_gives}
use native.Mathlib.Omega.{arith}
use Rattle.views.proofs.insert.Insertion.turn.Goals as goal

pub is_due-requires : goal.is_due-requires
is_due-requires c =
    let a = c.args in let x = a.self.now in let p = a.at.now in
    omega (arith, depth x.n x.gap a.up x.m p.i p.d x.tree.now x.marks.now a.t.now p.levels c.requires.between, c.requires.between.room)

pub flush_tree-requires : goal.flush_tree-requires
flush_tree-requires c =
    let a = c.args in let x = a.self.now in let p = a.at.now in
    let g = flush_asks x.n x.gap a.up x.m p.i p.w p.d c.next_level-l.result a.t.now x.marks.now x.tree.now p.levels c.requires.fixed.0 c.requires.fixed.1 c.requires.between c.requires.i_bound.0 c.requires.i_bound.1 c.next_level-l.ensures (sym c.is_due.ensures ∙ c.if-is_due.true) in
    record { d_nonzero = g.0; d_bound = g.1 }

pub returns-then-is_due : goal.returns-then-is_due
returns-then-is_due c =
    let a = c.args in let x = a.self.now in let p = a.at.now in
    let f = c.flush_tree in
    let e = f.ensures.at_after in
    let g = flush_gives x.n x.gap a.up x.m p.i p.w p.d c.next_level-l.result a.t.now x.marks.now x.tree.now p.levels c.requires.fixed.0 c.requires.fixed.1 c.requires.between c.requires.i_bound.0 c.requires.i_bound.1 c.next_level-l.ensures (sym c.is_due.ensures ∙ c.if-is_due.true)
    f.new.t f.new.at.i f.new.at.w f.new.at.d (e.0, e.1, e.2, f.ensures.t_after.0, f.ensures.t_after.1) in
    record { between_2 = rw e.3 g.0; d_bound = rw e.3 g.1 }

pub take_record-requires : goal.take_record-requires
take_record-requires c =
    let a = c.args in let x = a.self.now in let p = a.at.now in
    take-asks x.n x.gap a.up x.m p.i p.w p.d c.next_level-l.result a.t.now x.marks.now x.tree.now p.levels c.requires.fixed.0 c.requires.fixed.1 c.requires.between c.requires.i_bound.0 c.requires.i_bound.1 c.next_level-l.ensures (sym c.is_due.ensures ∙ c.if-is_due.false)

pub returns-else-is_due : goal.returns-else-is_due
returns-else-is_due c =
    let a = c.args in let x = a.self.now in let p = a.at.now in
    let f = c.take_record in
    let g = take_gives x.n x.gap a.up x.m p.i p.w p.d c.next_level-l.result a.t.now x.marks.now x.tree.now p.levels c.requires.fixed.0 c.requires.fixed.1 c.requires.between c.requires.i_bound.0 c.requires.i_bound.1 c.next_level-l.ensures (sym c.is_due.ensures ∙ c.if-is_due.false)
    f.new.t f.new.at.i f.new.at.w f.new.at.d f.new.at.levels f.ensures.room (f.ensures.i_value, f.ensures.t_after) in
    record { between_2 = g.0; d_bound = g.1 }
