use Rattle.views.proofs.WholeInsertionLaws.{place_asks, filled}
use borrow.Author.Rules.{rules}
use Rattle.views.proofs.insert.Insertion.fill.Goals as goal

pub spread_by-requires : goal.spread_by-requires
spread_by-requires c =
    let a = c.args in
    let u = c.shift_up in
    let g = place_asks a.place a.self.now.n a.self.now.gap a.self.now.m a.t.now u.new.t a.self.now.marks.now a.self.now.tree.now c.requires.fixed u.ensures (search rules) c.requires.gap_bound.1 c.requires.gap_bound.2 c.requires.gap_bound.3 in
    record { fixed = g.0; under = g.1 }

pub returns : goal.returns
returns c =
    let a = c.args in
    let u = c.shift_up in
    let q = c.spread_by in
    let z = c.clear_from in
    let r = c.put_count in
    filled a.place a.self.now.n a.self.now.gap a.self.now.m a.t.now u.new.t a.self.now.marks.now a.self.now.tree.now c.requires.fixed u.ensures
    q.new.t z.new.t r.new.t (search rules) q.ensures z.ensures r.ensures
