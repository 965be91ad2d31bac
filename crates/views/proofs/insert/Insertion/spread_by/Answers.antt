use lib.ListN.{length}
use mathlib.Core.Path.{ap, sym, subst, ◌∙◌}
use Rattle.views.specs.declared.insert.Place.{Place}
use Rattle.rights.specs.Table.{level}
use Rattle.views.proofs.WholeInsertionLaws.{is-append, is-after}
use native.Mathlib.Omega.{arith}
use Rattle.views.specs.Change.{placed, lower}
use Rattle.rights.specs.Marks.{marks_of}
use Rattle.views.specs.How.Pass.{rest, AtDone, Shallow}
use Rattle.views.proofs.insert.Insertion.spread_by.Goals as goal

pub spread-requires : goal.spread-requires
spread-requires c =
    let a = c.args in
    record { fixed = (c.requires.fixed, omega arith); under = (c.requires.under.0, subst (λ (z : Place). AtDone (λ r. Shallow (lower z) a.self.now.m a.self.now.tree.now (level r)) (marks_of a.self.now.marks.now) (rest a.self.now.n a.self.now.gap 0 a.t.now)) c.in-Append.is c.requires.under.1, ap length (is-append a.self.now.m a.self.now.tree.now a.self.now.marks.now (rest a.self.now.n a.self.now.gap 0 a.t.now)) ∙ ap (λ (z : Place). length (placed z a.self.now.m a.self.now.tree.now (marks_of a.self.now.marks.now) (rest a.self.now.n a.self.now.gap 0 a.t.now))) (sym c.in-Append.is) ∙ c.requires.under.2) }

pub spread-requires-in-After : goal.spread-requires-in-After
spread-requires-in-After c =
    let a = c.args in
    record { fixed = (c.requires.fixed, omega arith); under = (c.requires.under.0, subst (λ (z : Place). AtDone (λ r. Shallow (lower z) a.self.now.m a.self.now.tree.now (level r)) (marks_of a.self.now.marks.now) (rest a.self.now.n a.self.now.gap 0 a.t.now)) c.in-After.is c.requires.under.1, ap length (is-after a.self.now.m a.self.now.tree.now a.self.now.marks.now (rest a.self.now.n a.self.now.gap 0 a.t.now)) ∙ ap (λ (z : Place). length (placed z a.self.now.m a.self.now.tree.now (marks_of a.self.now.marks.now) (rest a.self.now.n a.self.now.gap 0 a.t.now))) (sym c.in-After.is) ∙ c.requires.under.2) }

pub spread_front-requires : goal.spread_front-requires
spread_front-requires c =
    let a = c.args in
    record { fixed = c.requires.fixed; at_done = (subst (λ (z : Place). AtDone (λ r. Shallow (lower z) a.self.now.m a.self.now.tree.now (level r)) (marks_of a.self.now.marks.now) (rest a.self.now.n a.self.now.gap 0 a.t.now)) c.in-Before.is c.requires.under.1, ap (λ (z : Place). length (placed z a.self.now.m a.self.now.tree.now (marks_of a.self.now.marks.now) (rest a.self.now.n a.self.now.gap 0 a.t.now))) (sym c.in-Before.is) ∙ c.requires.under.2) }

pub returns-in-Append : goal.returns-in-Append
returns-in-Append c =
    let a = c.args in
    c.spread.ensures ∙ is-append a.self.now.m a.self.now.tree.now a.self.now.marks.now (rest a.self.now.n a.self.now.gap 0 a.t.now) ∙ ap (λ (z : Place). placed z a.self.now.m a.self.now.tree.now (marks_of a.self.now.marks.now) (rest a.self.now.n a.self.now.gap 0 a.t.now)) (sym c.in-Append.is)

pub returns-in-After : goal.returns-in-After
returns-in-After c =
    let a = c.args in
    c.spread-in-After.ensures ∙ is-after a.self.now.m a.self.now.tree.now a.self.now.marks.now (rest a.self.now.n a.self.now.gap 0 a.t.now) ∙ ap (λ (z : Place). placed z a.self.now.m a.self.now.tree.now (marks_of a.self.now.marks.now) (rest a.self.now.n a.self.now.gap 0 a.t.now)) (sym c.in-After.is)

pub returns-in-Before : goal.returns-in-Before
returns-in-Before c =
    let a = c.args in
    c.spread_front.ensures ∙ ap (λ (z : Place). placed z a.self.now.m a.self.now.tree.now (marks_of a.self.now.marks.now) (rest a.self.now.n a.self.now.gap 0 a.t.now)) (sym c.in-Before.is)
