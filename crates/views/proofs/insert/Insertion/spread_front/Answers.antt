use mathlib.Core.Path.{refl, ap, ◌∙◌}
use lib.ListN.{length}
use Rattle.views.proofs.WholeInsertionLaws.{fixed_same, starts_front, ends_front}
use native.Mathlib.Omega.{arith}
use borrow.Author.Rules.{rules}
use Rattle.views.proofs.insert.Insertion.spread_front.Goals as goal

pub loop-i-init : goal.loop-i-init
loop-i-init c =
    let a = c.args in
    (c.requires.at_done.0, refl, starts_front a.self.now.n a.self.now.gap a.self.now.m a.self.now.tree.now a.self.now.marks.now a.t.now)

pub step_front-w-requires : goal.step_front-w-requires
step_front-w-requires c =
    let a = c.args in
    let l = c.loop-i in record { fixed = fixed_same a.self.now.n a.self.now.gap a.self.now.m a.t.now l.t a.self.now.marks.now a.self.now.tree.now l.invariant.1 c.requires.fixed; i_lt_n = (search rules, l.invariant.0, ap length l.invariant.2 ∙ c.requires.at_done.1) }

pub loop-i-preserved : goal.loop-i-preserved
loop-i-preserved c =
    let l = c.loop-i in
    let f = c.step_front-w in
    (f.ensures.0, search rules, f.ensures.1 ∙ l.invariant.2)

pub returns : goal.returns
returns c =
    let a = c.args in
    let l = c.loop-i in
    ends_front a.self.now.n a.self.now.gap a.self.now.m a.self.now.tree.now a.self.now.marks.now l.t l.i l.w _ (omega arith) l.invariant.2 c.requires.at_done.1
