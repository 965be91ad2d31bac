use mathlib.Core.Path.{refl, ap, ◌∙◌}
use lib.ListN.{length}
use Rattle.views.proofs.TurnLaws.{depth}
use Rattle.views.proofs.WholeInsertionLaws.{fixed_same, starts, starts_between, ends}
use native.Mathlib.Omega.{arith}
use borrow.Author.Rules.{rules}
use Rattle.views.proofs.insert.Insertion.spread.Goals as goal

pub loop-at-init : goal.loop-at-init
loop-at-init c =
    let a = c.args in let x = a.self.now in (
      starts_between x.n x.gap a.up x.m x.tree.now x.marks.now a.t.now _ c.requires.under.0 c.requires.under.1 refl,
      refl,
      starts x.n x.gap a.up x.m x.tree.now x.marks.now a.t.now _,
    )

pub overflow_add-self : goal.overflow_add-self
overflow_add-self c =
    let a = c.args in let x = a.self.now in
    let l = c.loop-at in
    record { fits = omega (arith, depth x.n x.gap a.up x.m l.at.i l.at.d x.tree.now x.marks.now l.t l.at.levels l.invariant.0, c.requires.fixed.0.size) }

pub turn-requires : goal.turn-requires
turn-requires c =
    let a = c.args in let x = a.self.now in
    let l = c.loop-at in
    record {
      fixed = (fixed_same x.n x.gap x.m a.t.now l.t x.marks.now x.tree.now l.invariant.1 c.requires.fixed.0, c.requires.fixed.1);
      between = l.invariant.0;
      i_bound = (search rules, ap length l.invariant.2 ∙ c.requires.under.2);
    }

pub loop-at-preserved : goal.loop-at-preserved
loop-at-preserved c =
    let l = c.loop-at in
    let f = c.turn in
    (f.ensures.between_2, search rules, f.ensures.d_bound.1 ∙ l.invariant.2)

pub returns : goal.returns
returns c =
    let a = c.args in let x = a.self.now in
    let l = c.loop-at in
    ends x.n x.gap a.up x.m x.tree.now x.marks.now l.t l.at.levels l.at.i l.at.w l.at.d _ l.invariant.0.place (omega arith) l.invariant.2 c.requires.under.2
