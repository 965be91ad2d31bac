use Prim.Native.Nat.{◌-◌}
use mathlib.Core.Path.{◌≡◌, refl, sym, ◌∙◌}
use Rattle.views.proofs.RemovalLaws.{none_yet, done_all}
use Rattle.views.specs.How.Pass.{cut_level}
use borrow.Author.Rules.{rules}
use native.Mathlib.Omega.{arith}
use Rattle.views.proofs.remove.compact.Goals as goal

pub loop-i-init : goal.loop-i-init
loop-i-init c =
    let a = c.args in
    let z : a.n - 0 ≡ a.n = omega arith in
    (search rules, refl, rw z c.requires.2, none_yet a.n a.t.now a.marks.now c.requires.2)

pub loop-i-preserved : goal.loop-i-preserved
loop-i-preserved c =
    (search rules, search rules, c.step-kept.ensures.1, c.step-kept.ensures.2 ∙ c.loop-i.invariant.3)

pub returns : goal.returns
returns c =
    let a = c.args in
    let l = c.loop-i in
    (omega arith, sym (done_all a.n l.kept.w (cut_level l.kept.cut) l.t a.marks.now l.i (omega arith)) ∙ l.invariant.3)
