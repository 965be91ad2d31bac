use Prim.Native.Nat.{ℕ, ◌+◌}
use mathlib.Core.Path.{◌≡◌, refl, sym, ap, ◌∙◌}
use mathlib.Core.List.{List}
use mathlib.Core.Bool.{Bool, false, ◌&&◌, ◌||◌}
use native.Mathlib.Omega.{arith}
use borrow.Author.Tests.{eq-eqb, ne_eqb}
use lib.ListN.{length, get_or}
use lib.Dec.{eqb}
use Rattle.rights.specs.Path.{Axis, is_descendant}
use Rattle.rights.specs.Nodes.{Nodes}
use Rattle.rights.specs.How.Seen.{nodes_in}
use Rattle.rights.specs.Marks.{bit}
use Rattle.rights.proofs.PassLaws as laws
use Rattle.rights.proofs.passes.mark_under.Goals as goal
use Rattle.rights.proofs.passes.mark_under.Goals.{then-marks-i-eq1, else-marks-i-eq1+then-deep, else-marks-i-eq1+else-deep}

pub loop-i-init : goal.loop-i-init
loop-i-init c = (refl, (λ k h. refl), (λ f p l h. laws.nothing_above _ _ f l h), λ f p. laws.marked_none _ _)

pub loop-i-preserved : goal.loop-i-preserved
loop-i-preserved c =
    let t : Nodes = nodes_in c.args.shown.now in
    let N : ℕ = length c.args.shown.now.numbers.now in
    let a : List ℕ = c.args.marks.now in
    let m : List ℕ = c.loop-i.marks in
    let i : ℕ = c.loop-i.i in
    let inv = c.loop-i.invariant in
    let level : ℕ = c.level-level.result in
    let le = c.level-level.ensures in
    let g : List Bool = c.loop-i.flags in
    let axis : Axis = c.args.axis in
    let deep = sym c.is_descendant-deep.ensures in
    let v : Bool = c.if-marks-i-eq1.below in
    let next : v ≡ (eqb (get_or m i 0) 1 || (is_descendant axis && get_or g level false)) =
    elim c.if-marks-i-eq1.branch [
      | then-marks-i-eq1 w ↦ w.below-is ∙ rw (eq-eqb (get_or m i 0) 1 w.if-marks-i-eq1.true) refl
      | else-marks-i-eq1+then-deep w ↦ w.below-is ∙ rw (ne_eqb (get_or m i 0) 1 w.if-marks-i-eq1.false, deep ∙ w.if-deep.true) refl
      | else-marks-i-eq1+else-deep w ↦ w.below-is ∙ rw (ne_eqb (get_or m i 0) 1 w.if-marks-i-eq1.false, deep ∙ w.if-deep.false) w.if-deep.false
    ] in
    let down = laws.filled false v g (level + 1) (level + 17) (omega arith) (omega arith) c.fill.new.self c.fill.ensures.after in (
      down.size ∙ inv.0,
      laws.kept_more a m i _ inv.1,
      (λ f p. laws.above_more t f i level le.0 axis g _ v down (inv.2 f p) (omega arith) (next ∙ rw (laws.mark_on a f N i (get_or m i 0) p (omega arith) (inv.1 i (omega arith))) refl)),
      λ f p. laws.marked_more m _ i c.from.result (omega arith) (inv.3 f p) (c.from.ensures ∙ laws.byte_bit _ ∙ ap bit (inv.2 f p level (omega arith) ∙ rw le.0 refl)),
    )

pub returns : goal.returns
returns c = λ f p. laws.marked_all _ _ _ _ (omega arith) (c.loop-i.invariant.3 f p)
