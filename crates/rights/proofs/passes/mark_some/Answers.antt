use Prim.Native.Nat.{ℕ, suc, ◌+◌, ◌-◌, ◌<◌}
use mathlib.Core.Path.{◌≡◌, refl, ap, ◌∙◌}
use mathlib.Core.List.{List}
use mathlib.Core.Bool.{Bool, false, ◌&&◌, ◌||◌}
use native.Mathlib.Omega.{arith}
use borrow.Author.Tests.{eq-eqb, ne_eqb}
use lib.ListN.{length, get_or, length-set}
use lib.Dec.{eqb}
use Rattle.rights.specs.Path.{Axis, is_descendant}
use Rattle.rights.specs.Nodes.{Nodes}
use Rattle.rights.specs.How.Seen.{nodes_in}
use Rattle.rights.specs.How.Selection.{some_along, Marked}
use Rattle.rights.specs.Marks.{bit}
use Rattle.rights.proofs.PassLaws as laws
use Rattle.rights.proofs.passes.mark_some.Goals as goal
use Rattle.rights.proofs.passes.mark_some.Goals.{then-kept-i-eq1+in-Child, then-kept-i-eq1+in-Descendant, else-kept-i-eq1}

pub loop-i-init : goal.loop-i-init
loop-i-init c = (refl, (λ f p l h. let z : length c.args.marks.now ≡ length c.args.shown.now.numbers.now = omega arith in rw z (laws.none_left _ _ f _ l h)), λ f p k h u. absurd (omega arith))

pub loop-i-preserved : goal.loop-i-preserved
loop-i-preserved c =
    let t : Nodes = nodes_in c.args.shown.now in
    let N : ℕ = length c.args.shown.now.numbers.now in
    let i : ℕ = c.loop-i.i in
    let j : ℕ = c.loop-i.i - 1 in
    let inv = c.loop-i.invariant in
    let level : ℕ = c.level-level.result in
    let le = c.level-level.ensures in
    let g : List Bool = c.loop-i.flags in
    let b : List Bool = c.if-kept-i-eq1.flags in
    let axis : Axis = c.args.axis in
    let on : Bool = eqb (get_or c.args.kept.now j 0) 1 in
    let z : i ≡ suc j = omega arith in
    let raised : (length b ≡ 32) × ((l : ℕ) → l < 16 → get_or b l false ≡ (((is_descendant axis || eqb level l) && on) || get_or g l false)) =
    elim c.if-kept-i-eq1.branch [
      | then-kept-i-eq1+in-Child w ↦ let e = eq-eqb (get_or c.args.kept.now j 0) 1 w.if-kept-i-eq1.true in rw (e, w.flags-is) (simp length-set inv.0, λ l h. laws.raised_one level axis g l w.in-Child.is (omega arith))
      | then-kept-i-eq1+in-Descendant w ↦ let e = eq-eqb (get_or c.args.kept.now j 0) 1 w.if-kept-i-eq1.true in rw (e, w.flags-is) (refl, λ l h. laws.raised_all level axis g l w.in-Descendant.is h)
      | else-kept-i-eq1 w ↦ let e = ne_eqb (get_or c.args.kept.now j 0) 1 w.if-kept-i-eq1.false in rw (e, w.flags-is) (inv.0, λ l h. laws.raised_none level axis g l)
    ] in
    let down = laws.filled false false b (level + 1) (level + 17) (omega arith) (omega arith) c.fill.new.self c.fill.ensures.after in (
      down.size ∙ raised.0,
      (λ f p. laws.flags_turn t f N i j level axis g b _ on z (omega arith) le.0 (laws.mark_on c.args.kept.now f N j _ p (omega arith) refl) raised.1 down (inv.1 f p)),
      (λ f p. laws.marks_back c.loop-i.marks (some_along axis f t) N i j c.from.result z (omega arith) (c.from.ensures ∙ laws.byte_bit _ ∙ ap bit (laws.some_bits t axis f N i j level (get_or g (level + 1) false) (laws.view-length _ _) z le.0 (inv.1 f p (level + 1) (omega arith)))) (inv.2 f p)),
    )

pub returns : goal.returns
unfolding Marked
returns c = λ f p k h. c.loop-i.invariant.2 f p k (omega arith) h
