use Prim.Native.Nat.{ℕ, ◌+◌}
use mathlib.Core.Path.{refl, sym, ap, ◌∙◌}
use mathlib.Core.List.{List}
use mathlib.Core.Bool.{Bool}
use native.Mathlib.Omega.{arith}
use borrow.Author.Tests.{eq-eqb, ne_eqb}
use lib.ListN.{length, get_or, length-set}
use lib.Seq.{get_or-set_same}
use lib.Dec.{eqb}
use Rattle.rights.specs.Nodes.{Nodes}
use Rattle.rights.specs.How.Seen.{nodes_in}
use Rattle.rights.specs.How.Selection.{Marked}
use Rattle.rights.specs.Marks.{bit}
use Rattle.rights.proofs.PassLaws as laws
use Rattle.rights.proofs.passes.keep_rank.Goals as goal
use Rattle.rights.proofs.passes.keep_rank.Goals.{then-marks-i-eq1, else-marks-i-eq1}

pub loop-i-init : goal.loop-i-init
loop-i-init c = (refl, (λ l h. omega (arith, laws.zeros l 0 h refl)), (λ k h. refl), (λ f p l h. laws.no_count _ f l h), λ f p. laws.marked_none _ _)

pub overflow_add-counts-then-marks-i-eq1 : goal.overflow_add-counts-then-marks-i-eq1
overflow_add-counts-then-marks-i-eq1 c =
    let level : ℕ = c.level-level.result in
    let le = c.level-level.ensures in
    let g : List ℕ = c.loop-i.counts in
    let down = laws.filled 0 0 g _ _ (omega arith) (omega arith) c.fill.new.self c.fill.ensures.after in
    omega (arith, down.below level (omega arith), c.loop-i.invariant.1 level (omega arith), c.args.shown.now.fits.few)

pub loop-i-preserved : goal.loop-i-preserved
loop-i-preserved c =
    let t : Nodes = nodes_in c.args.shown.now in
    let N : ℕ = length c.args.shown.now.numbers.now in
    let a : List ℕ = c.args.marks.now in
    let m : List ℕ = c.loop-i.marks in
    let i : ℕ = c.loop-i.i in
    let inv = c.loop-i.invariant in
    let level : ℕ = c.level-level.result in
    let le = c.level-level.ensures in
    let g : List ℕ = c.loop-i.counts in
    let down = laws.filled 0 0 g (level + 1) (level + 17) (omega arith) (omega arith) c.fill.new.self c.fill.ensures.after in
    let size = down.size ∙ inv.0 in
    let small = laws.counts_small g _ i level down inv.1 in
    elim c.if-marks-i-eq1.branch [
      | then-marks-i-eq1 w ↦
          let on = λ (f : ℕ → Bool) (p : Marked a f N). sym (laws.mark_on a f N i (get_or m i 0) p (omega arith) (inv.2 i (omega arith))) ∙ eq-eqb (get_or m i 0) 1 w.if-marks-i-eq1.true in
          rw (w.marks-is, w.counts-is) (
            simp length-set size,
            laws.counts_small_more _ i level (omega arith) small (omega arith),
            laws.kept_more a m i _ inv.2,
            (λ f p. laws.counts_more t f i level le.0 g _ down size (omega arith) (inv.3 f p) (on f p)),
            λ f p. laws.marked_more m _ i _ (omega arith) (inv.4 f p)
                (w.from-then-marks-i-eq1.ensures ∙ laws.byte_bit _ ∙ ap (λ (k : ℕ). bit (eqb k c.args.want)) (w.from.ensures ∙ get_or-set_same _ level _ 0 (omega arith))
                ∙ laws.ranked_bits t f i level _ c.args.want le.0 (on f p) (laws.count_here t f i level le.0 g _ down size (omega arith) (inv.3 f p))),
          )
      | else-marks-i-eq1 w ↦
          let off = λ (f : ℕ → Bool) (p : Marked a f N). sym (laws.mark_on a f N i (get_or m i 0) p (omega arith) (inv.2 i (omega arith))) ∙ ne_eqb (get_or m i 0) 1 w.if-marks-i-eq1.false in
          rw (w.marks-is, w.counts-is) (
            size,
            (λ l h. let x = small l h in omega arith),
            (λ k h. inv.2 k (omega arith)),
            (λ f p. laws.counts_kept t f i level le.0 g _ down size (omega arith) (inv.3 f p) (off f p)),
            λ f p. laws.marked_next m _ i (inv.4 f p) (inv.2 i (omega arith) ∙ laws.marked_at a f N i p (omega arith) ∙ rw (off f p) refl),
          )
    ]

pub returns : goal.returns
returns c = λ f p. laws.marked_all _ _ _ _ (omega arith) (c.loop-i.invariant.4 f p)
