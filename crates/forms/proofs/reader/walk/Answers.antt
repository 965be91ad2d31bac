-- Each part is taken on the line that the reader holds.
use mathlib.Core.Path.{◌≡◌, refl, ap, ◌∙◌}
use Rattle.std.proofs.Common.{ℕ, List, Bor}
use native.Mathlib.Omega.{arith}
use Rattle.forms.proofs.ReaderLaws.{walk_starts, walk_on, walk_stops, walk_ends}
use Rattle.forms.proofs.reader.walk.Goals as goal

pub loop-i-init : goal.loop-i-init
loop-i-init c = (refl, walk_starts _ _ _ c.in_ok-progress.ensures)

pub take-requires : goal.take-requires
take-requires c = let e = c.loop-i.invariant.0 in let w = c.loop-i.invariant.1 in rw e (w.reading, omega arith, omega (arith, c.requires, w.size))

pub returns-in_err-r : goal.returns-in_err-r
returns-in_err-r c =
    let e = c.loop-i.invariant.0 in
    rw c.from_residual-in_err-r.ensures (walk_stops c.loop-i.invariant.1 _ (rw e at c.in_err-r.ensures.moves))

pub loop-i-preserved : goal.loop-i-preserved
loop-i-preserved c =
    let e = c.loop-i.invariant.0 in
    (ap (λ (l : Bor (List ℕ)). l.now) (c.in_ok-r.ensures.line _ refl) ∙ e, walk_on c.loop-i.invariant.1 _ _ (rw e at c.in_ok-r.ensures.moves) c.take.auto.tree)

pub returns : goal.returns
returns c =
    let e = c.loop-i.invariant.0 in
    let four : c.loop-i.i ≡ 4 = omega arith in
    walk_ends _ _ _ _ (rw four at c.loop-i.invariant.1) _ (rw e at c.pass_close.ensures)
