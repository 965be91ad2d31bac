use Prim.Native.Nat.{ℕ, ◌+◌, ◌*◌}
use native.Mathlib.Omega.{arith}
use Rattle.xml.specs.How.Scan.{window}
use Rattle.xml.proofs.WindowLaws.{matched_first, matched_next, matched_none, matched_last}
use Rattle.xml.proofs.document.matches_below.Goals as goal

pub loop-k-init : goal.loop-k-init
loop-k-init c = matched_first c.args.xml.now c.args.deepest

pub loop-k-preserved : goal.loop-k-preserved
loop-k-preserved c =
    let k : ℕ = c.loop-k.k in
    matched_next c.args.xml.now c.args.deepest ((k + 1) * window) _ c.scan.ensures (k * window) (omega arith) c.loop-k.invariant c.if-is_none.ensures

pub returns-then-is_none : goal.returns-then-is_none
returns-then-is_none c = matched_none c.args.xml.now c.args.deepest ((c.loop-k.k + 1) * window) _ c.scan.ensures c.if-is_none.ensures

pub returns : goal.returns
returns c = matched_last c.args.xml.now c.args.deepest (c.loop-k.k * window) (omega arith) (omega arith) c.loop-k.invariant
