-- The levels of the first k windows match, and those of the window behind them.
use Prim.Native.Nat.{◌*◌}
use Rattle.xml.specs.How.Scan.{window}
use Rattle.xml.proofs.WindowLaws.{Matched}
use Rattle.xml.proofs.document.matches_below.Given as goal

abbrev pub invariant-loop-k : goal.invariant-loop-k
invariant-loop-k l = Matched l.xml l.deepest (l.k * window)
