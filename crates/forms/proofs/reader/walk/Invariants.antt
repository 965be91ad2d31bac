-- i parts were passed of the line that the reader holds.
use mathlib.Core.Path.{◌≡◌}
use Rattle.forms.proofs.ReaderLaws.{Walked}
use Rattle.forms.proofs.reader.walk.Given as goal

abbrev pub invariant-loop-i : goal.invariant-loop-i
invariant-loop-i l = (l.r.line.now ≡ l.line) × Walked l.line l.initial.tree l.i l.r.progress l.tree
