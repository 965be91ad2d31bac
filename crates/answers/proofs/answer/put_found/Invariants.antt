-- No node before i is marked, so the first hit of all is the first of those from i on.
use Rattle.rights.specs.Marks.{marks_of, keep}
use Rattle.rights.specs.How.Seen.{nodes_in}
use lib.ListN.{drop}
use mathlib.Core.Path.{◌≡◌}
use Rattle.answers.proofs.answer.put_found.Given as goal

abbrev pub invariant-loop-i : goal.invariant-loop-i
invariant-loop-i l = (l.area ≡ l.initial.area) × (keep (marks_of (drop l.i l.marks)) (drop l.i (nodes_in l.shown)) ≡ keep (marks_of l.marks) (nodes_in l.shown))
