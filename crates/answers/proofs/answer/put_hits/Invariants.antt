-- The area holds the lines of the hits before i, and what is left is the lines of those from i on: together the whole.
use Rattle.rights.specs.Marks.{marks_of, keep}
use Rattle.answers.proofs.AnswerLaws.{Toward}
use Rattle.answers.specs.Answer.{hit_lines}
use Rattle.rights.specs.How.Seen.{nodes_in}
use lib.ListN.{length, drop}
use mathlib.Core.Path.{◌≡◌}
use Prim.Native.Nat.{◌≤◌, ◌*◌}
use Rattle.answers.proofs.answer.put_hits.Given as goal

abbrev pub invariant-loop-i : goal.invariant-loop-i
invariant-loop-i l = record {
  end : l.at ≤ 52 * l.i;
  same : length l.area ≡ length l.initial.area;
  put : Toward (hit_lines (keep (marks_of l.marks) (nodes_in l.shown))) (hit_lines (keep (marks_of (drop l.i l.marks)) (drop l.i (nodes_in l.shown)))) 0 l.initial.area l.area l.at;
}
