-- The area holds the text of the nodes before i, and what is left is the text of those from i on: together the whole.
use Rattle.answers.proofs.AnswerLaws.{Toward}
use Rattle.answers.specs.Answer.{child_lines}
use Rattle.rights.specs.How.Seen.{nodes_in}
use lib.ListN.{length, drop}
use mathlib.Core.Path.{◌≡◌}
use Prim.Native.Nat.{◌≤◌, ◌*◌, ◌+◌}
use Rattle.answers.proofs.answer.put_children.Given as goal

abbrev pub invariant-loop-i : goal.invariant-loop-i
invariant-loop-i l = record {
  end : l.next + 46 ≤ l.at + 46 * l.i;
  same : length l.area ≡ length l.initial.area;
  put : Toward (child_lines (drop 1 (nodes_in l.shown))) (child_lines (drop l.i (nodes_in l.shown))) l.at l.initial.area l.area l.next;
}
