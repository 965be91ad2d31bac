-- The area holds i rows, and what is left is the other ones: together the whole.
use Prim.Native.Nat.{◌+◌, ◌*◌}
use mathlib.Core.Path.{◌≡◌}
use lib.ListN.{length, drop}
use Rattle.rights.specs.XPath.{each}
use Rattle.rights.specs.How.Seen.{nodes_in}
use Rattle.answers.specs.Sheet.{row, periods}
use Rattle.answers.proofs.AnswerLaws.{Toward}
use Rattle.answers.proofs.sheet.put_rows.Given as goal

abbrev pub invariant-loop-i : goal.invariant-loop-i
invariant-loop-i l = record {
  end : l.next ≡ l.at + 73 * l.i;
  same : length l.area ≡ length l.initial.area;
  put : Toward (each (row l.room (nodes_in l.shown)) periods) (each (row l.room (nodes_in l.shown)) (drop l.i periods)) l.at l.initial.area l.area l.next;
}
