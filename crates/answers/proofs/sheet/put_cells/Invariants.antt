-- The area holds the cells of the nodes before the next one, and what is left is the cells of those from it on: together the whole.
use Prim.Native.Nat.{ℕ, ◌+◌, ◌*◌}
use mathlib.Core.Path.{◌≡◌}
use mathlib.Core.List.{List, map}
use lib.ListN.{length, drop}
use Rattle.rights.specs.Nodes.{Nodes, label_at}
use Rattle.rights.specs.XPath.{each}
use Rattle.rights.specs.How.Seen.{nodes_in}
use Rattle.answers.specs.Sheet.{cell}
use Rattle.answers.specs.How.SheetParts.{place}
use Rattle.answers.proofs.AnswerLaws.{Toward}
use Rattle.answers.proofs.sheet.put_cells.Given as goal

abbrev pub texts : Nodes → ℕ → List ℕ
texts t i = cell (label_at t i)

abbrev pub invariant-loop-node : goal.invariant-loop-node
invariant-loop-node l = record {
  end : l.next ≡ l.at + 14 * l.node-index;
  same : length l.area ≡ length l.initial.area;
  put : Toward (each (texts (nodes_in l.shown)) (map (place (nodes_in l.shown)) l.nodes))
      (each (texts (nodes_in l.shown)) (drop l.node-index (map (place (nodes_in l.shown)) l.nodes))) l.at l.initial.area l.area l.next;
}
