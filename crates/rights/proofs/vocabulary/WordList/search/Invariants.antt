-- The words before `low` stand before the label, and those from `high` on behind it.
use Prim.Native.Nat.{ℕ, ◌-◌, ◌≤◌, ◌<◌}
use mathlib.Core.Path.{◌≡◌}
use Rattle.rights.specs.Table.{rec_at, label}
use Rattle.rights.specs.How.Vocabulary.{label_order}
use Rattle.rights.specs.How.WordList.{word_in}
use Rattle.rights.proofs.vocabulary.WordList.search.Given as goal

abbrev pub invariant-loop-low : goal.invariant-loop-low
invariant-loop-low l = record {
  in_order : l.low ≤ l.high;
  within : l.high ≤ l.self.count;
  below : (j : ℕ) → j < l.low → label_order (word_in l.self j) (label (rec_at l.s l.at)) ≡ 0;
  above : (j : ℕ) → l.high ≤ j → j < l.self.count → label_order (word_in l.self j) (label (rec_at l.s l.at)) ≡ 2;
}

abbrev pub decreases-loop-low : goal.decreases-loop-low
decreases-loop-low l = l.high - l.low
