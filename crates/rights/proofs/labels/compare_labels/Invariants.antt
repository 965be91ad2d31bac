-- The labels are as long, and what is left of them decides.
use mathlib.Core.Path.{◌≡◌}
use lib.ListN.{length}
use Rattle.rights.specs.How.Vocabulary.{label_order}
use Rattle.rights.proofs.LabelLaws.{rest}
use Rattle.rights.proofs.labels.compare_labels.Given as goal

abbrev pub invariant-loop-i : goal.invariant-loop-i
invariant-loop-i l = (length l.a ≡ length l.b) × (label_order l.a l.b ≡ rest l.a l.b l.i)
