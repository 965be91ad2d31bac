use mathlib.Core.Path.{ap, ◌∙◌}
use lib.Dec.{eqb}
use Rattle.rights.proofs.LabelLaws.{label-order, is_one}
use Rattle.rights.proofs.labels.same_label.Goals as goal

pub returns : goal.returns
returns c =
    c.is_eq.ensures ∙ is_one c.compare_labels.result ∙ ap (λ k. eqb k 1) c.compare_labels.ensures ∙ label-order _ _
