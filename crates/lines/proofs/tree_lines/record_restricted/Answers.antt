use Prim.Native.Nat.{◌+◌}
use mathlib.Core.Path.{ap, ◌∙◌}
use borrow.Author.Tests.{lt-leb}
use Rattle.rights.specs.Labels.{same_label, restricted}
use Rattle.rights.proofs.TextLaws.{slice_part}
use Rattle.lines.proofs.TreeLineLaws.{label_part, label_long}
use Rattle.lines.proofs.tree_lines.record_restricted.Goals as goal

pub returns-then-n-le-LABEL_MAX : goal.returns-then-n-le-LABEL_MAX
returns-then-n-le-LABEL_MAX c =
    let a = c.args in
    c.is_restricted.ensures ∙ ap (λ x. same_label x restricted) (slice_part a.tree.now (a.at + 2) c.from-n.result ∙ label_part a.tree.now a.at _ c.requires c.from-n.ensures c.if-n-le-LABEL_MAX.true)

pub returns-else-n-le-LABEL_MAX : goal.returns-else-n-le-LABEL_MAX
returns-else-n-le-LABEL_MAX c =
    let a = c.args in
    lt-leb _ 24 c.if-n-le-LABEL_MAX.false ∙ label_long a.tree.now a.at _ c.requires c.from-n.ensures c.if-n-le-LABEL_MAX.false
