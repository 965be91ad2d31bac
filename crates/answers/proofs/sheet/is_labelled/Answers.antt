use Prim.Native.Nat.{ℕ}
use mathlib.Core.Path.{ap, ◌∙◌}
use mathlib.Core.List.{List}
use native.Mathlib.Omega.{arith}
use lib.ListN.{replicate}
use Rattle.rights.specs.Labels.{same_label}
use Rattle.rights.specs.Nodes.{label_at}
use Rattle.rights.specs.How.Seen.{nodes_in}
use Rattle.answers.proofs.SheetParts.{label-put}
use Rattle.answers.proofs.sheet.is_labelled.Goals as goal

pub returns : goal.returns
returns c =
    let a = c.args in
    let p = c.put_label-n.ensures in
    let e = label-put (label_at (nodes_in a.shown.now) a.i) (replicate {A = ℕ} 24 0) c.put_label-n.new.area c.put_label-n.result p.0 (omega (arith, p.1)) in
    c.same_label.ensures ∙ ap (λ (x : List ℕ). same_label x a.room.now) e
