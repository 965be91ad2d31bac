use Prim.Native.Nat.{ℕ, ◌+◌}
use mathlib.Core.List.{List}
use mathlib.Core.Path.{refl}
use native.Mathlib.Omega.{arith}
use Rattle.rights.specs.Labels.{same_label}
use Rattle.rights.specs.Policy.{some}
use Rattle.rights.specs.PolicyBytes.{name_at, names_from}
use Rattle.rights.proofs.PolicyWords.{names_last}
use Rattle.rights.proofs.VocabularyLaws.{adds_none, adds_then}
use Rattle.rights.proofs.policy.add_names.Goals as goal

pub loop-u-init : goal.loop-u-init
loop-u-init c = adds_none c.args.words.now 0 _ (λ x. unfold some names_from in refl)

pub loop-u-preserved : goal.loop-u-preserved
loop-u-preserved c =
    let w = c.args.words.now in
    let l = c.loop-u in
    adds_then w l.words c.add.new.self l.u 1 (l.u + 1) _ _ (λ (p x : List ℕ). same_label x (name_at p l.u))
    (λ x. names_last w.policy.now (same_label x) l.u) (omega arith) l.invariant c.add.ensures
