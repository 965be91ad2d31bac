use Prim.Native.Nat.{◌+◌, ◌*◌}
use mathlib.Core.List.{List}
use Prim.Native.Nat.{ℕ}
use Rattle.rights.specs.Table.{rec_at}
use mathlib.Core.Bool.{false}
use mathlib.Core.Path.{refl}
use native.Mathlib.Omega.{arith}
use Rattle.rights.specs.Policy.{some, uses}
use Rattle.rights.specs.PolicyBytes.{steps_at, steps_from, step_of}
use Rattle.rights.proofs.PolicyWords.{steps_last}
use Rattle.rights.proofs.VocabularyLaws.{adds_none, adds_then}
use Rattle.rights.proofs.vocabulary.WordList.add_rule.Goals as goal

pub loop-j-init : goal.loop-j-init
loop-j-init c = adds_none c.args.self.now 0 _ (λ x. unfold some steps_from in refl)

pub loop-j-preserved : goal.loop-j-preserved
loop-j-preserved c =
    let w = c.args.self.now in
    let l = c.loop-j in
    adds_then w l.self c.add_step.new.self l.j 1 (l.j + 1) _ _ (λ (p x : List ℕ). uses false x (step_of (rec_at p (steps_at c.args.k + l.j * 32))))
    (λ x. steps_last w.policy.now (uses false x) (steps_at c.args.k) l.j) (omega arith) l.invariant c.add_step.ensures
