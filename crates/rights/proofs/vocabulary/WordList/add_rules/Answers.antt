use Prim.Native.Nat.{◌+◌, ◌*◌}
use mathlib.Core.List.{List}
use Prim.Native.Nat.{ℕ}
use mathlib.Core.Bool.{false}
use mathlib.Core.Path.{refl}
use native.Mathlib.Omega.{arith}
use Rattle.rights.specs.Policy.{Rule, some, uses}
use Rattle.rights.specs.PolicyBytes.{rules_from, stored_path}
use Rattle.rights.proofs.PolicyWords.{rules_last}
use Rattle.rights.proofs.VocabularyLaws.{adds_none, adds_then}
use Rattle.rights.proofs.vocabulary.WordList.add_rules.Goals as goal

pub loop-k-init : goal.loop-k-init
loop-k-init c = adds_none c.args.self.now 0 _ (λ x. unfold some rules_from in refl)

pub loop-k-preserved : goal.loop-k-preserved
loop-k-preserved c =
    let w = c.args.self.now in
    let l = c.loop-k in
    adds_then w l.self c.add_rule.new.self (l.k * 16) 16 ((l.k + 1) * 16) _ _ (λ (p x : List ℕ). some (uses false x) (stored_path p l.k))
    (λ x. rules_last w.policy.now (λ (r : Rule). some (uses false x) r.path) l.k) (omega arith) l.invariant c.add_rule.ensures
