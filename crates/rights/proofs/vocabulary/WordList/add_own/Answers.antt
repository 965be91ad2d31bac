use Prim.Native.Nat.{◌+◌}
use mathlib.Core.List.{List}
use Prim.Native.Nat.{ℕ}
use lib.ListN.{get_or}
use native.Mathlib.Omega.{arith}
use Rattle.rights.specs.Labels.{same_label}
use Rattle.rights.specs.PolicyBytes.{name_at}
use Rattle.rights.proofs.OwnNames.{names_more, names_none}
use Rattle.rights.proofs.VocabularyLaws.{adds_none, adds_then}
use Rattle.rights.proofs.vocabulary.WordList.add_own.Goals as goal

pub loop-u-init : goal.loop-u-init
loop-u-init c = adds_none c.args.self.now 0 _ (names_none c.args.self.now.policy.now c.args.own.now)

pub loop-u-preserved : goal.loop-u-preserved
loop-u-preserved c =
    let w = c.args.self.now in
    let own = c.args.own.now in
    let l = c.loop-u in
    adds_then w l.self c.add.new.self l.u-index 1 (l.u-index + 1) _ _ (λ (p x : List ℕ). same_label x (name_at p (get_or own l.u-index 0)))
    (λ x. names_more w.policy.now own l.u-index x c.loop-u-test.true) (omega arith) l.invariant (rw c.from.ensures at c.add.ensures)
