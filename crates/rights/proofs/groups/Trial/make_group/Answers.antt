use Prim.Native.Nat.{suc, ◌+◌, ◌-◌}
use mathlib.Core.Path.{◌≡◌, refl}
use native.Mathlib.Omega.{arith}
use lib.ListN.{get_or-replicate}
use Rattle.rights.specs.PolicyBytes.{step_count, steps_at}
use Rattle.rights.specs.How.WordList.{word_in, number_in}
use Rattle.rights.specs.How.Trial.{policy_in, mine_in, rules_in}
use Rattle.rights.proofs.StateMaskLaws.{length-steps}
use Rattle.rights.proofs.VocabularyLaws.{number_low}
use Rattle.rights.proofs.GroupLaws.{group_none, size_more, size_within}
use Rattle.rights.proofs.groups.Trial.make_group.Goals as goal

pub loop-k-init : goal.loop-k-init
loop-k-init c =
    let a = c.args in
    let t = a.self.now in
    let w = t.words.now in
    let z : a.from - a.from ≡ 0 = omega arith in
    rw (z, c.requires.4) (group_none (number_in w) (mine_in t) (rules_in t a.right) a.right a.from _ refl (λ x. get_or-replicate 2113 (number_in w x) 0 0 (omega (arith, w.sorted.few, number_low (word_in w) w.count x))))

pub with_ruling-g-requires : goal.with_ruling-g-requires
with_ruling-g-requires c =
    let a = c.args in
    let t = a.self.now in
    let g = c.requires in
    let l = c.loop-k in
    let p = policy_in t in
    let q = rules_in t a.right in
    (omega arith, g.2, omega (arith, l.invariant.used_is, size_more q a.from l.k (step_count p l.k) l.auto.k (length-steps (mine_in t) p (steps_at l.k) (step_count p l.k) 0), size_within q a.from (l.k + 1) a.to (omega arith) (omega arith), g.3), l.invariant.packed.long)

pub loop-k-preserved : goal.loop-k-preserved
loop-k-preserved c =
    let a = c.args in
    let l = c.loop-k in
    let y : suc (l.k - a.from) ≡ l.k + 1 - a.from = omega arith in
    rw y at (c.with_ruling-g.ensures.0 a.from (l.k - a.from) (omega arith) l.invariant)
