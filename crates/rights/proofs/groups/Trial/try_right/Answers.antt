use Prim.Native.Nat.{ℕ, ◌-◌}
use mathlib.Core.Path.{◌≡◌, refl, ◌∙◌, ap}
use native.Mathlib.Omega.{arith}
use lib.ListN.{length}
use Rattle.rights.specs.How.Groups.{ruled}
use Rattle.rights.specs.How.Automaton.{chain_of}
use Rattle.rights.specs.How.Trial.{policy_in, rules_in}
use Rattle.rights.specs.PolicyBytes.{rule_count}
use Rattle.rights.proofs.FiveRights.{ruled_on, ruled_whole, ruled_zero}
use Rattle.rights.proofs.EachLaws.{each_then, each_alike}
use Rattle.rights.proofs.groups.Trial.try_right.Goals as goal

pub loop-k-init : goal.loop-k-init
loop-k-init c =
    let a = c.args in
    let t = a.self.now in
    let k = c.general_end-k.result in
    (omega arith, omega arith, record { long = refl; at = λ i h. ruled_zero (rules_in t a.right) a.right (chain_of t.table.now i) k (k - k) _ (omega arith); rest = refl })

pub loop-k-preserved : goal.loop-k-preserved
loop-k-preserved c =
    let a = c.args in
    let l = c.loop-k in
    let t = a.self.now in
    let n = length t.numbers.now in
    let from = c.general_end-k.result in
    let to = c.group_end-to.result in
    let e = c.group_end-to.ensures in
    let r = c.try_group.ensures in
    let q = rules_in t a.right in (
      omega (arith, e.0),
      omega (arith, e.1),
      each_alike n _ _
          (λ (i x : ℕ). ruled q a.right (chain_of t.table.now i) l.k (to - l.k) (ruled q a.right (chain_of t.table.now i) from (l.k - from) x))
          (λ (i x : ℕ). ruled q a.right (chain_of t.table.now i) from (to - from) x)
          (λ i x. ruled_on q a.right (chain_of t.table.now i) from l.k to x l.invariant.0 (omega (arith, e.0)))
          (each_then n _ _ _ _ _ l.invariant.2 r),
    )

pub returns : goal.returns
returns c =
    let a = c.args in
    let l = c.loop-k in
    let t = a.self.now in
    let n = length t.numbers.now in
    let from = c.general_end-k.result in
    let q = rules_in t a.right in
    let e : l.k ≡ rule_count (policy_in t) = omega arith in
    each_alike n _ _
    (λ (i x : ℕ). ruled q a.right (chain_of t.table.now i) from (l.k - from) (ruled q a.right (chain_of t.table.now i) 0 from x))
    (λ (i x : ℕ). ruled q a.right (chain_of t.table.now i) 0 (rule_count (policy_in t)) x)
    (λ i x. ruled_whole q a.right (chain_of t.table.now i) from l.k x l.invariant.0 ∙ ap (λ (m : ℕ). ruled q a.right (chain_of t.table.now i) 0 m x) e)
    (each_then n _ _ _ _ _ c.try_general.ensures l.invariant.2)
