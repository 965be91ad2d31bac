use mathlib.Core.Path.{refl, subst}
use Prim.Native.Nat.{ℕ, ◌<◌}
use native.Mathlib.Omega.{arith}
use lib.ListN.{length, get_or}
use Rattle.std.proofs.lemmas.List.{get_or-take}
use Rattle.rights.specs.How.Automaton.{chain_of}
use Rattle.rights.specs.How.Trial.{rules_in}
use Rattle.rights.proofs.EachLaws.{front-long, each_front}
use Rattle.rights.proofs.FiveRights.{ruled_zero}
use Rattle.rights.proofs.GroupLaws.{general_at, above_zero}
use Rattle.rights.proofs.groups.Trial.try_general.Goals as goal

pub returns-then-k-eq0 : goal.returns-then-k-eq0
returns-then-k-eq0 c =
    let a = c.args in
    let t = a.self.now in
    record { long = refl; at = λ i h. ruled_zero (rules_in t a.right) a.right (chain_of t.table.now i) 0 a.k _ c.if-k-eq0.true; rest = refl }

pub returns : goal.returns
returns c =
    let a = c.args in
    let t = a.self.now in
    let g = c.requires in
    let n = length t.numbers.now in
    let out = a.out.now in
    let above = above_zero a.k c.if-k-eq0.false in
    let r = c.rule_all.ensures in
    each_front n out c.rule_all.new.out g.3 _ _
    (λ i h. general_at a.right g.0 (rules_in t a.right) t.table.now i a.k (get_or out i 0)
    (subst (λ (x : ℕ). x < 256) (get_or-take n out i 0 h) (r.1 i (omega (arith, front-long n out out g.3)))) above (g.2 above)) r.0
