use Prim.Native.Nat.{ℕ, ◌^◌, ◌<◌}
use mathlib.Core.Bool.{true}
use mathlib.Core.Path.{◌≡◌, refl, sym}
use native.Mathlib.Numerals.{add-one}
use native.Mathlib.Omega.{arith}
use lib.ListN.{length}
use Rattle.rights.specs.PolicyCheck.{bit_ok}
use Rattle.rights.specs.How.Groups.{by_first}
use Rattle.rights.proofs.BitLaws.{one_shl}
use Rattle.rights.proofs.EachLaws.{each_then}
use Rattle.rights.proofs.RangeLaws.{on_range}
use Rattle.rights.proofs.groups.Trial.try_rights.Goals as goal

pub loop-k-init : goal.loop-k-init
unfolding by_first
loop-k-init c = record { long = refl; at = λ i h. refl; rest = refl }

right-ok : (k : ℕ) → k < 5 → bit_ok (2 ^ k) ≡ true
unfolding bit_ok
right-ok k h = sym (on_range (λ j. bit_ok (2 ^ j)) true 0 5 tt k (omega arith) h)

pub try_asked-requires : goal.try_asked-requires
try_asked-requires c =
    (rw (one_shl 8 c.loop-k.k (omega arith)) (right-ok c.loop-k.k c.loop-k-test.true), omega (arith, c.requires, c.loop-k.invariant.long))

pub loop-k-preserved : goal.loop-k-preserved
unfolding by_first
loop-k-preserved c =
    rw add-one (each_then (length c.args.self.now.numbers.now) _ _ _ _ _ c.loop-k.invariant (rw (one_shl 8 c.loop-k.k (omega arith)) at c.try_asked.ensures))

pub returns : goal.returns
unfolding by_first
returns c =
    let e : c.loop-k.k ≡ 5 = omega arith in
    rw e at c.loop-k.invariant
