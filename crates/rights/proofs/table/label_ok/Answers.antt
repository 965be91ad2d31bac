use Prim.Native.Nat.{ℕ, ◌+◌, ◌-◌, ◌<◌, ◌≤◌}
use mathlib.Core.Bool.{Bool, true, false, ◌&&◌, and_comm}
use mathlib.Core.Path.{◌≡◌, refl, sym, ◌∙◌}
use mathlib.Core.List.{List}
use native.Mathlib.Omega.{arith}
use borrow.Author.Count.{below_more}
use borrow.Author.Tests.{ne_eqb, ltb-true, ltb-false}
use lib.Bits.{bit_or}
use lib.Dec.{eqb, ltb}
use lib.ListN.{length, take, drop}
use Rattle.rights.specs.Bytes.{all, is_zero}
use Rattle.rights.specs.Labels.{label_byte}
use Rattle.rights.proofs.BoolLaws.{both_ways}
use Rattle.rights.proofs.TableLaws.{both}
use Rattle.rights.proofs.LabelLaws.{faults_at, faultless_label, label_faultless}
use Rattle.rights.proofs.ListLaws.{by_case, or_zero}
use Rattle.rights.proofs.table.label_ok.Invariants.{Tells, Told}
use Rattle.rights.proofs.table.label_ok.Goals as goal

-- those of two places more
module _ (s : List ℕ) (n faults i x y : ℕ) (ex : x ≡ faults_at s n i) (ey : y ≡ faults_at s n (i + 8)) where
  none : eqb (bit_or (bit_or faults x) y) 0 ≡ ((eqb faults 0 && eqb (faults_at s n i) 0) && eqb (faults_at s n (i + 8)) 0)
  none = or_zero (bit_or faults x) y ∙ rw (or_zero faults x, ex, ey)

  tells_more : Tells s n faults i → Tells s n (bit_or (bit_or faults x) y) (i + 1)
  tells_more t e =
      let w = both _ _ (sym none ∙ e) in
      let v = both _ _ w.0 in
      below_more _ i (t v.0) (v.1, w.1)

  told_more : i + 8 < length s → Told s n faults → Told s n (bit_or (bit_or faults x) y)
  told_more h t f = none ∙ rw (t f, f i (omega arith), f (i + 8) h)

-- those of all 24, whatever else is tested
module _ (s : List ℕ) (n faults i : ℕ) (h : length s ≡ 24) (l : n ≤ 24) (d : 16 ≤ i) (t : Tells s n faults i) (u : Told s n faults) where
  all_told : eqb faults 0 ≡ (all label_byte (take n s) && all is_zero (drop n s))
  all_told =
      both_ways _ _
      (λ e. faultless_label s n (omega arith) (λ k b.
      by_case (ltb k 16)
      (λ q. (t e k (omega (arith, ltb-true k 16 q))).0)
      (λ q. let z : (k - 8) + 8 ≡ k = omega (arith, ltb-false k 16 q) in rw z at (t e (k - 8) (omega arith)).1)))
      (λ e. u (label_faultless s n (omega arith) e))

  told_with : (b : Bool) → (all label_byte (take n s) && (b && all is_zero (drop n s))) ≡ (eqb faults 0 && b)
  told_with b = rw all_told (swap (all label_byte (take n s)) b (all is_zero (drop n s)))
    where
      swap : (x y z : Bool) → x && (y && z) ≡ (x && z) && y
      swap true y z = and_comm y z
      swap false y z = refl

pub loop-i-init : goal.loop-i-init
loop-i-init c = ((λ e k h. absurd (omega arith)), (λ f. refl))

pub loop-i-preserved : goal.loop-i-preserved
loop-i-preserved c =
    let s = c.args.field.now in
    let n : ℕ = c.args.n in
    let at = c.loop-i in (
      tells_more s n at.faults at.i _ _ c.faults_of-faults.ensures c.faults_of-faults-in-loop-i.ensures at.invariant.0,
      told_more s n at.faults at.i _ _ c.faults_of-faults.ensures c.faults_of-faults-in-loop-i.ensures (omega arith) at.invariant.1,
    )

pub returns-then-faults-eq0 : goal.returns-then-faults-eq0
returns-then-faults-eq0 c =
    let a = c.args in
    let at = c.loop-i in
    rw (
      told_with a.field.now a.n at.faults at.i (omega arith) (omega arith) (omega arith) at.invariant.0 at.invariant.1,
      c.if-faults-eq0.true,
      c.is_restricted.ensures,
      c.from.ensures,
    )

pub returns-else-faults-eq0 : goal.returns-else-faults-eq0
returns-else-faults-eq0 c =
    let a = c.args in
    let at = c.loop-i in
    rw (told_with a.field.now a.n at.faults at.i (omega arith) (omega arith) (omega arith) at.invariant.0 at.invariant.1, ne_eqb at.faults 0 c.if-faults-eq0.false)
