use Prim.Native.Nat.{ℕ, ◌+◌, ◌-◌, ◌*◌, ◌^◌}
use mathlib.Core.Path.{◌≡◌, sym, ap, ◌∙◌}
use mathlib.Core.List.{List}
use native.Mathlib.Omega.{arith}
use borrow.Author.Tests.{le-leb, lt-leb}
use lib.ListN.{get_or, take, drop}
use Rattle.rights.specs.Labels.{label_byte}
use Rattle.rights.specs.PathReader.{run_at}
use Rattle.rights.proofs.RunLaws.{run_end_lem, run-yes, run_no}
use Rattle.forms.specs.How.Codes.{text_number, text_number_at}
use Rattle.forms.proofs.WordLaws.{number_letter, weightless, weighed, weight_most, next_weight_is, next_fits}
use Rattle.forms.proofs.word.pass_run.Goals as goal

pub loop-i-init : goal.loop-i-init
unfolding text_number
loop-i-init c =
    let at : ℕ = c.args.at in
    let z : at - at ≡ 0 = omega arith in
    (omega arith, omega arith, rw z, rw z (omega arith), (λ _. rw z, λ e. absurd (omega arith)))

pub returns-then-not-label_byte : goal.returns-then-not-label_byte
unfolding text_number_at
returns-then-not-label_byte c =
    let s : List ℕ = c.args.s.now in
    let at : ℕ = c.args.at in
    let i : ℕ = c.loop-i.i in
    let inv = c.loop-i.invariant in
    let stop : run_at label_byte s i ≡ 0 = run_no label_byte s i (omega arith) (sym c.label_byte.ensures ∙ c.if-not-label_byte.true) in
    let z : i - at ≡ run_at label_byte s at = omega arith in
    (record { is = omega arith; from = omega arith; to = omega arith }, rw (le-leb (run_at label_byte s at) 8 (omega arith)) (inv.2 ∙ ap (λ (n : ℕ). text_number (take n (drop at s))) z))

pub label_end-requires : goal.label_end-requires
label_end-requires c = omega arith

pub returns-then-weight-eq0 : goal.returns-then-weight-eq0
unfolding text_number_at
returns-then-weight-eq0 c =
    let s : List ℕ = c.args.s.now in
    let at : ℕ = c.args.at in
    let i : ℕ = c.loop-i.i in
    let inv = c.loop-i.invariant in
    let more = run-yes label_byte s i (omega arith) (sym c.label_byte.ensures ∙ c.if-not-label_byte.false) in
    let eight = weightless at i _ c.loop-i.auto.i inv.1 inv.4 c.if-weight-eq0.true (omega arith) in
    let end = c.label_end.ensures in
    (record { is = end.is ∙ inv.0; from = omega (arith, end.from); to = end.to }, rw (lt-leb (run_at label_byte s at) 8 (omega arith)))

pub lettered-number-requires : goal.lettered-number-requires
lettered-number-requires c =
    let at : ℕ = c.args.at in
    let i : ℕ = c.loop-i.i in
    let inv = c.loop-i.invariant in
    let few = weighed at i _ c.loop-i.auto.i inv.1 inv.4 c.if-weight-eq0.false in
    let is = inv.4.0 few in
    (omega arith, weight_most at i _ c.loop-i.auto.i inv.1 inv.4 few)

pub loop-i-preserved : goal.loop-i-preserved
loop-i-preserved c =
    let s : List ℕ = c.args.s.now in
    let at : ℕ = c.args.at in
    let i : ℕ = c.loop-i.i in
    let w : ℕ = c.loop-i.weight in
    let inv = c.loop-i.invariant in
    let more = run-yes label_byte s i (omega arith) (sym c.label_byte.ensures ∙ c.if-not-label_byte.false) in
    let few = weighed at i w c.loop-i.auto.i inv.1 inv.4 c.if-weight-eq0.false in
    let is = inv.4.0 few in
    let letter = c.type_inv.s i in
    let sum : c.lettered-number.result ≡ text_number (take (i - at) (drop at s)) + get_or s i 0 * 256 ^ (i - at) = c.lettered-number.ensures ∙ rw (is, inv.2) in (
      omega arith,
      omega arith,
      sum ∙ sym (number_letter s at i c.loop-i.auto.i (omega arith)),
      next_fits at i c.loop-i.auto.i (rw (← inv.2) at sum) inv.3 (omega (arith, letter)),
      rw c.next_weight-weight.ensures (next_weight_is at i w c.loop-i.auto.i inv.1 inv.4 few),
    )

pub returns : goal.returns
unfolding text_number_at
returns c =
    let s : List ℕ = c.args.s.now in
    let at : ℕ = c.args.at in
    let i : ℕ = c.loop-i.i in
    let inv = c.loop-i.invariant in
    let stop = run_end_lem label_byte s i (omega arith) in
    let z : i - at ≡ run_at label_byte s at = omega arith in
    (record { is = omega arith; from = omega arith; to = omega arith }, rw (le-leb (run_at label_byte s at) 8 (omega arith)) (inv.2 ∙ ap (λ (n : ℕ). text_number (take n (drop at s))) z))
