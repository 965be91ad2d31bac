use Prim.Native.Nat.{ℕ, ◌+◌, ◌-◌}
use mathlib.Core.Path.{◌≡◌, refl, sym, ap, ◌∙◌}
use mathlib.Core.Bool.{true}
use mathlib.Core.List.{List}
use native.Mathlib.Omega.{arith}
use lib.ListN.{length, get_or}
use Rattle.rights.specs.Bytes.{digit_byte}
use Rattle.rights.specs.PathReader.{run_at}
use Rattle.rights.proofs.RunLaws.{run_end_lem, run-yes, run_no}
use Rattle.rights.proofs.PassLaws.{tens-start, tens_more, tens_four, number_more, number-none, digit_high}
use Rattle.forms.specs.How.Reader.{moved_to, part_at}
use Rattle.forms.proofs.PartLaws.{day_passed, day_long}
use Rattle.forms.proofs.kind.pass_day.Goals as goal

pub loop-i-init : goal.loop-i-init
loop-i-init c = (omega arith, refl, refl, tens-start c.args.at)

pub returns-then-not-digit_byte : goal.returns-then-not-digit_byte
returns-then-not-digit_byte c =
    let s : List ℕ = c.args.s.now in
    let i : ℕ = c.loop-i.i in
    let inv = c.loop-i.invariant in
    let stop : run_at digit_byte s i ≡ 0 = run_no digit_byte s i (omega arith) (sym c.digit_byte.ensures ∙ c.if-not-digit_byte.true) in
    day_passed s c.args.at _ i _ c.passed.ensures (sym (inv.2 ∙ number-none s _ i stop)) (record { is = omega arith; from = omega arith; to = omega arith }) (omega arith)

pub returns-then-i-at-ge-DAY_DIGITS : goal.returns-then-i-at-ge-DAY_DIGITS
returns-then-i-at-ge-DAY_DIGITS c =
    let s : List ℕ = c.args.s.now in
    let i : ℕ = c.loop-i.i in
    let more = run-yes digit_byte s i (omega arith) (sym c.digit_byte.ensures ∙ c.if-not-digit_byte.false) in
    day_long s c.args.at _ refl (omega arith)

pub with_digit-says-requires : goal.with_digit-says-requires
with_digit-says-requires c =
    (omega (arith, tens_four (c.loop-i.i - c.args.at) (omega arith)), sym c.digit_byte.ensures ∙ c.if-not-digit_byte.false)

pub loop-i-preserved : goal.loop-i-preserved
loop-i-preserved c =
    let s : List ℕ = c.args.s.now in
    let at : ℕ = c.args.at in
    let i : ℕ = c.loop-i.i in
    let n : ℕ = c.loop-i.says in
    let inv = c.loop-i.invariant in
    let dig : digit_byte (get_or s i 0) ≡ true = sym c.digit_byte.ensures ∙ c.if-not-digit_byte.false in
    let more = run-yes digit_byte s i (omega arith) dig in
    let z : i + 1 - at ≡ i - at + 1 = omega arith in (
      omega arith,
      omega arith,
      rw c.with_digit-says.ensures (inv.2 ∙ number_more s n i (omega arith) dig),
      rw (c.with_digit-says.ensures, z) (tens_more (i - at) n (get_or s i 0 - 48) inv.3 (omega (arith, digit_high _ dig))),
    )

pub returns : goal.returns
returns c =
    let s : List ℕ = c.args.s.now in
    let i : ℕ = c.loop-i.i in
    let inv = c.loop-i.invariant in
    let z : i ≡ length s = omega arith in
    let stop = run_end_lem digit_byte s i (omega arith) in
    day_passed s c.args.at _ i _ (c.passed-2.ensures ∙ ap (λ (e : ℕ). part_at (moved_to c.args.at e) c.loop-i.says) (sym z)) (sym (inv.2 ∙ number-none s _ i stop))
    (record { is = omega arith; from = omega arith; to = omega arith })
    (omega arith)
