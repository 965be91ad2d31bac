use Prim.Native.Nat.{ℕ, ◌+◌, ◌-◌, ◌≤◌, ◌<◌}
use mathlib.Core.Path.{◌≡◌, refl, sym, ◌∙◌}
use mathlib.Core.Bool.{true}
use mathlib.Core.List.{List}
use native.Mathlib.Omega.{arith}
use lib.ListN.{length, get_or}
use Rattle.rights.specs.Bytes.{digit_byte}
use Rattle.rights.specs.PathReader.{run_at}
use Rattle.rights.proofs.RunLaws.{run_end_lem, run-yes, run_no}
use Rattle.rights.proofs.PassLaws as laws
use Rattle.rights.proofs.passes.number_at.Goals as goal

-- one digit more
one_digit : (s : List ℕ) (at i n : ℕ) → at ≤ i → i < length s → digit_byte (get_or s i 0) ≡ true → i + run_at digit_byte s i ≡ at + run_at digit_byte s at
    → run_at digit_byte s at ≤ 4 → n < laws.tens (i - at)
    → (48 ≤ get_or s i 0) × (get_or s i 0 ≤ 57) × (n < 10000) × (i + 1 + run_at digit_byte s (i + 1) ≡ at + run_at digit_byte s at)
one_digit s at i n up h dig run four small =
    let lo = laws.digit_low _ dig in
    let hi = laws.digit_high _ dig in
    let more = run-yes digit_byte s i h dig in
    let most = laws.tens_four (i - at) (omega arith) in
    (lo, hi, omega arith, omega arith)

pub loop-i-init : goal.loop-i-init
loop-i-init c = (refl, refl, laws.tens-start c.args.at)

pub returns-then-not-digit_byte : goal.returns-then-not-digit_byte
returns-then-not-digit_byte c =
    let s : List ℕ = c.args.s.now in
    let l = c.loop-i in
    sym (l.invariant.1 ∙ laws.number-none s l.n l.i (run_no digit_byte s l.i (omega arith) (sym c.digit_byte.ensures ∙ c.if-not-digit_byte.true)))

pub overflow_mul-n : goal.overflow_mul-n
overflow_mul-n c =
    let l = c.loop-i in
    let d = one_digit c.args.s.now c.args.at l.i l.n (omega arith) (omega arith) (sym c.digit_byte.ensures ∙ c.if-not-digit_byte.false) l.invariant.0 c.requires.1 l.invariant.2 in
    omega arith

pub overflow_sub-s : goal.overflow_sub-s
overflow_sub-s c = laws.digit_low _ (sym c.digit_byte.ensures ∙ c.if-not-digit_byte.false)

pub overflow_add-n : goal.overflow_add-n
overflow_add-n c =
    let l = c.loop-i in
    let d = one_digit c.args.s.now c.args.at l.i l.n (omega arith) (omega arith) (sym c.digit_byte.ensures ∙ c.if-not-digit_byte.false) l.invariant.0 c.requires.1 l.invariant.2 in
    omega (arith, c.from.ensures)

pub loop-i-preserved : goal.loop-i-preserved
loop-i-preserved c =
    let s : List ℕ = c.args.s.now in
    let l = c.loop-i in
    let dig = sym c.digit_byte.ensures ∙ c.if-not-digit_byte.false in
    let d = one_digit s c.args.at l.i l.n (omega arith) (omega arith) dig l.invariant.0 c.requires.1 l.invariant.2 in
    let z : l.i + 1 - c.args.at ≡ l.i - c.args.at + 1 = omega arith in
    (d.3, l.invariant.1 ∙ laws.number_more s l.n l.i (omega arith) dig ∙ rw c.from.ensures refl, rw (z, c.from.ensures) (laws.tens_more (l.i - c.args.at) l.n (get_or s l.i 0 - 48) l.invariant.2 (omega arith)))

pub returns : goal.returns
returns c =
    let s : List ℕ = c.args.s.now in
    let l = c.loop-i in
    sym (l.invariant.1 ∙ laws.number-none s l.n l.i (run_end_lem digit_byte s l.i (omega arith)))
