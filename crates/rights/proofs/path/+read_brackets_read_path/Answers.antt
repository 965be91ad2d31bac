use Rattle.std.proofs.Common.{ℕ, ◌+◌, ◌≡◌, sym, ◌∙◌, arith}
use mathlib.Core.Logic.{⊎_elim}
use native.Mathlib.Nat.{pos_of_ne-zero}
use borrow.Author.Tests.{eqb-true, eqb-false}
use Rattle.rights.specs.Bytes.{byte_at}
use Rattle.rights.proofs.PathLaws.{bad_onward, at_onward, earlier, inside, no_step, step_on, step_read, steps_zero, steps_no_step, steps_no_brackets, steps_last, steps_next, brackets-none, brackets_many, brackets_deep, brackets_no_position, brackets_position, brackets_slash, brackets_no_path, brackets_open, brackets_path}
use Rattle.rights.proofs.path.+read_brackets_read_path.Goals as goal

pub read_brackets-returns-then-not-byte_is : goal.read_brackets-returns-then-not-byte_is
read_brackets-returns-then-not-byte_is t c =
    let a = c.args in
    at_onward _ _ _ (brackets-none a.s.now a.deep a.left a.at (eqb-false _ _ (sym c.byte_is.ensures ∙ c.if-not-byte_is.true))) (omega arith) (omega arith)

pub read_brackets-returns-then-left-eq0 : goal.read_brackets-returns-then-left-eq0
read_brackets-returns-then-left-eq0 t c =
    let a = c.args in
    let op : byte_at a.s.now a.at ≡ 91 = eqb-true _ _ (sym c.byte_is.ensures ∙ c.if-not-byte_is.false) in
    ⊎_elim
    (λ (z : a.left ≡ 0). bad_onward _ _ (rw z (brackets_many a.s.now a.deep a.at op)))
    (λ z. bad_onward _ _ (rw z.1 (brackets_deep a.s.now a.left a.at op)))
    c.then-left-eq0.either

pub read_brackets-overflow_add-inside : goal.read_brackets-overflow_add-inside
read_brackets-overflow_add-inside t c =
    let a = c.args in
    let l = inside a.s.now a.at 91 (omega arith) (eqb-true _ _ (sym c.byte_is.ensures ∙ c.if-not-byte_is.false)) in
    omega arith

pub read_brackets-returns-in_err-i : goal.read_brackets-returns-in_err-i
read_brackets-returns-in_err-i t c =
    let a = c.args in
    let op : byte_at a.s.now a.at ≡ 91 = eqb-true _ _ (sym c.byte_is.ensures ∙ c.if-not-byte_is.false) in
    let yes = sym c.is_position.ensures ∙ c.if-is_position.true in
    rw c.from_residual.ensures
    (bad_onward _ _ (brackets_no_position a.s.now a.deep a.left a.at op yes (sym c.read_position.ensures.is ∙ c.in_err-i.was)))

pub read_brackets-returns-then-is_position : goal.read_brackets-returns-then-is_position
read_brackets-returns-then-is_position t c =
    let a = c.args in
    let op : byte_at a.s.now a.at ≡ 91 = eqb-true _ _ (sym c.byte_is.ensures ∙ c.if-not-byte_is.false) in
    let pn = pos_of_ne-zero c.if-left-eq0.false in
    let pd = pos_of_ne-zero c.if-deep-eq0.false in
    let yes = sym c.is_position.ensures ∙ c.if-is_position.true in
    let i : ℕ = c.in_ok-i.i in
    let on = c.read_position.ensures.on i c.in_ok-i.was in
    earlier _ _ _ (brackets_position a.s.now a.deep a.left a.at i pd pn op yes (sym c.read_position.ensures.is ∙ c.in_ok-i.was)) (omega arith) c.read_brackets.ensures

pub read_brackets-returns-then-byte_is : goal.read_brackets-returns-then-byte_is
read_brackets-returns-then-byte_is t c =
    let a = c.args in
    let op : byte_at a.s.now a.at ≡ 91 = eqb-true _ _ (sym c.byte_is.ensures ∙ c.if-not-byte_is.false) in
    let no = sym c.is_position.ensures ∙ c.if-is_position.false in
    bad_onward _ _ (brackets_slash a.s.now a.deep a.left a.at op no (eqb-true _ _ (sym c.byte_is-2.ensures ∙ c.if-byte_is.true)))

pub read_brackets-returns-in_err-j : goal.read_brackets-returns-in_err-j
read_brackets-returns-in_err-j t c =
    let a = c.args in
    let op : byte_at a.s.now a.at ≡ 91 = eqb-true _ _ (sym c.byte_is.ensures ∙ c.if-not-byte_is.false) in
    let no = sym c.is_position.ensures ∙ c.if-is_position.false in
    let sl : (byte_at a.s.now (a.at + 1) ≡ 47 → ⊥) = eqb-false _ _ (sym c.byte_is-2.ensures ∙ c.if-byte_is.false) in
    rw c.from_residual-in_err-j.ensures
    (bad_onward _ _ (brackets_no_path a.s.now a.deep a.left a.at op no sl (sym c.read_path.ensures.is ∙ c.in_err-j.was)))

pub read_brackets-returns-then-not-byte_is-2 : goal.read_brackets-returns-then-not-byte_is-2
read_brackets-returns-then-not-byte_is-2 t c =
    let a = c.args in
    let op : byte_at a.s.now a.at ≡ 91 = eqb-true _ _ (sym c.byte_is.ensures ∙ c.if-not-byte_is.false) in
    let no = sym c.is_position.ensures ∙ c.if-is_position.false in
    let sl : (byte_at a.s.now (a.at + 1) ≡ 47 → ⊥) = eqb-false _ _ (sym c.byte_is-2.ensures ∙ c.if-byte_is.false) in
    bad_onward _ _ (brackets_open a.s.now a.deep a.left a.at c.in_ok-j.j op no sl (sym c.read_path.ensures.is ∙ c.in_ok-j.was) (eqb-false _ _ (sym c.byte_is-3.ensures ∙ c.if-not-byte_is-2.true)))

pub read_brackets-returns : goal.read_brackets-returns
read_brackets-returns t c =
    let a = c.args in
    let op : byte_at a.s.now a.at ≡ 91 = eqb-true _ _ (sym c.byte_is.ensures ∙ c.if-not-byte_is.false) in
    let pn = pos_of_ne-zero c.if-left-eq0.false in
    let pd = pos_of_ne-zero c.if-deep-eq0.false in
    let no = sym c.is_position.ensures ∙ c.if-is_position.false in
    let sl : (byte_at a.s.now (a.at + 1) ≡ 47 → ⊥) = eqb-false _ _ (sym c.byte_is-2.ensures ∙ c.if-byte_is.false) in
    let j : ℕ = c.in_ok-j.j in
    let close : byte_at a.s.now j ≡ 93 = eqb-true _ _ (sym c.byte_is-3.ensures ∙ c.if-not-byte_is-2.false) in
    let on = c.read_path.ensures.on j c.in_ok-j.was in
    earlier _ _ _ (brackets_path a.s.now a.deep a.left a.at j pd pn op no sl (sym c.read_path.ensures.is ∙ c.in_ok-j.was) close) (omega arith) c.read_brackets-2.ensures

pub read_path-returns-then-left-eq0 : goal.read_path-returns-then-left-eq0
read_path-returns-then-left-eq0 t c =
    let a = c.args in
    bad_onward _ _ (rw c.if-left-eq0.true (steps_zero a.s.now a.deep a.at))

pub read_path-returns-in_err-step : goal.read_path-returns-in_err-step
read_path-returns-in_err-step t c =
    let a = c.args in
    rw c.from_residual.ensures
    (bad_onward _ _ (steps_no_step a.s.now a.deep a.left a.at (no_step a.s.now a.at c.read_step.result c.read_step.ensures c.in_err-step.was)))

pub read_path-returns-in_err-j : goal.read_path-returns-in_err-j
read_path-returns-in_err-j t c =
    let a = c.args in
    let i : ℕ = c.in_ok-step.step.end in
    let ei = step_read a.s.now a.at c.read_step.result c.read_step.ensures _ _ i c.in_ok-step.was in
    rw c.from_residual-in_err-j.ensures
    (bad_onward _ _ (steps_no_brackets a.s.now a.deep a.left a.at i ei (sym c.read_brackets.ensures.is ∙ c.in_err-j.was)))

pub read_path-overflow_add-j : goal.read_path-overflow_add-j
read_path-overflow_add-j t c =
    let l = inside c.args.s.now c.in_ok-j.j 47 (omega arith) (eqb-true _ _ (sym c.byte_is.ensures ∙ c.if-byte_is.true)) in
    omega arith

pub read_path-returns-then-byte_is : goal.read_path-returns-then-byte_is
read_path-returns-then-byte_is t c =
    let a = c.args in
    let pos = pos_of_ne-zero c.if-left-eq0.false in
    let i : ℕ = c.in_ok-step.step.end in
    let ei = step_read a.s.now a.at c.read_step.result c.read_step.ensures _ _ i c.in_ok-step.was in
    let hi = step_on a.s.now a.at c.read_step.result c.read_step.ensures _ _ i c.in_ok-step.was in
    let j : ℕ = c.in_ok-j.j in
    let hj = c.read_brackets.ensures.on j c.in_ok-j.was in
    earlier _ _ _ (steps_next a.s.now a.deep a.left a.at i j pos ei (sym c.read_brackets.ensures.is ∙ c.in_ok-j.was) (eqb-true _ _ (sym c.byte_is.ensures ∙ c.if-byte_is.true))) (omega arith) c.read_path.ensures

pub read_path-returns : goal.read_path-returns
read_path-returns t c =
    let a = c.args in
    let pos = pos_of_ne-zero c.if-left-eq0.false in
    let i : ℕ = c.in_ok-step.step.end in
    let ei = step_read a.s.now a.at c.read_step.result c.read_step.ensures _ _ i c.in_ok-step.was in
    let hi = step_on a.s.now a.at c.read_step.result c.read_step.ensures _ _ i c.in_ok-step.was in
    let j : ℕ = c.in_ok-j.j in
    let hj = c.read_brackets.ensures.on j c.in_ok-j.was in
    at_onward _ _ _ (steps_last a.s.now a.deep a.left a.at i j pos ei (sym c.read_brackets.ensures.is ∙ c.in_ok-j.was) (eqb-false _ _ (sym c.byte_is.ensures ∙ c.if-byte_is.false))) (omega arith) (omega arith)
