use Rattle.std.specs.Prelude.{Some}
use Rattle.std.proofs.Common.{ℕ, ◌≤◌, ◌≡◌, length, refl, sym, ◌∙◌, ap, arith}
use borrow.Author.Tests.{ltb-false}
use Rattle.rights.specs.Bytes.{byte_at}
use Rattle.rights.proofs.PathLaws.{bad_onward, at_onward, test_end, test_any, test_own, test_none, test_long, test_label}
use Rattle.rights.proofs.path.read_test.Goals.{then-b-eq42-via-then-b-eq42, then-b-eq42-via-else-b-eq42+then-b-eq36}
use Rattle.rights.proofs.path.read_test.Goals as goal

pub returns-in_err-b : goal.returns-in_err-b
returns-in_err-b c =
    let l : length c.args.s.now ≤ c.args.at = ltb-false _ _ (sym c.in_err-b.ensures.lookup.0) in
    rw c.from_residual.ensures (bad_onward _ _ (test_end _ _ l))

pub returns-then-b-eq42 : goal.returns-then-b-eq42
returns-then-b-eq42 c =
    let read = c.in_ok-b.ensures.lookup.3 in
    let l = read.0 in
    let b : byte_at c.args.s.now c.args.at ≡ c.in_ok-b.field-0.now = sym (read.1 0) in
    elim c.then-b-eq42.branch [
      | then-b-eq42-via-then-b-eq42 w ↦ at_onward _ _ _ (test_any _ _ (b ∙ w.if-b-eq42.true)) (omega arith) (omega arith)
      | then-b-eq42-via-else-b-eq42+then-b-eq36 w ↦ at_onward _ _ _ (test_own _ _ (b ∙ w.if-b-eq36.true)) (omega arith) (omega arith)
    ]

pub returns-in_default : goal.returns-in_default
returns-in_default c =
    let b : byte_at c.args.s.now c.args.at ≡ c.in_ok-b.field-0.now = sym (c.in_ok-b.ensures.lookup.3.1 0) in
    bad_onward _ _ (test_none c.args.s.now c.args.at _ refl (rw b c.if-b-eq42.false) (rw b c.if-b-eq36.false) (omega arith))

pub returns-in_default-2 : goal.returns-in_default-2
returns-in_default-2 c =
    let b : byte_at c.args.s.now c.args.at ≡ c.in_ok-b.field-0.now = sym (c.in_ok-b.ensures.lookup.3.1 0) in
    bad_onward _ _ (test_long c.args.s.now c.args.at _ refl (rw b c.if-b-eq42.false) (rw b c.if-b-eq36.false) (omega arith))

pub returns-in-1-to-24 : goal.returns-in-1-to-24
returns-in-1-to-24 c =
    let s = c.args.s.now in
    let at : ℕ = c.args.at in
    let b : byte_at s at ≡ c.in_ok-b.field-0.now = sym (c.in_ok-b.ensures.lookup.3.1 0) in
    at_onward _ _ _ (test_label s at _ refl (rw b c.if-b-eq42.false) (rw b c.if-b-eq36.false) (omega arith) (omega arith) ∙ ap Some (sym c.label_end-e.ensures.is)) (omega arith) (omega arith)
