use Rattle.std.specs.Prelude.{Some}
use Rattle.std.proofs.Common.{ℕ, ◌+◌, refl, sym, ◌∙◌, ap, arith}
use Rattle.rights.proofs.PathLaws.{bad_onward, at_onward, position_long, position_zero, position_read, position_has}
use Rattle.rights.proofs.path.read_position.Goals.{else-e-at-le4-via-then-e-at-le4+else-s-at-ne48, else-e-at-le4-via-else-e-at-le4}
use Rattle.rights.proofs.path.read_position.Goals as goal

pub bounds-s-at : goal.bounds-s-at
bounds-s-at c = let h = position_has c.args.s.now c.args.at _ refl c.requires.1 in omega arith

pub returns-then-s-at-ne48 : goal.returns-then-s-at-ne48
returns-then-s-at-ne48 c =
    let s = c.args.s.now in
    let at : ℕ = c.args.at in
    let h = position_has s at _ refl c.requires.1 in
    at_onward _ _ _ (position_read s at _ refl (omega arith) c.if-s-at-ne48.true ∙ ap (λ (n : ℕ). Some (n + 1)) (sym c.digits_end-e.ensures.is)) (omega arith) (omega arith)

pub returns-else-e-at-le4 : goal.returns-else-e-at-le4
returns-else-e-at-le4 c =
    let s = c.args.s.now in
    let at : ℕ = c.args.at in
    elim c.else-e-at-le4.branch [
      | else-e-at-le4-via-then-e-at-le4+else-s-at-ne48 w ↦ bad_onward _ _ (position_zero s at _ refl w.if-s-at-ne48.false (omega arith))
      | else-e-at-le4-via-else-e-at-le4 w ↦ bad_onward _ _ (position_long s at _ refl (omega arith))
    ]
