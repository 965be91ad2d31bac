use Prim.Native.Nat.{◌≤◌}
use Prim.Native.Nat.{ℕ}
use mathlib.Core.Path.{◌≡◌, refl}
use mathlib.Core.Bool.{not, false}
use native.Mathlib.Omega.{arith}
use borrow.Author.Tests.{leb-true, not-false}
use lib.Dec.{leb}
use lib.ListN.{length-set}
use Rattle.rights.specs.Table.{day_ok}
use Rattle.rights.proofs.TableLaws.{both}
use Rattle.lines.specs.Work.{day_checks}
use Rattle.lines.proofs.RefusalLaws.{passed_ok, performs_refused, performs_short, performs_done}
use Rattle.lines.proofs.StateLaws.{store_held, day_put}
use Rattle.lines.proofs.session.set_day.Goals as goal

-- the day is one of the year
day_some : (d : ℕ) → not (day_ok d) ≡ false → (1 ≤ d) × (d ≤ 366)
day_some d e = let w = both (leb 1 d) (leb d 366) (not-false (day_ok d) e) in (leb-true 1 d w.0, leb-true d 366 w.1)

pub returns-in_err-day_refusal : goal.returns-in_err-day_refusal
returns-in_err-day_refusal c = performs_refused _ _ _ c.day_refusal.ensures c.in_err-day_refusal.was c.from_residual.result c.from_residual.ensures.1

pub returns-in_err-area_refusal : goal.returns-in_err-area_refusal
returns-in_err-area_refusal c =
    let a = c.args in
    performs_short _ _ _ (passed_ok (day_checks a.day) refl c.day_refusal.ensures c.in_ok-day_refusal.was) c.answer_ok-need.ensures c.area_refusal.ensures c.in_err-area_refusal.was c.from_residual-in_err-area_refusal.result c.from_residual-in_err-area_refusal.ensures.1

pub bounds-state-0 : goal.bounds-state-0
bounds-state-0 c = omega (arith, (store_held _ _ c.requires).size)

pub overflow_sub-state : goal.overflow_sub-state
overflow_sub-state c = (day_some c.args.day (passed_ok (day_checks c.args.day) refl c.day_refusal.ensures c.in_ok-day_refusal.was).0).0

pub bounds-state-2 : goal.bounds-state-2
bounds-state-2 c = simp length-set (omega (arith, (store_held _ _ c.requires).size))

pub overflow_sub-state-2 : goal.overflow_sub-state-2
overflow_sub-state-2 c = (day_some c.args.day (passed_ok (day_checks c.args.day) refl c.day_refusal.ensures c.in_ok-day_refusal.was).0).0

pub overflow_cast-state-2 : goal.overflow_cast-state-2
overflow_cast-state-2 c = omega (arith, (day_some c.args.day (passed_ok (day_checks c.args.day) refl c.day_refusal.ensures c.in_ok-day_refusal.was).0).1)

pub bounds-state : goal.bounds-state
bounds-state c = simp length-set (omega (arith, (store_held _ _ c.requires).size))

pub returns : goal.returns
returns c =
    let a = c.args in
    performs_done _ _ _ (passed_ok (day_checks a.day) refl c.day_refusal.ensures c.in_ok-day_refusal.was) c.answer_ok-need.ensures c.area_refusal.ensures c.in_ok-area_refusal.was
    (rw c.from.ensures (day_put a.state.now a.day (omega (arith, (store_held _ _ c.requires).size)))) refl
