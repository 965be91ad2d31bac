use mathlib.Core.Path.{refl}
use native.Mathlib.Omega.{arith}
use Rattle.lines.specs.Work.{view_checks}
use Rattle.lines.proofs.RefusalLaws.{passed_ok, performs_refused, performs_short, performs_done}
use Rattle.lines.proofs.StateLaws.{store_held}
use Rattle.lines.proofs.UserViewLaws.{shown_fits, shown_long, shown-view}
use Rattle.lines.proofs.queries.print_view.Goals as goal

pub view_refusal-requires : goal.view_refusal-requires
view_refusal-requires c = omega (arith, (store_held _ _ c.requires).size)

pub returns-in_err-view_refusal : goal.returns-in_err-view_refusal
returns-in_err-view_refusal c = performs_refused _ _ _ c.view_refusal.ensures c.in_err-view_refusal.was c.from_residual.result c.from_residual.ensures.1

pub show_user-seen-requires : goal.show_user-seen-requires
show_user-seen-requires c =
    let a = c.args in
    (c.requires, (passed_ok (view_checks a.state.now) refl c.view_refusal.ensures c.in_ok-view_refusal.was), record { reading = refl; seeing = refl }, refl {a = 16384}, refl {a = 16384})

pub slice_bounds-answer_look-end : goal.slice_bounds-answer_look-end
slice_bounds-answer_look-end c =
    let a = c.args in
    shown_long a.state.now a.table.now c.requires _ _ _ c.show_user-seen.ensures.1 c.show_user-seen.ensures.2

pub answer_look-need-requires : goal.answer_look-need-requires
answer_look-need-requires c =
    let a = c.args in
    shown_fits a.state.now a.table.now c.requires _ _ _ c.show_user-seen.ensures.1 c.show_user-seen.ensures.2

pub returns-in_err-area_refusal : goal.returns-in_err-area_refusal
returns-in_err-area_refusal c =
    let a = c.args in
    performs_short _ _ _ (passed_ok (view_checks a.state.now) refl c.view_refusal.ensures c.in_ok-view_refusal.was) (rw (shown-view a.state.now a.table.now c.requires _ _ _ c.show_user-seen.ensures.1 c.show_user-seen.ensures.2) at c.answer_look-need.ensures) c.area_refusal.ensures c.in_err-area_refusal.was c.from_residual-in_err-area_refusal.result c.from_residual-in_err-area_refusal.ensures.1

pub returns : goal.returns
returns c =
    let a = c.args in
    performs_done _ _ _ (passed_ok (view_checks a.state.now) refl c.view_refusal.ensures c.in_ok-view_refusal.was) (rw (shown-view a.state.now a.table.now c.requires _ _ _ c.show_user-seen.ensures.1 c.show_user-seen.ensures.2) at c.answer_look-need.ensures) c.area_refusal.ensures c.in_ok-area_refusal.was refl refl
