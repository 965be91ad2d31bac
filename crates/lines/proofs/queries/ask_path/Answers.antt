use mathlib.Core.Path.{refl}
use native.Mathlib.Omega.{arith}
use Rattle.lines.specs.Work.{on_view}
use Rattle.lines.proofs.RefusalLaws.{passed_ok, performs_refused, performs_short, performs_done}
use Rattle.lines.proofs.StateLaws.{store_held}
use Rattle.lines.proofs.UserViewLaws.{shown_fits, shown_long, shown-view, marks_are, marks_long_enough, marks_cover}
use Rattle.lines.proofs.queries.ask_path.Goals as goal

pub path_refusal-requires : goal.path_refusal-requires
path_refusal-requires c = omega (arith, (store_held _ _ c.requires).size)

pub returns-in_err-path_refusal : goal.returns-in_err-path_refusal
returns-in_err-path_refusal c = performs_refused _ _ _ c.path_refusal.ensures c.in_err-path_refusal.was c.from_residual.result c.from_residual.ensures.1

pub select_user-k-requires : goal.select_user-k-requires
select_user-k-requires c =
    let a = c.args in
    (c.requires, (passed_ok (on_view a.path.now a.state.now) refl c.path_refusal.ensures c.in_ok-path_refusal.was), record { reading = refl; seeing = refl }, refl {a = 16384}, refl {a = 16384}, refl {a = 16384})

pub slice_bounds-answer_ask-end : goal.slice_bounds-answer_ask-end
slice_bounds-answer_ask-end c =
    let a = c.args in
    let r = c.select_user-k.ensures.0 in
    shown_long a.state.now a.table.now c.requires _ _ _ r.size r.numbers

pub slice_bounds-answer_ask-end-2 : goal.slice_bounds-answer_ask-end-2
slice_bounds-answer_ask-end-2 c =
    let a = c.args in
    let r = c.select_user-k.ensures.0 in
    marks_long_enough a.state.now a.table.now a.path.now _ _ _ c.requires r.size r.picked

pub answer_ask-need-requires : goal.answer_ask-need-requires
answer_ask-need-requires c =
    let a = c.args in
    let g = c.requires in
    let r = c.select_user-k.ensures.0 in
    (shown_fits a.state.now a.table.now g _ _ _ r.size r.numbers, marks_cover a.state.now a.table.now a.path.now _ _ _ _ _ g r.size r.numbers r.picked)

pub returns-in_err-area_refusal : goal.returns-in_err-area_refusal
returns-in_err-area_refusal c =
    let a = c.args in
    let g = c.requires in
    let s = a.state.now in
    let r = c.select_user-k.ensures.0 in
    performs_short _ _ _ (passed_ok (on_view a.path.now s) refl c.path_refusal.ensures c.in_ok-path_refusal.was) (rw ((shown-view s a.table.now g _ _ _ r.size r.numbers), (marks_are s a.table.now a.path.now _ _ _ g r.size r.picked)) at c.answer_ask-need.ensures) c.area_refusal.ensures c.in_err-area_refusal.was c.from_residual-in_err-area_refusal.result c.from_residual-in_err-area_refusal.ensures.1

pub returns : goal.returns
returns c =
    let a = c.args in
    let g = c.requires in
    let s = a.state.now in
    let r = c.select_user-k.ensures.0 in
    performs_done _ _ _ (passed_ok (on_view a.path.now s) refl c.path_refusal.ensures c.in_ok-path_refusal.was) (rw ((shown-view s a.table.now g _ _ _ r.size r.numbers), (marks_are s a.table.now a.path.now _ _ _ g r.size r.picked)) at c.answer_ask-need.ensures) c.area_refusal.ensures c.in_ok-area_refusal.was refl refl
