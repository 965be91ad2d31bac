use Prim.Native.Nat.{ℕ}
use mathlib.Core.Path.{refl}
use native.Mathlib.Omega.{arith}
use borrow.Author.Tests.{not-false}
use Rattle.views.specs.declared.done.Change.TheVariants as change
use lib.ListN.{replicate}
use Rattle.rights.proofs.TableLaws.{table_long}
use Rattle.lines.specs.Work.{window_checks}
use Rattle.lines.proofs.ChangeLaws.{done_reach, done_cover, redated_table}
use Rattle.lines.proofs.RefusalLaws.{passed_ok, performs_refused, performs_short, performs_done}
use Rattle.lines.proofs.StateLaws.{store_held}
use Rattle.lines.proofs.changes.window.Goals as goal

pub window_refusal-requires : goal.window_refusal-requires
window_refusal-requires c = omega (arith, (store_held _ _ c.requires).size)

pub returns-in_err-window_refusal : goal.returns-in_err-window_refusal
returns-in_err-window_refusal c = performs_refused _ _ _ c.window_refusal.ensures c.in_err-window_refusal.was c.from_residual.result c.from_residual.ensures.1

pub answer_marked-need-requires : goal.answer_marked-need-requires
answer_marked-need-requires c =
    let a = c.args in
    let p = passed_ok (window_checks a.state.now a.path.now a.first a.last) refl c.window_refusal.ensures c.in_ok-window_refusal.was in
    (c.requires, (p.0, (p.1.0, tt)), refl {a = 16384})

pub returns-in_err-area_refusal : goal.returns-in_err-area_refusal
returns-in_err-area_refusal c =
    let a = c.args in
    let p = passed_ok (window_checks a.state.now a.path.now a.first a.last) refl c.window_refusal.ensures c.in_ok-window_refusal.was in
    performs_short _ _ _ p c.answer_marked-need.ensures.1 c.area_refusal.ensures c.in_err-area_refusal.was c.from_residual-in_err-area_refusal.result c.from_residual-in_err-area_refusal.ensures.1

pub count_of-n-requires : goal.count_of-n-requires
count_of-n-requires c =
    table_long _ (store_held _ _ c.requires).table

pub slice_bounds-redate_marked-end : goal.slice_bounds-redate_marked-end
slice_bounds-redate_marked-end c =
    let a = c.args in
    done_reach change.Window a.state.now a.table.now a.path.now (replicate 16384 0) _ _ c.answer_marked-need.ensures.0 c.count_of-n.ensures

pub redate_marked-requires : goal.redate_marked-requires
redate_marked-requires c =
    let a = c.args in
    let p = passed_ok (window_checks a.state.now a.path.now a.first a.last) refl c.window_refusal.ensures c.in_ok-window_refusal.was in
    let cover = done_cover change.Window a.state.now a.table.now a.path.now (replicate 16384 0) _ _ c.answer_marked-need.ensures.0 c.count_of-n.ensures in
    ((store_held _ _ c.requires).table, cover, not-false _ p.1.1.0)

pub returns : goal.returns
returns c =
    let a = c.args in
    let r = c.answer_marked-need.ensures in
    let p = passed_ok (window_checks a.state.now a.path.now a.first a.last) refl c.window_refusal.ensures c.in_ok-window_refusal.was in
    performs_done _ _ _ p r.1 c.area_refusal.ensures c.in_ok-area_refusal.was refl
    (redated_table change.Window a.state.now a.table.now a.path.now (replicate {A = ℕ} 16384 0) _ _ r.0 c.count_of-n.ensures a.first a.last _ c.redate_marked.ensures)
