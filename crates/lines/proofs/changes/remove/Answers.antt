use Prim.Native.Nat.{ℕ}
use mathlib.Core.Path.{refl}
use native.Mathlib.Omega.{arith}
use Rattle.views.specs.declared.done.Change.TheVariants as change
use lib.ListN.{replicate}
use Rattle.rights.proofs.TableLaws.{table_long}
use Rattle.lines.specs.Work.{on_view}
use Rattle.lines.proofs.ChangeLaws.{done_reach, done_cover, removed_table}
use Rattle.lines.proofs.RefusalLaws.{passed_ok, performs_refused, performs_short, performs_done}
use Rattle.lines.proofs.StateLaws.{store_held}
use Rattle.lines.proofs.changes.remove.Goals as goal

pub path_refusal-requires : goal.path_refusal-requires
path_refusal-requires c = omega (arith, (store_held _ _ c.requires).size)

pub returns-in_err-path_refusal : goal.returns-in_err-path_refusal
returns-in_err-path_refusal c = performs_refused _ _ _ c.path_refusal.ensures c.in_err-path_refusal.was c.from_residual.result c.from_residual.ensures.1

pub answer_marked-need-requires : goal.answer_marked-need-requires
answer_marked-need-requires c =
    let a = c.args in
    let p = passed_ok (on_view a.path.now a.state.now) refl c.path_refusal.ensures c.in_ok-path_refusal.was in
    (c.requires, p, refl {a = 16384})

pub returns-in_err-area_refusal : goal.returns-in_err-area_refusal
returns-in_err-area_refusal c =
    let a = c.args in
    let p = passed_ok (on_view a.path.now a.state.now) refl c.path_refusal.ensures c.in_ok-path_refusal.was in
    performs_short _ _ _ p c.answer_marked-need.ensures.1 c.area_refusal.ensures c.in_err-area_refusal.was c.from_residual-in_err-area_refusal.result c.from_residual-in_err-area_refusal.ensures.1

pub count_of-n-requires : goal.count_of-n-requires
count_of-n-requires c =
    table_long _ (store_held _ _ c.requires).table

pub slice_bounds-remove_marked-end : goal.slice_bounds-remove_marked-end
slice_bounds-remove_marked-end c =
    let a = c.args in
    done_reach change.Remove a.state.now a.table.now a.path.now (replicate 16384 0) _ _ c.answer_marked-need.ensures.0 c.count_of-n.ensures

pub remove_marked-requires : goal.remove_marked-requires
remove_marked-requires c =
    let a = c.args in
    let cover = done_cover change.Remove a.state.now a.table.now a.path.now (replicate 16384 0) _ _ c.answer_marked-need.ensures.0 c.count_of-n.ensures in
    ((store_held _ _ c.requires).table, cover)

pub returns : goal.returns
returns c =
    let a = c.args in
    let r = c.answer_marked-need.ensures in
    let p = passed_ok (on_view a.path.now a.state.now) refl c.path_refusal.ensures c.in_ok-path_refusal.was in
    performs_done _ _ _ p r.1 c.area_refusal.ensures c.in_ok-area_refusal.was refl
    (removed_table change.Remove a.state.now a.table.now a.path.now (replicate {A = ℕ} 16384 0) _ _ r.0 c.count_of-n.ensures _ c.remove_marked.ensures)
