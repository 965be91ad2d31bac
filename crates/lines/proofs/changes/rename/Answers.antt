use Prim.Native.Nat.{ℕ}
use mathlib.Core.Path.{refl}
use lib.ListN.{replicate}
use Rattle.rights.proofs.TableLaws.{table_long}
use Rattle.lines.specs.Work.{rename_checks}
use Rattle.lines.proofs.ChangeLaws.{done_reach, done_cover, renamed_table}
use Rattle.lines.proofs.RefusalLaws.{passed_ok, performs_refused, performs_short, performs_done}
use Rattle.lines.proofs.StateLaws.{store_held}
use Rattle.lines.proofs.changes.rename.Goals as goal

pub returns-in_err-rename_refusal : goal.returns-in_err-rename_refusal
returns-in_err-rename_refusal c = performs_refused _ _ _ c.rename_refusal.ensures c.in_err-rename_refusal.was c.from_residual.result c.from_residual.ensures.1

pub answer_marked-need-requires : goal.answer_marked-need-requires
answer_marked-need-requires c =
    let a = c.args in
    let p = passed_ok (rename_checks a.state.now a.path.now a.label.now) refl c.rename_refusal.ensures c.in_ok-rename_refusal.was in
    (c.requires.0, (p.0, (p.1.0, tt)), refl {a = 16384})

pub returns-in_err-area_refusal : goal.returns-in_err-area_refusal
returns-in_err-area_refusal c =
    let a = c.args in
    let p = passed_ok (rename_checks a.state.now a.path.now a.label.now) refl c.rename_refusal.ensures c.in_ok-rename_refusal.was in
    performs_short _ _ _ p c.answer_marked-need.ensures.1 c.area_refusal.ensures c.in_err-area_refusal.was c.from_residual-in_err-area_refusal.result c.from_residual-in_err-area_refusal.ensures.1

pub count_of-n-requires : goal.count_of-n-requires
count_of-n-requires c =
    table_long _ (store_held _ _ c.requires.0).table

pub slice_bounds-rename_marked-end : goal.slice_bounds-rename_marked-end
slice_bounds-rename_marked-end c =
    let a = c.args in
    done_reach a.change a.state.now a.table.now a.path.now (replicate 16384 0) _ _ c.answer_marked-need.ensures.0 c.count_of-n.ensures

pub rename_marked-requires : goal.rename_marked-requires
rename_marked-requires c =
    let a = c.args in
    let cover = done_cover a.change a.state.now a.table.now a.path.now (replicate 16384 0) _ _ c.answer_marked-need.ensures.0 c.count_of-n.ensures in
    ((store_held _ _ c.requires.0).table, cover, c.requires.1)

pub returns : goal.returns
returns c =
    let a = c.args in
    let r = c.answer_marked-need.ensures in
    let p = passed_ok (rename_checks a.state.now a.path.now a.label.now) refl c.rename_refusal.ensures c.in_ok-rename_refusal.was in
    performs_done _ _ _ p r.1 c.area_refusal.ensures c.in_ok-area_refusal.was refl
    (renamed_table a.change a.state.now a.table.now a.path.now (replicate {A = ℕ} 16384 0) _ _ r.0 c.count_of-n.ensures a.label.now _ c.rename_marked.ensures)
