use Prim.Native.Nat.{◌≤◌}
use mathlib.Core.Path.{refl}
use native.Mathlib.Omega.{arith}
use borrow.Author.Tests.{ltb-false}
use lib.ListN.{length}
use Rattle.rights.specs.Table.{capacity}
use Rattle.views.specs.Change.{free}
use Rattle.lines.specs.Work.{root_checks}
use Rattle.lines.proofs.RefusalLaws.{passed_ok, performs_refused, performs_short, performs_done}
use Rattle.lines.proofs.StateLaws.{store_held, stage-put}
use Rattle.lines.proofs.TreeLineLaws.{no_records, root_room, root_put}
use borrow.Author.Rules.{rules}
use Rattle.lines.proofs.tree_lines.root.Goals as goal

pub root_refusal-requires : goal.root_refusal-requires
root_refusal-requires c =
    let a = c.args in
    let g = c.requires in
    ((store_held a.state.now a.table.now g.0).table, no_records a.state.now a.table.now g.0 g.1)

pub returns-in_err-root_refusal : goal.returns-in_err-root_refusal
returns-in_err-root_refusal c = performs_refused _ _ _ c.root_refusal.ensures c.in_err-root_refusal.was c.from_residual.result c.from_residual.ensures.1

pub returns-in_err-area_refusal : goal.returns-in_err-area_refusal
returns-in_err-area_refusal c =
    let a = c.args in
    performs_short _ _ _ (passed_ok (root_checks a.table.now a.label.now) refl c.root_refusal.ensures c.in_ok-root_refusal.was) c.answer_ok-need.ensures c.area_refusal.ensures c.in_err-area_refusal.was c.from_residual-in_err-area_refusal.result c.from_residual-in_err-area_refusal.ensures.1

pub put_node-requires : goal.put_node-requires
put_node-requires c =
    let a = c.args in
    let g = c.requires in
    let t = a.table.now in
    let f : 1 ≤ capacity (length t) = omega (arith, ltb-false (free t) 1 (passed_ok (root_checks t a.label.now) refl c.root_refusal.ensures c.in_ok-root_refusal.was).1.0, (no_records a.state.now t g.0 g.1)) in
    (omega (arith, root_room t (store_held a.state.now t g.0).table f), g.2)

pub put_count-requires : goal.put_count-requires
put_count-requires c =
    let a = c.args in
    let g = c.requires in
    let t = a.table.now in
    let f : 1 ≤ capacity (length t) = omega (arith, ltb-false (free t) 1 (passed_ok (root_checks t a.label.now) refl c.root_refusal.ensures c.in_ok-root_refusal.was).1.0, (no_records a.state.now t g.0 g.1)) in
    let k = root_room t (store_held a.state.now t g.0).table f in (omega (arith, k), search rules)

pub bounds-state-0 : goal.bounds-state-0
bounds-state-0 c =
    omega (arith, (store_held _ _ c.requires.0).size)

pub returns : goal.returns
returns c =
    let a = c.args in
    let g = c.requires in
    let s = a.state.now in
    let t = a.table.now in
    let p = passed_ok (root_checks t a.label.now) refl c.root_refusal.ensures c.in_ok-root_refusal.was in
    let n = no_records s t g.0 g.1 in
    let f : 1 ≤ capacity (length t) = omega (arith, ltb-false (free t) 1 p.1.0, n) in
    let h = store_held s t g.0 in
    performs_done _ _ _ p c.answer_ok-need.ensures c.area_refusal.ensures c.in_ok-area_refusal.was
    (rw c.from.ensures (stage-put s 2 (omega (arith, h.size)))) (root_put t a.label.now _ _ h.table n f g.2 c.put_node.ensures c.put_count.ensures)
