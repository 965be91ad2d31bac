use mathlib.Core.Path.{refl, ap, ◌∙◌}
use native.Mathlib.Omega.{arith}
use lib.ListN.{length, replicate}
use Rattle.rights.proofs.TableLaws.{table_long}
use Rattle.lines.specs.Effect.{performed}
use Rattle.lines.specs.State.{stage}
use Rattle.lines.specs.UserView.{done_in}
use Rattle.lines.specs.Work.{tree_checks, insert_checks, insert_at, change_at, count_text}
use Rattle.lines.proofs.ChangeLaws.{done_reach, done_cover, insert_parts}
use Rattle.lines.proofs.OutcomeLaws.{made_at}
use Rattle.lines.proofs.RefusalLaws.{passed_ok, front_err, performs_refused, performed-guarded}
use Rattle.lines.proofs.StateLaws.{store_held}
use Rattle.lines.proofs.changes.insert.Goals as goal

pub tree_refusal-requires : goal.tree_refusal-requires
tree_refusal-requires c =
    (omega (arith, (store_held _ _ c.requires.0).size), c.requires.1)

pub returns-in_err-tree_refusal : goal.returns-in_err-tree_refusal
returns-in_err-tree_refusal c =
    let a = c.args in
    performs_refused _ _ _
    (front_err c.in_err-tree_refusal.was (tree_checks a.state.now a.path.now a.m a.tree.now) c.tree_refusal.ensures (insert_checks a.place (done_in (change_at a.place) a.state.now a.table.now a.path.now) a.m a.tree.now a.table.now))
    c.in_err-tree_refusal.was c.from_residual.result c.from_residual.ensures.1

pub mark_change-k-requires : goal.mark_change-k-requires
mark_change-k-requires c =
    let a = c.args in
    let p = passed_ok (tree_checks a.state.now a.path.now a.m a.tree.now) refl c.tree_refusal.ensures c.in_ok-tree_refusal.was in
    (c.requires.0, (p.0, (p.1.0, tt)), refl {a = 16384})

pub count_of-n-requires : goal.count_of-n-requires
count_of-n-requires c =
    table_long _ (store_held _ _ c.requires.0).table

pub slice_bounds-insert_done-end : goal.slice_bounds-insert_done-end
slice_bounds-insert_done-end c =
    let a = c.args in
    done_reach c.change_at.result a.state.now a.table.now a.path.now (replicate 16384 0) _ _ c.mark_change-k.ensures.marks c.count_of-n.ensures

pub insert_done-requires : goal.insert_done-requires
insert_done-requires c =
    let a = c.args in
    let g = c.requires in
    let k = store_held a.state.now a.table.now g.0 in
    (omega (arith, k.size), k.table, done_cover c.change_at.result a.state.now a.table.now a.path.now (replicate 16384 0) _ _ c.mark_change-k.ensures.marks c.count_of-n.ensures, g.1, g.2)

pub returns : goal.returns
returns c =
    let a = c.args in
    let s = a.state.now in
    let t = a.table.now in
    let h = a.path.now in
    let x = a.tree.now in
    let o = change_at a.place in
    made_at (performed-guarded (tree_checks s h a.m x) (insert_at a.place (done_in o s t h) a.m x (count_text o s t h) (stage s) t) (length a.area.now) s t (passed_ok (tree_checks s h a.m x) refl c.tree_refusal.ensures c.in_ok-tree_refusal.was)
    ∙ ap (λ w. performed w (length a.area.now) s t) (insert_parts _ s t h (replicate 16384 0) _ _ _ c.mark_change-k.ensures c.count_of-n.ensures a.place c.change_at.ensures a.m x))
    c.insert_done.ensures
