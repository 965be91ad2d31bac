use Rattle.rights.proofs.TableLaws.{table_long}
use Rattle.lines.proofs.ChangeLaws.{done_reach, done_cover, done_answered}
use Rattle.lines.proofs.StateLaws.{store_held}
use Rattle.lines.proofs.changes.answer_marked.Goals as goal

pub count_of-n-requires : goal.count_of-n-requires
count_of-n-requires c = table_long _ (store_held _ _ c.requires.0).table

pub slice_bounds-answer_change-end : goal.slice_bounds-answer_change-end
slice_bounds-answer_change-end c =
    let a = c.args in
    done_reach a.change a.state.now a.table.now a.path.now a.done.now _ _ c.mark_change-k.ensures.marks c.count_of-n.ensures

pub answer_change-requires : goal.answer_change-requires
answer_change-requires c =
    let a = c.args in
    ((store_held _ _ c.requires.0).table, done_cover a.change a.state.now a.table.now a.path.now a.done.now _ _ c.mark_change-k.ensures.marks c.count_of-n.ensures)

pub returns : goal.returns
returns c =
    let a = c.args in
    let d = c.mark_change-k.ensures in
    (d.marks, done_answered a.change a.state.now a.table.now a.path.now a.done.now _ _ _ d c.count_of-n.ensures a.area.now _ _ c.answer_change.ensures)
