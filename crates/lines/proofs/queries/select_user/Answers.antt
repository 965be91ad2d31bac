use native.Mathlib.Omega.{arith}
use Rattle.rights.specs.PathReader.{path_of}
use Rattle.lines.proofs.StateLaws.{store_held}
use Rattle.lines.proofs.UserViewLaws.{shown_long, shown_fits, shown-view, own-asks, picked_are, path_read}
use Rattle.lines.proofs.queries.select_user.Goals as goal

pub slice_bounds-select-count : goal.slice_bounds-select-count
slice_bounds-select-count c = omega (arith, (store_held _ _ c.requires.0).size)

pub slice_bounds-select-start : goal.slice_bounds-select-start
slice_bounds-select-start c = omega (arith, (store_held _ _ c.requires.0).size)

pub slice_bounds-nodes-end : goal.slice_bounds-nodes-end
slice_bounds-nodes-end c =
    let a = c.args in
    let r = c.show_user-seen.ensures in
    shown_long a.state.now a.table.now c.requires.0 _ _ _ r.1 r.2

pub invariant_of-nodes : goal.invariant_of-nodes
invariant_of-nodes c =
    let a = c.args in
    let r = c.show_user-seen.ensures in
    record { fits = shown_fits a.state.now a.table.now c.requires.0 _ _ _ r.1 r.2 }

pub select-requires : goal.select-requires
select-requires c =
    let g = c.requires in
    let a = c.args in
    let r = c.show_user-seen.ensures in
    let f = shown_fits a.state.now a.table.now g.0 _ _ _ r.1 r.2 in
    let own = own-asks a.state.now a.table.now g.0 _ _ r.0 in
    (own.0, own.1, path_read (path_of a.path.now) g.1.0, omega (arith, f.few, g.5))

pub returns : goal.returns
returns c =
    let g = c.requires in
    let a = c.args in
    let r = c.show_user-seen.ensures in
    let view = shown-view a.state.now a.table.now g.0 _ _ _ r.1 r.2 in
    (record { size = r.1; numbers = r.2; picked = picked_are a.state.now a.table.now a.path.now g.0 _ _ r.0 _ view a.marks.now _ _ r.1 c.select.ensures }, r.3)
