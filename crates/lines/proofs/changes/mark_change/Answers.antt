use Prim.Native.Nat.{ℕ}
use mathlib.Core.Path.{refl}
use mathlib.Core.List.{List}
use lib.ListN.{replicate}
use native.Mathlib.Omega.{arith}
use Rattle.rights.proofs.TableLaws.{table_long}
use Rattle.lines.proofs.StateLaws.{store_held}
use Rattle.lines.proofs.UserViewLaws.{shown_long, marks_long_enough, all_held}
use Rattle.lines.proofs.ChangeLaws.{selected-count, rights-reach, done_asks, done_records}
use Rattle.rights.proofs.MarkLaws.{count_front}
use Rattle.lines.proofs.changes.mark_change.Goals as goal

-- an area before anything is written there
abbrev empty : List ℕ
empty = replicate 16384 0

pub select_user-k-requires : goal.select_user-k-requires
select_user-k-requires c =
    (c.requires.0, c.requires.1, record { reading = refl; seeing = refl }, refl {a = 16384}, refl {a = 16384}, refl {a = 16384})

pub count_of-n-requires : goal.count_of-n-requires
count_of-n-requires c = table_long _ (store_held _ _ c.requires.0).table

pub slice_bounds-mark_done-count : goal.slice_bounds-mark_done-count
slice_bounds-mark_done-count c = omega (arith, (store_held _ _ c.requires.0).size)

pub slice_bounds-mark_done-start : goal.slice_bounds-mark_done-start
slice_bounds-mark_done-start c = omega (arith, (store_held _ _ c.requires.0).size)

pub slice_bounds-mark_done-end-2 : goal.slice_bounds-mark_done-end-2
slice_bounds-mark_done-end-2 c =
    let a = c.args in
    rights-reach a.state.now a.table.now a.path.now c.requires.0 empty empty empty _ _ _ _ c.select_user-k.ensures.0 ((all_held c.args.state.now c.args.table.now c.requires.0 _ _ c.select_user-k.ensures.1)) _ c.count_of-n.ensures

pub slice_bounds-mark_done-end-3 : goal.slice_bounds-mark_done-end-3
slice_bounds-mark_done-end-3 c =
    let r = c.select_user-k.ensures.0 in
    shown_long c.args.state.now c.args.table.now c.requires.0 _ _ _ r.size r.numbers

pub slice_bounds-mark_done-end-4 : goal.slice_bounds-mark_done-end-4
slice_bounds-mark_done-end-4 c =
    let r = c.select_user-k.ensures.0 in
    marks_long_enough c.args.state.now c.args.table.now c.args.path.now _ _ _ c.requires.0 r.size r.picked

pub mark_done-requires : goal.mark_done-requires
mark_done-requires c =
    let a = c.args in
    done_asks a.state.now a.table.now a.path.now c.requires.0 empty empty empty _ _ _ _ c.select_user-k.ensures.0 ((all_held c.args.state.now c.args.table.now c.requires.0 _ _ c.select_user-k.ensures.1)) _ c.count_of-n.ensures a.done.now c.requires.2

pub returns : goal.returns
returns c =
    let a = c.args in
    let r = c.select_user-k.ensures.0 in
    record {
      size = selected-count a.state.now a.table.now a.path.now c.requires.0 empty empty empty _ _ _ _ r ((all_held c.args.state.now c.args.table.now c.requires.0 _ _ c.select_user-k.ensures.1)) _ (count_front _ _ c.count_marks.result (marks_long_enough c.args.state.now c.args.table.now c.args.path.now _ _ _ c.requires.0 r.size r.picked) c.count_marks.ensures).0;
      marks = done_records a.state.now a.table.now a.path.now c.requires.0 empty empty empty _ _ _ _ r ((all_held c.args.state.now c.args.table.now c.requires.0 _ _ c.select_user-k.ensures.1)) _ c.count_of-n.ensures a.change a.done.now _ c.mark_done.ensures;
    }
