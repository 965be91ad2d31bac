use Rattle.views.proofs.DepthLaws.{gap_fits, fill_asks}
use Rattle.views.proofs.ChunkLaws.{all-chunks}
use Rattle.views.proofs.TableLaws.{facts}
use native.Mathlib.Omega.{arith}
use Rattle.rights.proofs.MarkLaws.{count_front}
use Rattle.views.proofs.insert.insert_marked.Goals as goal

pub count_of-n-requires : goal.count_of-n-requires
count_of-n-requires c =
    omega (arith, (facts c.args.t.now c.requires.t_value.0).head)

pub overflow_mul-insertion : goal.overflow_mul-insertion
overflow_mul-insertion c =
    let a = c.args in
    let n = c.count_of-n in
    let k = c.count_marks-k in
    let q = count_front n.result a.marks.now k.result (omega (arith, n.ensures, c.requires.t_value.1)) k.ensures in
    record { fits = gap_fits a.place n.result k.result a.m a.t.now a.marks.now a.tree.now c.requires.t_value.0 c.requires.t_value.1 c.requires.t_value.2 c.requires.t_value_2.0 c.requires.t_value_2.1 n.ensures q.0 }

pub fill-requires : goal.fill-requires
fill-requires c =
    let a = c.args in
    let n = c.count_of-n in
    let k = c.count_marks-k in
    let q = count_front n.result a.marks.now k.result (omega (arith, n.ensures, c.requires.t_value.1)) k.ensures in
    let g = fill_asks a.place n.result k.result a.m a.t.now a.marks.now a.tree.now c.requires.t_value.0 c.requires.t_value.1 c.requires.t_value.2 c.requires.t_value_2.0 c.requires.t_value_2.1 n.ensures q.0 in
    record { fixed = g.0; gap_bound = g.1 }

pub returns : goal.returns
returns c =
    let a = c.args in
    let n = c.count_of-n in
    let e = rw (n.ensures, ← all-chunks a.t.now) at c.fill.ensures in e
