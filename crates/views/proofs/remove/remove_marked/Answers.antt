use mathlib.Core.Path.{ap, sym, ◌∙◌}
use Rattle.rights.specs.Table.{records}
use Rattle.rights.specs.Marks.{marks_of}
use Rattle.views.specs.Change.{removed}
use Rattle.views.proofs.ChunkLaws.{is-changed, all-chunks}
use Rattle.views.proofs.TableLaws.{facts}
use native.Mathlib.Omega.{arith}
use Rattle.views.proofs.remove.remove_marked.Goals as goal

pub count_of-n-requires : goal.count_of-n-requires
count_of-n-requires c =
    omega (arith, (facts c.args.t.now c.requires.0).head)

pub compact-w-requires : goal.compact-w-requires
compact-w-requires c =
    let f = facts c.args.t.now c.requires.0 in
    let e = c.count_of-n.ensures in
    (omega (arith, e, f.size), omega (arith, e, c.requires.1), rw e f.low)

pub overflow_mul-w : goal.overflow_mul-w
overflow_mul-w c =
    record { fits = omega (arith, c.compact-w.ensures.0, c.count_of-n.ensures, (facts c.args.t.now c.requires.0).few) }

pub overflow_add-w : goal.overflow_add-w
overflow_add-w c =
    record { fits = omega (arith, c.compact-w.ensures.0, c.count_of-n.ensures, (facts c.args.t.now c.requires.0).few) }

pub clear_from-requires : goal.clear_from-requires
clear_from-requires c =
    omega (arith, c.compact-w.ensures.0, c.count_of-n.ensures, (facts c.args.t.now c.requires.0).size)

pub put_count-requires : goal.put_count-requires
put_count-requires c =
    let f = facts c.args.t.now c.requires.0 in
    (omega (arith, f.head), omega (arith, c.compact-w.ensures.0, c.count_of-n.ensures, f.few))

pub returns : goal.returns
returns c =
    let a = c.args in
    let clear = c.clear_from in
    let put = c.put_count in
    let f = facts a.t.now c.requires.0 in
    let n = c.count_of-n.ensures in
    is-changed c.compact-w.result a.t.now c.compact-w.new.t clear.new.t put.new.t (removed (marks_of a.marks.now) (records a.t.now)) (omega arith) (omega (arith, n, f.size))
    (c.compact-w.ensures.1 ∙ ap (removed (marks_of a.marks.now)) (rw n (sym (all-chunks a.t.now)))) clear.ensures put.ensures
