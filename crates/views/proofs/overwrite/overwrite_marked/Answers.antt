use mathlib.Core.Path.{◌≡◌, refl, sym, ap, ◌∙◌}
use Rattle.rights.specs.Table.{level, records}
use Rattle.rights.specs.Marks.{marks_of}
use Rattle.views.specs.Change.{rename}
use Rattle.views.specs.How.Pass.{overwritten}
use Rattle.views.proofs.ChunkLaws.{all-chunks, length-chunks}
use Rattle.views.proofs.InsertionLaws.{length-rename}
use Rattle.views.proofs.OverwriteLaws.{halfway_none, halfway_all, halfway_more, overwritten_table}
use Rattle.views.proofs.TableLaws.{facts}
use native.Mathlib.Omega.{arith}
use borrow.Author.Rules.{rules}
use Rattle.views.proofs.overwrite.overwrite_marked.Goals as goal

pub count_of-i-end-requires : goal.count_of-i-end-requires
count_of-i-end-requires c =
    omega (arith, (facts c.args.t.now c.requires.0).head)

pub loop-i-init : goal.loop-i-init
loop-i-init c =
    let a = c.args in
    (refl, halfway_none c.count_of-i-end.result (overwritten a.k a.x.now) a.marks.now a.t.now, refl, refl)

pub overwrite_one-requires : goal.overwrite_one-requires
overwrite_one-requires c =
    let n = c.count_of-i-end.ensures in let f = facts c.args.t.now c.requires.0 in
    (omega (arith, n, f.size, c.loop-i.invariant.0), omega (arith, n, c.requires.1), omega (arith, c.requires.2))

pub loop-i-preserved : goal.loop-i-preserved
loop-i-preserved c =
    let n = c.count_of-i-end in let a = c.args in
    let l = c.loop-i in
    let f = c.overwrite_one in
    let h = facts a.t.now c.requires.0 in
    let g = halfway_more n.result (overwritten a.k a.x.now) a.marks.now l.i l.t f.new.t (omega arith) (omega (arith, n.ensures, c.requires.1))
    (omega (arith, n.ensures, h.size, l.invariant.0)) f.ensures.0 f.ensures.1 in
    (search rules, g.0 ∙ l.invariant.1, g.1 ∙ l.invariant.2, g.2 ∙ l.invariant.3)

pub returns : goal.returns
returns c =
    let n = c.count_of-i-end in
    let a = c.args in
    let l = c.loop-i in
    let over = rename level (overwritten a.k a.x.now) (marks_of a.marks.now) in
    let e : l.i ≡ n.result = omega arith in
    let g = sym (halfway_all n.result (overwritten a.k a.x.now) a.marks.now l.i l.t (omega arith)) ∙ l.invariant.1 in
    overwritten_table a.t.now l.t (over (records a.t.now)) c.requires.0 (λ i. search rules) l.invariant.0
    (length-rename level (overwritten a.k a.x.now) (marks_of a.marks.now) (records a.t.now) ∙ rw (all-chunks a.t.now) (length-chunks _ _))
    (rw (e, n.ensures) at g ∙ ap over (sym (all-chunks a.t.now))) l.invariant.2 (rw n.ensures at l.invariant.3)
