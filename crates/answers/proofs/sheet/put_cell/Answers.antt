use native.Mathlib.Omega.{arith}
use borrow.Author.Rules.{rules}
use lib.ListN.{length}
use Rattle.rights.specs.Nodes.{label_at}
use Rattle.rights.specs.How.Seen.{nodes_in}
use Rattle.rights.proofs.PassLaws.{view-length}
use Rattle.answers.proofs.AnswerLaws.{puts_more}
use Rattle.answers.proofs.SheetLaws.{cell-length}
use Rattle.answers.proofs.SheetParts.{cell-blank, cell_filled}
use Rattle.answers.proofs.sheet.put_cell.Goals as goal

pub returns-in_default : goal.returns-in_default
returns-in_default c =
    let t = nodes_in c.args.shown.now in
    let p = c.put_bytes.ensures in
    rw c.in_default.is (rw (cell-blank t (length t) (omega arith)) p, omega (arith, p.next))

pub put_label-requires : goal.put_label-requires
put_label-requires c =
    let n = view-length c.args.shown.now.table.now c.args.shown.now.numbers.now in
    let h = rw c.in-Some.is at c.requires.0 in
    (omega (arith, h), search rules)

pub returns : goal.returns
returns c =
    let s = label_at (nodes_in c.args.shown.now) c.in-Some.i in
    let p = c.put_label.ensures in
    let e = cell_filled s c.put_label.new.area c.put_label.result p.0 (omega (arith, p.1)) in
    let q = puts_more c.put_bytes-next.ensures c.put_byte.ensures in
    let r = rw e at q in
    rw c.in-Some.is (r, omega (arith, r.next, cell-length s))
