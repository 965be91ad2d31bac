use mathlib.Core.List.{map}
use native.Mathlib.Omega.{arith}
use Rattle.rights.specs.How.Seen.{nodes_in}
use Rattle.answers.specs.How.SheetParts.{place}
use Rattle.answers.proofs.AnswerLaws.{puts_more}
use Rattle.answers.proofs.SheetParts.{row_of}
use Rattle.answers.proofs.sheet.put_row.Goals as goal

pub returns : goal.returns
returns c =
    let a = c.args in
    let t = nodes_in a.shown.now in
    let p = c.put_byte-a.ensures in
    let q = c.put_byte-b.ensures in
    let r = c.put_cells-c.ensures in
    let s = c.put_byte.ensures in
    (rw (row_of a.first t (map (place t) a.nodes.now)) (puts_more p (puts_more q (puts_more r.0 s))), omega (arith, p.next, q.next, r.1, s.next))
