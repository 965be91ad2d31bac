use native.Mathlib.Omega.{arith}
use Rattle.xml.proofs.WriterLaws.{loads, count_fits, loaded}
use Rattle.xml.proofs.writer.write_document.Goals as goal

pub put_nodes-n-requires : goal.put_nodes-n-requires
put_nodes-n-requires c = loads c.args.xml.now c.args.table.now c.requires

pub put_count-requires : goal.put_count-requires
put_count-requires c =
    let f = count_fits c.args.xml.now c.args.table.now c.requires _ _ c.put_nodes-n.ensures in
    let k = c.put_nodes-n.auto.table in
    (omega arith, f.1)

pub returns : goal.returns
returns c =
    loaded c.args.xml.now c.args.table.now c.requires _ _ c.put_nodes-n.ensures _ c.put_count.ensures
