use native.Mathlib.Omega.{arith}
use Rattle.xml.proofs.WriterLaws.{written_none, written_roomy, written_on, written_all}
use Rattle.xml.proofs.writer.put_nodes.Goals as goal

pub loop-q-init : goal.loop-q-init
loop-q-init c = written_none c.args.xml.now c.args.table.now

pub put_token-requires : goal.put_token-requires
put_token-requires c = written_roomy c.args.xml.now c.args.table.now c.loop-q.table c.loop-q.p c.requires c.loop-q.invariant

pub loop-q-smaller : goal.loop-q-smaller
loop-q-smaller c =
    let x = c.in-Some.ensures in
    let w = x.counted.within in
    omega (arith, x.on, w)

pub loop-q-preserved : goal.loop-q-preserved
loop-q-preserved c = written_on c.args.xml.now c.args.table.now c.loop-q.table c.loop-q.p c.requires c.loop-q.invariant _ _ c.in-Some.ensures c.put_token.auto.table

pub returns : goal.returns
returns c =
    let o = c.in_default.ensures in
    rw o.0 (written_all c.args.xml.now c.args.table.now c.loop-q.table c.loop-q.p c.requires c.loop-q.invariant o.1)
