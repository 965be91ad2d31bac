use mathlib.Core.Path.{◌∙◌}
use native.Mathlib.Omega.{arith}
use Rattle.xml.proofs.ScanLaws.{passing_starts, passing_on, passing_goes_on, passing_ends}
use Rattle.xml.proofs.document.scan_rest.Goals as goal

pub loop-q-init : goal.loop-q-init
loop-q-init c = let args = c.args in (c.requires, omega arith, passing_starts args.xml.now args.low args.places.now args.first)

pub scan_step-requires : goal.scan_step-requires
scan_step-requires c = c.loop-q.invariant.0

pub loop-q-smaller : goal.loop-q-smaller
loop-q-smaller c =
    let args = c.args in
    let o = passing_on args.xml.now args.low c.loop-q.places c.loop-q.p _ c.scan_step.result args.places.now args.first c.scan_step.ensures c.loop-q.invariant.2 _ c.in-Continue.is in
    let w = o.1.within in
    omega (arith, o.0, w)

pub loop-q-preserved : goal.loop-q-preserved
loop-q-preserved c =
    let args = c.args in (
      (passing_on args.xml.now args.low c.loop-q.places c.loop-q.p _ c.scan_step.result args.places.now args.first c.scan_step.ensures c.loop-q.invariant.2 _ c.in-Continue.is).1,
      c.scan_step.auto.places ∙ c.loop-q.invariant.1,
      passing_goes_on args.xml.now args.low c.loop-q.places c.loop-q.p _ c.scan_step.result args.places.now args.first c.scan_step.ensures c.loop-q.invariant.2 _ c.in-Continue.is,
    )

pub returns-in-Break : goal.returns-in-Break
returns-in-Break c =
    let args = c.args in
    passing_ends args.xml.now args.low c.loop-q.places c.loop-q.p _ c.scan_step.result args.places.now args.first c.scan_step.ensures c.loop-q.invariant.2 _ c.in-Break.is
