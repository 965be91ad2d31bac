-- The first token is a root's tag, with one element open behind it or none; each goal begins with what stands behind it.
use native.Mathlib.Omega.{arith}
use Rattle.xml.specs.How.Scan.{window}
use Rattle.xml.proofs.PassLaws.{Root, root_opens, root_empty, root_ready, pass_root, no_root}
use Rattle.xml.proofs.document.scan.Goals as goal
use Rattle.xml.proofs.document.scan.Goals.{in-Opens, in-Empty}

pub returns-in_default : goal.returns-in_default
returns-in_default c = no_root _ _ window _ c.next_token.ensures c.in_default.not-Opens c.in_default.not-Empty

pub counted-tally-requires : goal.counted-tally-requires
counted-tally-requires c =
    let r : Root c.args.xml.now c.args.low window c.match-next_token.depth.1 c.match-next_token.depth.0 =
    elim c.match-next_token.branch [ in-Opens w ↦ rw w.depth-is (root_opens _ _ _ _ w.in-Opens.ensures) | in-Empty w ↦ rw w.depth-is (root_empty _ _ _ _ w.in-Empty.ensures) ] in
    let p = r.spot in
    (omega arith, omega arith, omega arith)

pub scan_from-requires : goal.scan_from-requires
scan_from-requires c =
    let r : Root c.args.xml.now c.args.low window c.match-next_token.depth.1 c.match-next_token.depth.0 =
    elim c.match-next_token.branch [ in-Opens w ↦ rw w.depth-is (root_opens _ _ _ _ w.in-Opens.ensures) | in-Empty w ↦ rw w.depth-is (root_empty _ _ _ _ w.in-Empty.ensures) ] in
    root_ready _ _ _ _ r _ c.counted-tally.ensures

pub returns : goal.returns
returns c =
    let r : Root c.args.xml.now c.args.low window c.match-next_token.depth.1 c.match-next_token.depth.0 =
    elim c.match-next_token.branch [ in-Opens w ↦ rw w.depth-is (root_opens _ _ _ _ w.in-Opens.ensures) | in-Empty w ↦ rw w.depth-is (root_empty _ _ _ _ w.in-Empty.ensures) ] in
    pass_root _ _ _ _ r _ c.counted-tally.ensures _ c.scan_from.ensures
