use native.Mathlib.Omega.{arith}
use Rattle.rights.specs.Table.{rec_at, label}
use Rattle.rights.proofs.PackedLaws.{noted_label}
use Rattle.rights.proofs.groups.note_label.Goals as goal

pub returns : goal.returns
returns c =
    let a = c.args in
    let w = a.words.now in
    let g = c.requires in
    let r = c.number-h in
    noted_label w.policy.now w.places w.count (label (rec_at w.policy.now a.at)) a.rows.now r.result a.bits
    (omega (arith, r.ensures.1, g.2)) r.ensures.0 g.1
