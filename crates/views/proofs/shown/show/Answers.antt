use Rattle.views.proofs.StoredLaws.{show_gives}
use Rattle.views.proofs.TableLaws.{facts}
use native.Mathlib.Omega.{arith}
use Rattle.views.proofs.shown.show.Goals as goal

pub count_of-n-requires : goal.count_of-n-requires
count_of-n-requires c = (facts _ c.requires.0).head

pub show_first-requires : goal.show_first-requires
show_first-requires c =
    let g = facts _ c.requires.0 in
    let e = c.count_of-n.ensures in
    (omega arith, omega arith, omega arith, omega arith)

pub returns : goal.returns
returns c =
    let a = c.args in
    show_gives a.day a.table.now a.rights.now _ a.shown.now _ _ c.requires.0 c.count_of-n.ensures c.show_first.ensures
