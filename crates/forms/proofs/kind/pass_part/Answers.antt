-- Kind by kind.
use mathlib.Core.Path.{refl}
use Rattle.forms.specs.How.Codes.{end_by, says_by, area_by}
use Rattle.forms.proofs.PartLaws.{passed_as}
use Rattle.forms.proofs.kind.pass_part.Goals as goal

pub returns-in-Label : goal.returns-in-Label
unfolding end_by says_by area_by
returns-in-Label c = let z = c.in-Label.is in (rw z (passed_as 1 c.args.s.now c.args.at _ _ 0 c.silent.ensures c.label_part_end.ensures refl), rw z)

pub returns-in-Path : goal.returns-in-Path
unfolding end_by says_by area_by
returns-in-Path c = let z = c.in-Path.is in (rw z (passed_as 2 c.args.s.now c.args.at _ _ 0 c.silent-in-Path.ensures c.path_part_end.ensures refl), rw z)

pub returns-in-Tree : goal.returns-in-Tree
unfolding end_by says_by area_by
returns-in-Tree c =
    let z = c.in-Tree.is in
    let x = c.read_tree.ensures in
    (rw z (record { end = x.end; says = x.says }), rw z x.out)

pub returns-in-Sign : goal.returns-in-Sign
unfolding area_by
returns-in-Sign c = let z = c.in-Sign.is in (rw z c.pass_sign.ensures, rw z)

pub returns-in-Right : goal.returns-in-Right
unfolding area_by
returns-in-Right c = let z = c.in-Right.is in (rw z c.pass_right.ensures, rw z)

pub returns-in-Day : goal.returns-in-Day
unfolding area_by
returns-in-Day c = let z = c.in-Day.is in (rw z c.pass_day.ensures, rw z)
