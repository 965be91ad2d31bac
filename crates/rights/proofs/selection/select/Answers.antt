use mathlib.Core.Path.{ap}
use mathlib.Core.List.{List, ◌++◌}
use native.Mathlib.Omega.{arith}
use Prim.Native.Nat.{ℕ}
use lib.ListN.{length, drop}
use Rattle.std.proofs.lemmas.List.{length-take-le}
use Rattle.rights.proofs.PassLaws.{view-length}
use Rattle.rights.proofs.WalkLaws.{select_done}
use Rattle.rights.proofs.selection.select.Goals as goal

pub returns : goal.returns
returns c =
    let shown = c.args.shown.now in
    let found : List ℕ = c.walk_path.new.marks in
    select_done _ _ _ _ _ (c.requires.2) (length shown.numbers.now) (view-length shown.table.now shown.numbers.now) _ _ found _ c.mark_own.ensures.own_marked c.walk_path.ensures
    (omega (arith, c.walk_path.auto.marks, length-take-le c.len-n.result c.args.marks.now (omega arith))) (ap (λ (n : ℕ). found ++ drop n c.args.marks.now) c.len-n.ensures)
