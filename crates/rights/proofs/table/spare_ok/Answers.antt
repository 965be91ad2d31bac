-- The window and the two zeros decide, and at level 0 whether the window is the whole year.
use Rattle.std.proofs.Common.{arith}
use Rattle.std.proofs.lemmas.Grind.{common_steps}
use Rattle.rights.specs.Table.{spare_ok}
use Rattle.rights.proofs.table.spare_ok.Goals as goal

pub returns-then-all_year : goal.returns-then-all_year
unfolding spare_ok
returns-then-all_year c =
    let window = rw (c.day_at-first.ensures, c.day_at-last.ensures) at c.window_ok.ensures in
    let zeros = rw c.requires at c.all_zero.ensures in
    grind (arith, common_steps)

pub returns-else-all_year : goal.returns-else-all_year
unfolding spare_ok
returns-else-all_year c =
    let window = rw (c.day_at-first.ensures, c.day_at-last.ensures) at c.window_ok.ensures in
    grind (arith, common_steps)
