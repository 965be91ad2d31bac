use mathlib.Core.Path.{refl}
use borrow.Author.Rules.{rules}
use Rattle.timetable.specs.Program.{empty_table}
use Rattle.timetable.proofs.empty_table.Goals as goal

pub returns : goal.returns
unfolding empty_table
returns c = (search rules, refl)
