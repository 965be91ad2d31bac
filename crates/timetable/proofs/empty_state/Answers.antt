use mathlib.Core.Path.{refl}
use borrow.Author.Rules.{rules}
use Rattle.timetable.specs.Program.{empty_state}
use Rattle.timetable.proofs.empty_state.Goals as goal

pub returns : goal.returns
unfolding empty_state
returns c = (search rules, refl)
