use Rattle.forms.proofs.PartLaws.{moved-run}
use borrow.Author.Rules.{rules}
use Rattle.forms.proofs.part.path_part_end.Goals as goal

pub path_run_end-requires : goal.path_run_end-requires
path_run_end-requires c = search rules

pub moved-requires : goal.moved-requires
moved-requires c = search rules

pub returns : goal.returns
returns c = rw c.moved.ensures (moved-run _ _ _ _ c.path_run_end.ensures)
