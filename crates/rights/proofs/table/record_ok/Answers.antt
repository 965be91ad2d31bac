use Rattle.std.proofs.Common.{arith}
use Rattle.std.proofs.lemmas.Grind.{common_steps}
use Rattle.rights.specs.Table.{record_ok}
use Rattle.rights.proofs.table.record_ok.Goals as goal

pub returns-then-label_part_ok : goal.returns-then-label_part_ok
unfolding record_ok
returns-then-label_part_ok c = grind (arith, common_steps)

pub returns-else-label_part_ok : goal.returns-else-label_part_ok
unfolding record_ok
returns-else-label_part_ok c = grind (arith, common_steps)
