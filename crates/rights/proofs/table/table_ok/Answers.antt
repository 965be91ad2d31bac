use Rattle.std.proofs.Common.{arith}
use Rattle.std.proofs.lemmas.Grind.{common_steps}
use Rattle.rights.specs.Table.{table_ok}
use Rattle.rights.proofs.table.table_ok.Goals as goal

pub returns-then-t-lt-COUNT_BYTES : goal.returns-then-t-lt-COUNT_BYTES
unfolding table_ok
returns-then-t-lt-COUNT_BYTES c = grind (arith, common_steps)

pub returns-then-records_ok : goal.returns-then-records_ok
unfolding table_ok
returns-then-records_ok c = grind (arith, common_steps)

pub returns-else-records_ok : goal.returns-else-records_ok
unfolding table_ok
returns-else-records_ok c = grind (arith, common_steps)
