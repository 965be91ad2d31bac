use Rattle.rights.proofs.TableLaws.{table_long}
use Rattle.lines.proofs.state.agree.Goals as goal

pub count_of-requires : goal.count_of-requires
count_of-requires c = table_long _ c.requires.1
