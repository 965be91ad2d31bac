use Rattle.rights.proofs.TableLaws.{table_long}
use Rattle.lines.proofs.tree_lines.root_refusal.Goals as goal

pub capacity_of-requires : goal.capacity_of-requires
capacity_of-requires c = table_long _ c.requires.0
