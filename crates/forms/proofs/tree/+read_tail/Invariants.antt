use Rattle.std.proofs.Common.{length}
use Rattle.forms.proofs.tree.+read_tail.Given as goal

-- what is left of the line
abbrev pub decreases-read_tail : goal.decreases-read_tail
decreases-read_tail l = length l.s.now
