use Rattle.std.proofs.Common.{length, ◌-◌}
use Rattle.rights.proofs.path.+read_brackets_read_path.Given as goal

-- what is left of the line
abbrev pub decreases-read_brackets : goal.decreases-read_brackets
decreases-read_brackets l = length l.s.now - l.at

abbrev pub decreases-read_path : goal.decreases-read_path
decreases-read_path l = length l.s.now - l.at
