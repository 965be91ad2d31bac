use Rattle.std.proofs.Common.{length, ◌-◌}
use Rattle.rights.proofs.selection.Matcher.+walk_path.Given as goal

-- what is left of the line
abbrev pub decreases-walk_path : goal.decreases-walk_path
decreases-walk_path l = length l.self.now.path.now - l.at
