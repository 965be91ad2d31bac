use Rattle.std.proofs.Common.{length, ◌-◌, ◌+◌, ◌*◌}
use Rattle.rights.proofs.selection.Matcher.+match_bracket_match_brackets_match_path_match_step_match_steps.Given as goal

-- What is left of the line, four times, and the order in which the methods call one another where they read nothing.
abbrev pub decreases-match_bracket : goal.decreases-match_bracket
decreases-match_bracket l = 4 * (length l.self.now.path.now - l.at) + 3

abbrev pub decreases-match_brackets : goal.decreases-match_brackets
decreases-match_brackets l = 4 * (length l.self.now.path.now - l.at)

abbrev pub decreases-match_path : goal.decreases-match_path
decreases-match_path l = 4 * (length l.self.now.path.now - l.at) + 2

abbrev pub decreases-match_step : goal.decreases-match_step
decreases-match_step l = 4 * (length l.self.now.path.now - l.end) + 1

abbrev pub decreases-match_steps : goal.decreases-match_steps
decreases-match_steps l = 4 * (length l.self.now.path.now - l.at) + 1
