-- What is left of the run from i on is what is left of it from `at` on.
use Rattle.std.proofs.Common.{◌≡◌, ◌+◌, ℕ, Bool}
use Rattle.rights.specs.PathReader.{run_at}
use Rattle.rights.specs.How.Reading.{Computes}
use Rattle.rights.proofs.path.run_end.Given as goal

abbrev pub invariant-loop-i : goal.invariant-loop-i
invariant-loop-i g l = (f : ℕ → Bool) → Computes (goal.F-post g l.class) f → l.i + run_at f l.s l.i ≡ l.at + run_at f l.s l.at
