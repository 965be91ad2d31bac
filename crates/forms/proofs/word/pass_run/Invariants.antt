-- Number is the text_number of the letters from `at` up to i, and weight that of letter i; a run of nine letters or more has no number.
use Prim.Native.Nat.{◌+◌, ◌-◌, ◌^◌, ◌≤◌, ◌<◌}
use mathlib.Core.Path.{◌≡◌}
use lib.ListN.{take, drop}
use Rattle.rights.specs.Labels.{label_byte}
use Rattle.rights.specs.PathReader.{run_at}
use Rattle.forms.specs.How.Codes.{text_number}
use Rattle.forms.proofs.WordLaws.{Weight}
use Rattle.forms.proofs.word.pass_run.Given as goal

abbrev pub invariant-loop-i : goal.invariant-loop-i
invariant-loop-i l = (l.i + run_at label_byte l.s l.i ≡ l.at + run_at label_byte l.s l.at) × (l.i ≤ l.at + 8) × (l.number ≡ text_number (take (l.i - l.at) (drop l.at l.s)))
    × (l.number < 256 ^ (l.i - l.at)) × Weight l.at l.i l.weight
