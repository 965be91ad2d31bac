use native.Mathlib.Omega.{arith}
use Rattle.rights.proofs.PassLaws.{digit_low}
use borrow.Author.Rules.{rules}
use Rattle.forms.proofs.kind.with_digit.Goals as goal

pub overflow_sub-b : goal.overflow_sub-b
overflow_sub-b c = omega (arith, digit_low _ c.requires.1)

pub returns : goal.returns
returns c = search rules
