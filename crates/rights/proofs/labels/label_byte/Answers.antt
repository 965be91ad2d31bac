-- Each way to a return fixes a range, over which the class is constant.
use mathlib.Core.Bool.{true, false}
use mathlib.Core.Logic.{⊎_elim}
use native.Mathlib.Omega.{arith}
use Rattle.rights.specs.Labels.{label_byte}
use Rattle.rights.proofs.RangeLaws.{on_range, lt_or_ge}
use Rattle.rights.proofs.labels.label_byte.Goals as goal

pub returns-in-97-to-122 : goal.returns-in-97-to-122
unfolding label_byte
returns-in-97-to-122 c = on_range label_byte true 48 10 tt c.args.b (omega arith) (omega arith)

pub returns-in-97-to-122-2 : goal.returns-in-97-to-122-2
unfolding label_byte
returns-in-97-to-122-2 c = on_range label_byte true 65 26 tt c.args.b (omega arith) (omega arith)

pub returns-in-97-to-122-3 : goal.returns-in-97-to-122-3
unfolding label_byte
returns-in-97-to-122-3 c = on_range label_byte true 97 26 tt c.args.b (omega arith) (omega arith)

pub returns-in_default : goal.returns-in_default
unfolding label_byte
returns-in_default c = on_range label_byte false 0 45 tt c.args.b (omega arith) (omega arith)

pub returns-in_default-2 : goal.returns-in_default-2
unfolding label_byte
returns-in_default-2 c = on_range label_byte false 47 1 tt c.args.b (omega arith) (omega arith)

pub returns-in_default-3 : goal.returns-in_default-3
unfolding label_byte
returns-in_default-3 c = on_range label_byte false 58 7 tt c.args.b (omega arith) (omega arith)

pub returns-in_default-4 : goal.returns-in_default-4
unfolding label_byte
returns-in_default-4 c =
    ⊎_elim
    (λ l. on_range label_byte false 91 4 tt c.args.b (omega arith) (omega arith))
    (λ l. on_range label_byte false 96 1 tt c.args.b (omega arith) (omega arith))
    (lt_or_ge c.args.b 95)

pub returns-in_default-5 : goal.returns-in_default-5
unfolding label_byte
returns-in_default-5 c = on_range label_byte false 123 133 tt c.args.b (omega arith) (omega arith)

pub returns-in-45 : goal.returns-in-45
unfolding label_byte
returns-in-45 c = on_range label_byte true 95 1 tt c.args.b (omega arith) (omega arith)

pub returns-in-45-2 : goal.returns-in-45-2
unfolding label_byte
returns-in-45-2 c = on_range label_byte true 45 2 tt c.args.b (omega arith) (omega arith)
