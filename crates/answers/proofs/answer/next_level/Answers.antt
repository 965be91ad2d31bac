use Rattle.answers.proofs.AnswerNodes.{next_some, next_none}
use Rattle.rights.proofs.PassLaws.{view-length}
use Rattle.rights.specs.How.Seen.{nodes_in}
use native.Mathlib.Omega.{arith}
use Prim.Native.Nat.{◌+◌}
use mathlib.Core.Path.{sym, ◌∙◌}
use Rattle.answers.proofs.answer.next_level.Goals as goal

pub returns-then-j-len : goal.returns-then-j-len
returns-then-j-len c =
    let a = c.args in
    let n = view-length a.shown.now.table.now a.shown.now.numbers.now in
    c.level.ensures.0 ∙ sym (next_some (nodes_in a.shown.now) (a.i + 1) (omega arith))

pub returns : goal.returns
returns c =
    let a = c.args in
    let n = view-length a.shown.now.table.now a.shown.now.numbers.now in
    sym (next_none (nodes_in a.shown.now) (a.i + 1) (omega arith))
