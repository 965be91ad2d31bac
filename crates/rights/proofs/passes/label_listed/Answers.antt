-- A hidden label is RESTRICTED, and any other is looked up by its record, which stands in the table.
use Prim.Native.Nat.{ℕ}
use mathlib.Core.Bool.{false}
use mathlib.Core.Path.{sym, ap, ◌∙◌}
use native.Mathlib.Omega.{arith}
use borrow.Author.Tests.{le-ltb}
use lib.Dec.{ltb}
use Rattle.rights.specs.Table.{rec_at, label}
use Rattle.rights.proofs.PassLaws.{hidden_test, label_clear}
use Rattle.rights.proofs.passes.label_listed.Goals as goal

pub returns-then-from-lt-RECORDS_MAX : goal.returns-then-from-lt-RECORDS_MAX
returns-then-from-lt-RECORDS_MAX c =
    let a = c.args in
    let place = c.record_place in
    λ f listed h. ap (ltb 0) c.number.ensures.0 ∙ listed (label (rec_at a.shown.now.table.now place.result))
    ∙ ap f (ap (λ (k : ℕ). label (rec_at a.shown.now.table.now k)) place.ensures ∙ sym (label_clear a.shown.now.table.now a.shown.now.numbers.now a.i c.requires (omega arith)))

pub returns-else-from-lt-RECORDS_MAX : goal.returns-else-from-lt-RECORDS_MAX
returns-else-from-lt-RECORDS_MAX c =
    let a = c.args in
    λ f listed h. le-ltb _ _ c.if-from-lt-RECORDS_MAX.false ∙ hidden_test a.shown.now.table.now a.shown.now.numbers.now a.i c.requires f false (omega arith) (sym h)
