-- A hidden label is read as RESTRICTED, and any other from its record, which stands in the table.
use mathlib.Core.List.{List}
use Prim.Native.Nat.{ℕ}
use native.Mathlib.Omega.{arith}
use lib.ListN.{take, drop}
use Rattle.rights.specs.Labels.{same_label}
use Rattle.rights.proofs.PassLaws.{hidden_test, clear_test}
use Rattle.rights.proofs.TextLaws.{slice_part}
use Rattle.rights.proofs.passes.label_is.Goals as goal

pub returns-then-from-ge-RECORDS_MAX : goal.returns-then-from-ge-RECORDS_MAX
returns-then-from-ge-RECORDS_MAX c =
    let a = c.args in
    let e = slice_part a.s.now a.at a.n in
    hidden_test a.shown.now.table.now a.shown.now.numbers.now a.i c.requires.0 (λ (x : List ℕ). same_label x (take a.n (drop a.at a.s.now))) _ (omega arith) (rw e at c.same_label.ensures)

pub returns : goal.returns
returns c =
    let a = c.args in
    let e = slice_part a.s.now a.at a.n in
    clear_test a.shown.now.table.now a.shown.now.numbers.now a.i c.requires.0 (λ (x : List ℕ). same_label x (take a.n (drop a.at a.s.now))) _ (omega arith) _ c.record_place.ensures
    (rw (e, c.label_in.ensures) at c.same_label-2.ensures)
