use Prim.Native.Nat.{ℕ, ◌-◌}
use native.Mathlib.Omega.{arith}
use lib.ListN.{length}
use Rattle.rights.specs.How.Seen.{nodes_in}
use Rattle.rights.proofs.PassLaws.{view-length}
use Rattle.answers.proofs.SheetParts.{none_of_none, none_labelled, lesson_found}
use Rattle.answers.proofs.sheet.find_lesson.Goals as goal

pub returns-in_err-day-clause-first : goal.returns-in_err-day-clause-first
returns-in_err-day-clause-first c =
    let a = c.args in
    let t = nodes_in a.shown.now in
    let e : ℕ = length t in
    rw (c.from_residual.ensures, c.in_err-day.was) (lesson_found a.room.now t a.n e e e e (none_of_none t (a.n - 1)) (none_labelled t a.room.now) (none_of_none t 0))

pub returns-in_err-period-clause-first : goal.returns-in_err-period-clause-first
returns-in_err-period-clause-first c =
    let a = c.args in
    let t = nodes_in a.shown.now in
    let e : ℕ = length t in
    rw (c.from_residual-in_err-period.ensures, c.in_ok-day.was) (lesson_found a.room.now t a.n _ e e e c.in_err-period.ensures.nth (none_labelled t a.room.now) (none_of_none t 0))

pub labelled_child-requires : goal.labelled_child-requires
labelled_child-requires c =
    let n = view-length c.args.shown.now.table.now c.args.shown.now.numbers.now in
    omega (arith, c.in_ok-period.ensures.inside)

pub returns-in_err-held-clause-first : goal.returns-in_err-held-clause-first
returns-in_err-held-clause-first c =
    let a = c.args in
    let t = nodes_in a.shown.now in
    let e : ℕ = length t in
    rw (c.from_residual-in_err-held.ensures, c.in_ok-day.was) (lesson_found a.room.now t a.n _ _ e e c.in_ok-period.ensures.nth c.in_err-held.ensures.first (none_of_none t 0))

pub returns-clause-first : goal.returns-clause-first
returns-clause-first c =
    let a = c.args in
    let t = nodes_in a.shown.now in
    rw c.in_ok-day.was (lesson_found a.room.now t a.n _ _ _ _ c.in_ok-period.ensures.nth c.in_ok-held.ensures.first c.nth_child-2.ensures.nth)
