use Prim.Native.Nat.{ℕ, ◌+◌, ◌*◌}
use mathlib.Core.List.{List}
use mathlib.Core.Path.{◌≡◌, refl}
use native.Mathlib.Omega.{arith}
use borrow.Author.Tests.{le-leb, lt-leb}
use lib.ListN.{get_or}
use Rattle.rights.specs.Table.{rec_at, first_day, last_day}
use Rattle.rights.proofs.TextLaws.{byte_at}
use Rattle.views.proofs.shown.in_window.Goals as goal

-- the days of the record at a byte
first_at : (t : List ℕ) (at : ℕ) → first_day (rec_at t at) ≡ get_or t (at + 26) 0 + get_or t (at + 26 + 1) 0 * 256
first_at t at =
    let e : at + 26 + 1 ≡ at + 27 = omega arith in
    rw (e, byte_at t at 26 (omega arith), byte_at t at 27 (omega arith))

last-at : (t : List ℕ) (at : ℕ) → last_day (rec_at t at) ≡ get_or t (at + 26 + 2) 0 + get_or t (at + 26 + 2 + 1) 0 * 256
last-at t at =
    let e : at + 26 + 2 ≡ at + 28 = omega arith in
    let g : at + 28 + 1 ≡ at + 29 = omega arith in
    rw (e, g, byte_at t at 28 (omega arith), byte_at t at 29 (omega arith))

pub returns-then-day_at-day : goal.returns-then-day_at-day
returns-then-day_at-day c =
    let a = c.args in
    rw (first_at a.table.now a.at, last-at a.table.now a.at, ← c.day_at.ensures, le-leb _ _ c.if-day_at-day.true, ← c.day_at-then-day_at-day.ensures) refl

pub returns-else-day_at-day : goal.returns-else-day_at-day
returns-else-day_at-day c =
    let a = c.args in
    rw (first_at a.table.now a.at, ← c.day_at.ensures, lt-leb _ _ c.if-day_at-day.false) refl
