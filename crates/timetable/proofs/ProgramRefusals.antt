-- "In the program 12 and 13 cannot occur": its store always passes, and its area of 65,536 bytes has room for every answer over 1,024 records. Assumes nothing.
use Prim.Native.Nat.{ℕ, ◌+◌, ◌*◌, ◌≤◌}
use mathlib.Core.Path.{◌≡◌, sym, ap, ◌∙◌}
use mathlib.Core.Bool.{true}
use mathlib.Core.List.Memᴰ
use mathlib.Core.List.{List, [], ◌∷◌, Memᴰ}
use mathlib.Core.Logic.{⊎_elim}
use native.Mathlib.Omega.{arith}
use lib.Dec.{leb}
use lib.ListN.{length, take}
use Rattle.rights.specs.Table.{capacity}
use Rattle.rights.proofs.ListLaws.{by_case}
use Rattle.forms.specs.Text.{line_ok}
use Rattle.lines.specs.Outcome.{refuses}
use Rattle.lines.specs.Effect.{performed}
use Rattle.lines.specs.Refusal.{area_short, bad_store, checked}
use Rattle.lines.specs.State.{store_ok}
use Rattle.store.specs.Line.{step}
use Rattle.guarantee.proofs.AreaSuffices.{passing_not_13, area_suffices, table_length_kept}
use Rattle.guarantee.proofs.Cases.{new-passes}
use Rattle.guarantee.proofs.SessionKept.{store_kept}
use Rattle.timetable.specs.Program.{line_max, area_bytes, input_max, lines_from, outcome_of, replies_from, empty_state, empty_table, replies_to}

-- 1,024 records: the area has room for every answer
empty_room : 12 + 35 * capacity (length empty_table) ≤ area_bytes
unfolding empty_table
empty_room = omega arith

-- the program's store
record Good (s t : List ℕ) : Type 0 where
  passes : store_ok s t ≡ true
  room : 12 + 35 * capacity (length t) ≤ area_bytes

empty_good : Good empty_state empty_table
unfolding empty_state empty_table
empty_good = record { passes = new-passes; room = empty_room }

-- neither 12 nor 13
abbrev pub OfTheLine : ℕ → Type 0
OfTheLine n = (n ≡ area_short → ⊥) × (n ≡ bad_store → ⊥)

module _ (s t line : List ℕ) (g : Good s t) where
  step_refuses : (n : ℕ) → (step s t line area_bytes).reply ≡ refuses n → OfTheLine n
  step_refuses n e = (
    λ q. area_suffices s t line area_bytes g.passes g.room (omega arith) (e ∙ ap refuses q),
    λ q. passing_not_13 s t line area_bytes g.passes (e ∙ ap refuses q),
  )

  outcome_refuses : (n : ℕ) → (outcome_of s t line).reply ≡ refuses n → OfTheLine n
  unfolding outcome_of
  outcome_refuses n e =
      by_case (leb (length line) line_max)
      (λ q. step_refuses n (rw q at e))
      (λ q. let z : refuses 1 ≡ refuses n = rw q at e in let i : n ≡ 1 = cc in (λ k. omega arith, λ k. omega arith))

  outcome_good : Good (outcome_of s t line).state (outcome_of s t line).table
  unfolding outcome_of
  outcome_good =
      by_case (leb (length line) line_max)
      (λ q. rw q (record { passes = store_kept s t line area_bytes g.passes; room = rw (table_length_kept s t line area_bytes) g.room }))
      (λ q. rw q g)

replies_refuse : (s t : List ℕ) → Good s t → (lines : List (List ℕ)) (n : ℕ) → Memᴰ (refuses n) (replies_from s t lines) → OfTheLine n
unfolding replies_from
replies_refuse s t g [] n m = absurd (Memᴰ.not-nil m)
replies_refuse s t g (line ∷ lines) n m =
    ⊎_elim (λ e. outcome_refuses s t line g n (sym e)) (λ k. replies_refuse (outcome_of s t line).state (outcome_of s t line).table (outcome_good s t line g) lines n k) (Memᴰ.cases_cons m)

-- A line that is too long is no case of its own: from a store that passes, `step` refuses it as the program does.
pub long_lines_stepped : (s t line : List ℕ) → store_ok s t ≡ true → outcome_of s t line ≡ step s t line area_bytes
unfolding outcome_of step performed checked line_ok
long_lines_stepped s t line ok = by_case (leb (length line) line_max) (λ e. rw e) (λ e. rw (e, ok))

-- No line of any input is answered `(refused 12)` or `(refused 13)`.
pub never_12_or_13 : (input : List ℕ) (n : ℕ) → Memᴰ (refuses n) (replies_to input) → OfTheLine n
unfolding replies_to
never_12_or_13 input n m = replies_refuse empty_state empty_table empty_good (lines_from [] (take input_max input)) n m
