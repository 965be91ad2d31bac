-- The refusals of the calling program: where the store passes, no line is refused with 13; and where the area has 12 bytes and 35 for each record that the table can
-- hold, and 657 for a sheet, none is refused with 12 (include/timetable.h, TIMETABLE_AREA_BYTES). Assumes nothing.
use Prim.Native.Nat.{ℕ, ◌+◌, ◌*◌, ◌≤◌, ◌<◌}
use mathlib.Core.Path.{◌≡◌, refl, sym, ap, ◌∙◌}
use mathlib.Core.Bool.{true, false, not, ◌||◌, false≢true}
use mathlib.Core.List.{List, [], ◌∷◌, ◌++◌}
use native.Mathlib.Omega.{arith}
use borrow.Author.Tests.{eqb-true, leb-true, le-ltb}
use lib.Dec.{eqb, leb, ltb}
use lib.ListN.{length}
use Rattle.rights.specs.Bytes.{within}
use Rattle.rights.specs.Table.{capacity}
use Rattle.rights.proofs.ListLaws.{by_case}
use Rattle.rights.proofs.BoolLaws.{or_split}
use Rattle.rights.proofs.TableLaws.{both}
use Rattle.views.proofs.TableLaws.{facts}
use Rattle.forms.specs.Form.{read_form}
use Rattle.lines.specs.Effect.{Work, guarded, checks_in, performed}
use Rattle.lines.specs.Outcome.{says, refuses}
use Rattle.lines.specs.Refusal.{Check, checked, area_check, area_short, bad_store}
use Rattle.lines.specs.State.{store_ok}
use Rattle.lines.proofs.StateLaws.{store_held}
use Rattle.store.specs.Line.{line_checks, step}
use Rattle.guarantee.proofs.AnswerMost.{own}
use Rattle.guarantee.proofs.FormLaws.{read_law}
use Rattle.guarantee.proofs.TableAfter.{table_after_lem}
use Rattle.guarantee.proofs.Accepted.{line_work, after_line}

-- Checks: n is not what a list of them refuses with, if none with that number fails

abbrev Spared : ℕ → List Check → Type 0
Spared n [] = Unit {0}
Spared n (c ∷ cs) = (c.number ≡ n → c.fails ≡ false) × Spared n cs

spared_not : (n : ℕ) (cs : List Check) (s t b s' t' : List ℕ) → Spared n cs
    → (checked cs s t (record { reply = says b; state = s'; table = t' })).reply ≡ refuses n → ⊥
unfolding checked
spared_not n [] s t b s' t' p e = let z : ◌≡◌ {A = ℕ} 0 1 = cc in omega arith
spared_not n (c ∷ cs) s t b s' t' p e =
    by_case c.fails
    (λ q.
    let k : refuses c.number ≡ refuses n = rw q at e in
    let i : c.number ≡ n = cc in
    false≢true (sym (p.0 i) ∙ q))
    (λ q. spared_not n cs s t b s' t' p.1 (rw q at e))

spared_both : (n : ℕ) (cs ds : List Check) → Spared n cs → Spared n ds → Spared n (cs ++ ds)
spared_both n [] ds p q = q
spared_both n (c ∷ cs) ds p q = (p.0, spared_both n cs ds p.1 q)

own_spared : (n : ℕ) → 11 < n → n < 15 → (cs : List Check) → own cs ≡ true → Spared n cs
own_spared n h k [] e = tt
own_spared n h k (c ∷ cs) e =
    let f = both (within 2 11 c.number || eqb c.number 15) (own cs) e in (
      λ i. absurd
          (or_split (within 2 11 c.number) (eqb c.number 15) f.0
          (λ q. omega (arith, leb-true c.number 11 (both (leb 2 c.number) _ q).1))
          (λ q. omega (arith, eqb-true c.number 15 q))),
      own_spared n h k cs f.1,
    )

-- a form's own checks, and the last one
last_spared : (n room : ℕ) (w : Work) → 11 < n → n < 15 → own w.checks ≡ true → (area_short ≡ n → ltb room (length w.text) ≡ false) → Spared n (checks_in room w)
last_spared n room w h k e f = spared_both n w.checks (area_check room (length w.text) ∷ []) (own_spared n h k w.checks e) (f, tt)

module _ (s t line : List ℕ) (room : ℕ) (ok : store_ok s t ≡ true) where
  own_work_lem : own (line_work s t line).checks ≡ true
  own_work_lem = (read_law line).own s t

  spared_step : (n : ℕ) → Spared n (checks_in room (guarded (line_checks s t line) (line_work s t line))) → (step s t line room).reply ≡ refuses n → ⊥
  unfolding step performed
  spared_step n p e = spared_not n _ s t _ _ _ p e

  -- A store that passes: no line is refused with 13.
  pub passing_not_13 : (step s t line room).reply ≡ refuses bad_store → ⊥
  passing_not_13 =
      spared_step bad_store (
        λ e. ap not ok,
        (
          λ e. absurd (omega arith),
          (
            λ e. absurd (omega arith),
            (
              λ e. absurd (omega arith),
              last_spared bad_store room (line_work s t line) (omega arith) (omega arith) own_work_lem (λ e. absurd (omega arith)),
            ),
          ),
        ),
      )

  -- An area of 12 bytes and 35 for each record that the table can hold, and of a sheet's length: no line is refused with 12.
  pub area_suffices : 12 + 35 * capacity (length t) ≤ room → 657 ≤ room → (step s t line room).reply ≡ refuses area_short → ⊥
  area_suffices h k =
      spared_step area_short (
        λ e. absurd (omega arith),
        (
          λ e. absurd (omega arith),
          (
            λ e. absurd (omega arith),
            (
              λ e. absurd (omega arith),
              last_spared area_short room (line_work s t line) (omega arith) (omega arith) own_work_lem (λ e. fits),
            ),
          ),
        ),
      )
    where
      fits : ltb room (length (line_work s t line).text) ≡ false
      fits =
          le-ltb room (length (line_work s t line).text)
          ((read_law line).most s t ok room (omega (arith, h, (facts t (store_held s t ok).table).held), k))

-- Whatever a line does, the table keeps its length.
pub table_length_kept : (s t line : List ℕ) (room : ℕ) → length (step s t line room).table ≡ length t
table_length_kept s t line room =
    after_line s t line room (λ s' t'. length t' ≡ length t) refl
    λ p x. (table_after_lem (read_form line) s t (store_held s t p).table (line_work s t line).effect x).same_length
