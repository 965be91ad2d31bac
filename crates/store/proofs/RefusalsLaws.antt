-- A line is refused with a number exactly if the number's condition holds and that of none before it in the paper's order does, and it is accepted exactly
-- if no condition holds. Assumes nothing.
use Prim.Native.Nat.{ℕ, ◌≤◌, ◌<◌}
use mathlib.Core.Path.{◌≡◌, refl, ap, ◌∙◌}
use mathlib.Core.Bool.{Bool, true, false, not, beq}
use mathlib.Core.List.{List, [], ◌∷◌}
use mathlib.Core.Logic.{◌⊎◌, inl, inr, ⊎_elim, ◌↔◌}
use native.Mathlib.Omega.{arith}
use borrow.Author.Tests.{leb-true, leb-false, le-leb, lt-leb, ltb-true, ltb-false, lt-ltb, not-true, not-false}
use lib.Dec.{leb, ltb}
use lib.ListN.{length, get_or}
use Rattle.rights.specs.Bytes.{all}
use Rattle.rights.specs.Table.{count}
use Rattle.rights.proofs.ListLaws.{by_case}
use Rattle.forms.specs.Text.{line_byte, line_ok}
use Rattle.forms.specs.declared.layout.Word.{Word}
use Rattle.forms.specs.declared.layout.Word.TheVariants as word
use Rattle.forms.specs.Layout.{shape_of}
use Rattle.forms.specs.Command.{Values, Command, command, stage_for, written, GoodCommand}
use Rattle.forms.proofs.FormTextLaws.{command_or_none, none_written}
use Rattle.lines.specs.Effect.{guarded, checks_in, performed}
use Rattle.lines.specs.Outcome.{says, refuses, Outcome}
use Rattle.lines.specs.Refusal.{Check, check, area_check, bad_store, bad_line, no_form, checked, index_in, rising, Ordered}
use Rattle.rights.specs.Held.{dated_nodes}
use Rattle.lines.specs.State.{stage, store_ok}
use Rattle.lines.specs.Allowed.{session_in}
use Rattle.lines.specs.Clause.{clause}
use Rattle.lines.specs.Conditions.{Some, Holds, First}
use Rattle.lines.proofs.StateLaws.{store_held}
use Rattle.lines.proofs.OwnRows.{own_tells}
use Rattle.lines.proofs.ConditionLaws.{numbered, Tells, clash, first_exactly, none_exactly}
use Rattle.lines.proofs.AllowedStoreLaws.{store_allowed, allowed_store}
use Rattle.lines.proofs.NameRows.{less_told}
use Rattle.store.specs.Line.{in_stage, step}
use Rattle.store.specs.Refusals as table
use Rattle.store.specs.Refusals.{front_checks, NoStore, BadLine, Says, nothing, refusals}
use Rattle.store.proofs.ClauseLaws.{step-written, step_unwritten}

-- 1

byte_told : (b : ℕ) → ((b < 32) ⊎ (126 < b)) ↔ (line_byte b ≡ false)
unfolding line_byte
byte_told b = (
  ⊎_elim (λ h. rw (lt-leb 32 b h)) (λ h. by_case (leb 32 b) (λ e. rw (e, lt-leb b 126 h)) (λ e. rw e)),
  λ e. by_case (leb 32 b) (λ p. by_case (leb b 126) (λ q. clash {b = true} refl (rw (p, q) at e)) (λ q. inr (leb-false b 126 q))) (λ p. inl (leb-false 32 b p)),
)

all_told : (f : ℕ → Bool) (P : ℕ → Type 0) → ((b : ℕ) → P b ↔ (f b ≡ false)) → (xs : List ℕ) → Some P xs ↔ (all f xs ≡ false)
unfolding all
all_told f P h [] = (λ x. absurd x, λ e. clash {b = true} refl e)
all_told f P h (x ∷ xs) =
    let ih = all_told f P h xs in (
      ⊎_elim (λ p. rw ((h x).0 p)) (λ q. by_case (f x) (λ e. rw (e, ih.0 q)) (λ e. rw e)),
      λ e. by_case (f x) (λ b. inr (ih.1 (rw b at e))) (λ b. inl ((h x).1 b)),
    )

line_told : (line : List ℕ) → BadLine line ↔ (not (line_ok line) ≡ true)
unfolding line_ok
line_told line =
    let x = all_told line_byte (λ b. (b < 32) ⊎ (126 < b)) byte_told line in (
      ⊎_elim (λ h. rw (lt-leb (length line) 1024 h)) (λ q. by_case (leb (length line) 1024) (λ e. rw (e, x.0 q)) (λ e. rw e)),
      λ e. by_case (leb (length line) 1024) (λ a. inr (x.1 (not-true (all line_byte line) (rw a at e)))) (λ a. inl (leb-false (length line) 1024 a)),
    )

-- 3: a form of stage k where the state is in stage g

abbrev Wrong : ℕ → ℕ → Type 0
Wrong k g = (k < g) ⊎ ((2 < k) × (g < 2)) ⊎ ((k ≡ 2) × (2 ≤ g))

stage-told : (k g : ℕ) → Wrong k g ↔ (not (in_stage k g) ≡ true)
stage-told k g = (left, right)
  where
    left : Wrong k g → not (in_stage k g) ≡ true
    left (inl h) = rw (lt-leb g k h)
    left (inr (inl h)) = by_case (leb g k) (λ e. rw (e, lt-ltb 2 k h.0, lt-leb 2 g h.1)) (λ e. rw e)
    left (inr (inr h)) = by_case (leb g k) (λ e. let z : ltb 2 k ≡ false = rw h.0 in rw (e, z, le-leb 2 g h.1)) (λ e. rw e)

    right : not (in_stage k g) ≡ true → Wrong k g
    right e =
        by_case (leb g k)
        (λ a. by_case (ltb 2 k)
        (λ b. by_case (leb 2 g)
        (λ c. let z : false ≡ true = rw (a, b, c) at e in clash {b = false} z refl)
        (λ c. inr (inl (ltb-true 2 k b, leb-false 2 g c))))
        (λ b. by_case (leb 2 g)
        (λ c. inr (inr (omega (arith, leb-true g k a, ltb-false 2 k b, leb-true 2 g c), leb-true 2 g c)))
        (λ c. let z : false ≡ true = rw (a, b, c) at e in clash {b = false} z refl)))
        (λ a. inl (leb-false g k a))

-- a root stands where a form behind C is not refused with 3
root_there : (s t : List ℕ) (k : ℕ) → store_ok s t ≡ true → 2 < k → in_stage k (stage s) ≡ true → 1 ≤ count t
root_there s t k ok l h =
    by_case (leb 2 (stage s))
    (λ e. let q : beq (leb 2 (stage s)) (leb 1 (count t)) ≡ true = (store_held s t ok).root in leb-true 1 (count t) (yes (leb 1 (count t)) (rw e at q)))
    (λ e. let q : not true ≡ true = rw h at ((stage-told k (stage s)).0 (inr (inl (l, leb-false 2 (stage s) e)))) in clash {b = false} q refl)
  where
    yes : (b : Bool) → beq true b ≡ true → b ≡ true
    yes true e = refl
    yes false e = e

-- the lent state and the lent table are bytes
abbrev pub Lent : List ℕ → List ℕ → Type 0
Lent s t = ((i : ℕ) → get_or s i 0 < 256) × ((i : ℕ) → get_or t i 0 < 256)

-- 13, of bytes
pub store_told : (s t : List ℕ) → Lent s t → NoStore s t ↔ (not (store_ok s t) ≡ true)
store_told s t lent = (
  λ h. by_case (store_ok s t) (λ e. absurd (h (session_in s) (dated_nodes t) (store_allowed s t lent.0 lent.1 e))) (λ e. rw e),
  λ e session nodes k. clash (allowed_store s t session nodes k).0 (not-true (store_ok s t) e),
)

module _ (s t : List ℕ) (lent : Lent s t) (room : ℕ) where
  abbrev pub checks_for : Command → List Check
  checks_for c = checks_in room (guarded (front_checks c s t) (clause c s t))

  -- the checks of each form stand in the paper's order, each with the number of its row
  pub record InOrder (c : Command) (g : GoodCommand c) : Type 0 where
    pub numbers : (line : List ℕ) (e : line ≡ written c) → numbered (refusals s t room (table.says c g e)) (checks_for c) ≡ true
    pub ordered : Ordered (checks_for c)

  pub checks_ordered : (w : Word) (vs : Values (shape_of w)) (g : GoodCommand (command w vs)) → InOrder (command w vs) g
  unfolding rising index_in
  checks_ordered word.Subject vs g = record { numbers = λ l e. refl; ordered = refl }
  checks_ordered word.Isa vs g = record { numbers = λ l e. refl; ordered = refl }
  checks_ordered word.Rule vs g = record { numbers = λ l e. refl; ordered = refl }
  checks_ordered word.Root vs g = record { numbers = λ l e. refl; ordered = refl }
  checks_ordered word.Child vs g = record { numbers = λ l e. refl; ordered = refl }
  checks_ordered word.User vs g = record { numbers = λ l e. refl; ordered = refl }
  checks_ordered word.View vs g = record { numbers = λ l e. refl; ordered = refl }
  checks_ordered word.Query vs g = record { numbers = λ l e. refl; ordered = refl }
  checks_ordered word.Find vs g = record { numbers = λ l e. refl; ordered = refl }
  checks_ordered word.Rename vs g = record { numbers = λ l e. refl; ordered = refl }
  checks_ordered word.Update vs g = record { numbers = λ l e. refl; ordered = refl }
  checks_ordered word.Append vs g = record { numbers = λ l e. refl; ordered = refl }
  checks_ordered word.Before vs g = record { numbers = λ l e. refl; ordered = refl }
  checks_ordered word.After vs g = record { numbers = λ l e. refl; ordered = refl }
  checks_ordered word.Remove vs g = record { numbers = λ l e. refl; ordered = refl }
  checks_ordered word.Sheet vs g = record { numbers = λ l e. refl; ordered = refl }
  checks_ordered word.Day vs g = record { numbers = λ l e. refl; ordered = refl }
  checks_ordered word.Window vs g = record { numbers = λ l e. refl; ordered = refl }
  checks_ordered word.Other vs g = absurd (omega (arith, g.word))

  -- What a line's checks are, and what they tell
  record Told {line : List ℕ} (w : Says line) : Type 0 where
    checks : List Check
    answer : Outcome
    text : List ℕ
    said : answer.reply ≡ says text
    is : step s t line room ≡ checked checks s t answer
    numbers : numbered (refusals s t room w) checks ≡ true
    ordered : Ordered checks
    tells : Tells (refusals s t room w) checks

  told : {line : List ℕ} (w : Says line) → Told w
  unfolding performed checked rising index_in
  told {line} (table.says c g e) =
      let z = ap (λ l. step s t l room) e ∙ step-written s t room c g in
      let x : BadLine line ↔ (not (line_ok (written c)) ≡ true) = rw e (line_told (written c)) in
      record {
        checks = checks_for c;
        answer = _;
        text = (clause c s t).text;
        said = refl;
        is = z;
        numbers = (checks_ordered c.word c.values g).numbers line e;
        ordered = (checks_ordered c.word c.values g).ordered;
        tells = (
          store_told s t lent,
          λ a. (
            x,
            λ _. (
              stage-told (stage_for c) (stage s),
              λ b.
                  let n = length (clause c s t).text in
                  own_tells s t ((12, room < n) ∷ []) (area_check room n ∷ []) c.word c.values g (not-false (store_ok s t) a) (λ l. root_there s t (stage_for c) (not-false (store_ok s t) a) l (not-false (in_stage (stage_for c) (stage s)) b)) (less_told room n, λ _. tt),
            ),
          ),
        );
      }
  told {line} (nothing h) =
      record {
        checks = check bad_store (not (store_ok s t)) ∷ check bad_line (not (line_ok line)) ∷ check no_form true ∷ [];
        answer = record { reply = says []; state = s; table = t };
        text = [];
        said = refl;
        is = step_unwritten s t room line h ∙ by_case (store_ok s t) (λ a. by_case (line_ok line) (λ b. rw (a, b)) (λ b. rw (a, b))) (λ a. rw a);
        numbers = refl;
        ordered = refl;
        tells = (store_told s t lent, λ _. (line_told line, λ _. ((λ _. refl, λ _. tt), λ e. clash {b = true} refl e)));
      }

  -- Refused with n exactly if n's condition holds and that of no number before it does
  pub refused_exactly : {line : List ℕ} (w : Says line) (n : ℕ) → ((step s t line room).reply ≡ refuses n) ↔ First n (refusals s t room w)
  refused_exactly w n =
      let x = told w in
      rw x.is (first_exactly s t x.answer x.said (refusals s t room w) x.checks n x.numbers x.tells x.ordered)

  -- Accepted exactly if no condition holds
  pub accepted_exactly : {line : List ℕ} (w : Says line) → ((text : List ℕ) × ((step s t line room).reply ≡ says text)) ↔ ((n : ℕ) → Holds n (refusals s t room w) → ⊥)
  accepted_exactly w = let x = told w in rw x.is (none_exactly s t x.answer x.said (refusals s t room w) x.checks x.tells)

-- Every line writes a command or says nothing.
pub line_says : (line : List ℕ) → Says line
line_says line = ⊎_elim (λ e. nothing ((none_written line).0 e)) (λ (c, g, e). table.says c g e) (command_or_none line)
