-- What a line leaves of the session and the policy: a store that passes 13 passes it again; from the root line on the policy stays; the user changes by logging in
-- alone. Assumes nothing.
use Prim.Native.Nat.{ℕ, suc, ◌+◌, ◌≤◌}
use mathlib.Core.Path.{◌≡◌, refl, ap, ◌∙◌}
use mathlib.Core.Bool.{true}
use mathlib.Core.List.{List}
use mathlib.Core.Logic.{◌⊎◌, inl, inr}
use native.Mathlib.Omega.{arith}
use native.Mathlib.Numerals.{add-one}
use lib.ListN.{length}
use Rattle.forms.specs.Form.{ReadForm, read_form}
use Rattle.lines.specs.State.{stage_c, stage_e, stage, user_byte, with_session, with_day, with_policy, policy_bytes, store_ok}
use Rattle.lines.specs.Effect.{Effect, policy, root, insertion, renaming, removal, redating, login, dating, reading, state_after, table_after}
use Rattle.lines.specs.Outcome.{Outcome, answer_of}
use Rattle.lines.specs.PolicyEdit.{number_in}
use Rattle.lines.specs.Clause.{work_of}
use Rattle.store.specs.Line.{step}
use Rattle.lines.proofs.StateLaws.{store_held, policy_staged, policy_logged, later_staged, policy_dated, user_dated}
use Rattle.guarantee.specs.Alike.{UserIs, LogsIn}
use Rattle.lines.proofs.CheckLaws.{Refused}
use Rattle.guarantee.proofs.Sound.{LoginSound, EffectSound}
use Rattle.guarantee.proofs.StoreKept.{session_kept, held-passes, held_after}
use Rattle.guarantee.proofs.Accepted.{line_work, Accepted, line_cases, taken, after_line}

-- the policy and the stage after an effect, the root line taken before
policy_after : (f : ReadForm) (s t : List ℕ) → 8 ≤ length s → stage_c ≤ stage s → (e : Effect) → EffectSound f s t e
    → (policy_bytes (state_after e s) ≡ policy_bytes s) × (stage_c ≤ stage (state_after e s))
policy_after f s t size rooted (policy p g) x = absurd (omega (arith, x.early))
policy_after f s t size rooted (root l) x = absurd (omega (arith, x.early))
policy_after f s t size rooted (insertion at ms m tree g) x = (policy_staged s g, x.behind_root)
policy_after f s t size rooted (renaming l ms) x = (refl, rooted)
policy_after f s t size rooted (removal ms) x = (refl, rooted)
policy_after f s t size rooted (redating g l ms) x = (refl, rooted)
policy_after f s t size rooted (login u) x = (policy_logged s 4 (u + 1), omega arith)
policy_after f s t size rooted (dating d) x = (policy_staged (with_day d s) 4 ∙ policy_dated s d (omega (arith, size)), omega arith)
policy_after f s t size rooted reading x = (refl, rooted)

-- the user after an effect: the one before, or the one that is logged in
user_after : (f : ReadForm) (s t : List ℕ) → 8 ≤ length s → (e : Effect) → EffectSound f s t e
    → (user_byte (state_after e s) ≡ user_byte s) ⊎ ((v : ℕ) × (e ≡ login v) × LoginSound f s v)
user_after f s t size (policy p g) x = inl (later_staged (with_policy p s) g 0 ∙ session_kept s p size 1 (omega arith))
user_after f s t size (root l) x = inl (later_staged s 2 0)
user_after f s t size (insertion at ms m tree g) x = inl (later_staged s g 0)
user_after f s t size (renaming l ms) x = inl refl
user_after f s t size (removal ms) x = inl refl
user_after f s t size (redating g l ms) x = inl refl
user_after f s t size (login v) x = inr (v, refl, x)
user_after f s t size (dating d) x = inl (later_staged (with_day d s) 4 0 ∙ user_dated s d (omega (arith, size)))
user_after f s t size reading x = inl refl

module _ (s t line : List ℕ) (room : ℕ) where
  -- A store that passes 13 passes it again after any line, accepted or refused.
  pub store_kept : store_ok s t ≡ true → store_ok (step s t line room).state (step s t line room).table ≡ true
  store_kept ok =
      let e = (line_work s t line).effect in
      after_line s t line room (λ s' t'. store_ok s' t' ≡ true) ok
      λ p x. held-passes (state_after e s) (table_after e t) (held_after (read_form line) s t p e x)

  -- From the root line on, no line changes the policy,
  pub policy_kept : stage_c ≤ stage s → policy_bytes (step s t line room).state ≡ policy_bytes s
  policy_kept rooted =
      after_line s t line room (λ s' t'. policy_bytes s' ≡ policy_bytes s) refl
      λ p x. (policy_after (read_form line) s t (omega (arith, (store_held s t p).size)) rooted (line_work s t line).effect x).0

  -- and no line goes back to a stage before it.
  pub rooted_kept : stage_c ≤ stage s → stage_c ≤ stage (step s t line room).state
  rooted_kept rooted =
      after_line s t line room (λ s' t'. stage_c ≤ stage s') rooted
      λ p x. (policy_after (read_form line) s t (omega (arith, (store_held s t p).size)) rooted (line_work s t line).effect x).1

  -- The user stays, or the line is an accepted `(user N)`: then N is the user, the stage is E, and nothing else changes.
  pub record LoggedIn : Type 0 where
    pub subject : ℕ
    pub logs : LogsIn subject s line (answer_of (step s t line room).reply)
    pub state : (step s t line room).state ≡ with_session stage_e (suc subject) s
    pub table : (step s t line room).table ≡ t

  -- what a line leaves that has the effect of logging v in
  login_left : Accepted s t line room → (v : ℕ) → (line_work s t line).effect ≡ login v
      → ((step s t line room).state ≡ with_session stage_e (suc v) s) × ((step s t line room).table ≡ t)
  login_left x v e = (
    ap (λ (o : Outcome). o.state) x.is ∙ ap (λ (e : Effect). state_after e s) e ∙ ap (λ (u : ℕ). with_session stage_e u s) (add-one v),
    ap (λ (o : Outcome). o.table) x.is ∙ ap (λ (e : Effect). table_after e t) e,
  )

  user_cases : (user_byte (step s t line room).state ≡ user_byte s) ⊎ LoggedIn
  user_cases = go (line_cases s t line room)
    where
      go : Refused s t (step s t line room) ⊎ Accepted s t line room → (user_byte (step s t line room).state ≡ user_byte s) ⊎ LoggedIn
      go (inl x) = inl (ap (λ (o : Outcome). user_byte o.state) x.is)
      go (inr x) =
          by (user_after (read_form line) s t (omega (arith, (store_held s t x.passes).size)) (line_work s t line).effect x.sound)
        where
          by : (user_byte (state_after (line_work s t line).effect s) ≡ user_byte s)
              ⊎ ((v : ℕ) × ((line_work s t line).effect ≡ login v) × LoginSound (read_form line) s v)
              → (user_byte (step s t line room).state ≡ user_byte s) ⊎ LoggedIn
          by (inl e) = inl (ap (λ (o : Outcome). user_byte o.state) x.is ∙ e)
          by (inr (v, e, y)) =
              let left = login_left x v e in
              inr (record {
                subject = v;
                logs = record {
                  name = y.name;
                  form = y.form;
                  subject = y.named;
                  said = length (line_work s t line).text;
                  accepted = ap (λ (o : Outcome). answer_of o.reply) x.is;
                };
                state = left.0;
                table = left.1;
              })

  -- The line that logs v in leaves v as user, at stage E, and changes nothing else.
  pub logged_in : (v : ℕ) → LogsIn v s line (answer_of (step s t line room).reply)
      → ((step s t line room).state ≡ with_session stage_e (suc v) s) × ((step s t line room).table ≡ t)
  logged_in v l =
      login_left (taken s t line room l.said l.accepted) v
      (ap (λ (f : ReadForm). (work_of f s t).effect) l.form ∙ ap (λ n. login (number_in n)) l.subject)

  -- So u stays the user where no other subject is logged in, and is the user where it logs in.
  pub user_is_kept : (u : ℕ) → UserIs u s → ((v : ℕ) → LogsIn v s line (answer_of (step s t line room).reply) → v ≡ u) → UserIs u (step s t line room).state
  user_is_kept u e h = go user_cases
    where
      go : (user_byte (step s t line room).state ≡ user_byte s) ⊎ LoggedIn → UserIs u (step s t line room).state
      go (inl q) = q ∙ e
      go (inr l) = ap user_byte l.state ∙ ap suc (h l.subject l.logs)

  pub user_is_logged : (v : ℕ) → LogsIn v s line (answer_of (step s t line room).reply) → UserIs v (step s t line room).state
  user_is_logged v l = ap user_byte (logged_in v l).0
