-- Demand 3, its first sentence (document 01, "What demand 3 compares"; specs/Demand3.antt): two stores that look the same to a reader give the same answers to every
-- list of lines, and look the same after each. Assumes nothing.
use Rattle.std.specs.Prelude as found
use Prim.Native.Nat.{ℕ, suc, ◌≤◌, ◌<◌}
use mathlib.Core.Path.{◌≡◌, refl, ap, ap₂, sym, ◌∙◌, subst}
use mathlib.Core.Bool.{true}
use mathlib.Core.List.{List, [], ◌∷◌}
use mathlib.Core.Logic.{◌⊎◌, inl, inr}
use native.Mathlib.Omega.{arith}
use borrow.Author.Tests.{le-leb, le-ltb}
use lib.ListN.{length, take, drop}
use lib.Seq.{take-append_seam}
use Rattle.rights.specs.Marks.{keep}
use Rattle.rights.specs.Policy.{Policy}
use Rattle.rights.specs.PolicyBytes.{policy_of}
use Rattle.rights.specs.Table.{records, level, label}
use Rattle.views.specs.Nodes.{Nested}
use Rattle.views.specs.Shown.{Stored, stored, shown, view}
use Rattle.answers.specs.Answer.{ok_text}
use Rattle.lines.specs.PolicyEdit.{subject_named}
use Rattle.lines.specs.State.{stage_c, stage_e, stage, day_in, policy_in, store_ok}
use Rattle.lines.specs.Effect.{performed}
use Rattle.lines.specs.Outcome.{Reply, says, refuses, Outcome, answer_of, area_after, Made}
use Rattle.lines.specs.Outcome as answer
use Rattle.forms.specs.Form.{ReadForm}
use Rattle.lines.specs.Refusal.{table_full, checked}
use Rattle.lines.specs.Clause.{work_of}
use Rattle.store.specs.Line.{in_stage, step}
use Rattle.rights.proofs.LabelLaws.{same_self as label-self}
use Rattle.lines.proofs.StateLaws.{store_held, day_logged}
use Rattle.guarantee.specs.Alike.{SamePolicy, shown_to, Behind, Alike, UserIs, Input, outcome, LogsIn}
use Rattle.guarantee.specs.Demand3.{Call, Promised, SameAnswer, AnswersAlike}
use Rattle.guarantee.proofs.SamePolicy.{same-named, same_rights_on}
use Rattle.guarantee.proofs.SessionKept.{store_kept, policy_kept, rooted_kept, logged_in, user_is_kept, user_is_logged}
use Rattle.guarantee.proofs.Accepted.{taken}
use Rattle.guarantee.proofs.LowTable.{low_of, low_of_alike, alike_of_low}
use Rattle.guarantee.proofs.TableAfter.{table_nested}
use Rattle.guarantee.proofs.LineAlike.{Tied, user_declared, same_self}
use Rattle.guarantee.proofs.StepAlike.{match_step}

store_nested : (s t : List ℕ) → store_ok s t ≡ true → Nested level 0 (records t)
store_nested s t e = table_nested t (store_held s t e).table

-- The two suppositions are the equality of the low projections, for a declared reader.
module _ (u : ℕ) (s t s' t' : List ℕ) (declared : u < length (policy_in s).names) where
  pub alike_low : Alike u s t s' t' → low_of (policy_in s) u (day_in s) (records t) ≡ low_of (policy_in s) u (day_in s) (records t')
  alike_low a =
      let r = same_rights_on (policy_in s) (policy_in s') a.start.policy u (records t') in
      low_of_alike (policy_in s) u (day_in s) declared (records t) (records t') (store_nested s t a.start.passes) (store_nested s' t' a.start.passes')
      (a.looks ∙ sym (ap₂ (λ d ss. view (stored d t' ss)) a.start.day r))
      (subst (λ xs. Behind (policy_in s) (shown_to u s t) (keep (shown xs) xs)) (sym (ap₂ (λ d ss. stored d t' ss) a.start.day r)) a.behind)

  pub low_alike : store_ok s t ≡ true → store_ok s' t' ≡ true → stage_c ≤ stage s → stage_c ≤ stage s' → SamePolicy (policy_in s) (policy_in s') → day_in s ≡ day_in s'
      → low_of (policy_in s) u (day_in s) (records t) ≡ low_of (policy_in s) u (day_in s) (records t') → Alike u s t s' t'
  low_alike ok ok' g g' p today e =
      let r = same_rights_on (policy_in s) (policy_in s') p u (records t') in
      let b = alike_of_low (policy_in s) u (day_in s) declared (records t) (records t') (store_nested s t ok) (store_nested s' t' ok') e in
      record {
        start = record { passes = ok; passes' = ok'; rooted = g; rooted' = g'; policy = p; day = today };
        looks = b.0 ∙ ap₂ (λ d ss. view (stored d t' ss)) today r;
        behind = subst (λ xs. Behind (policy_in s) (shown_to u s t) (keep (shown xs) xs)) (ap₂ (λ d ss. stored d t' ss) today r) b.1;
      }

-- A store with the root line taken is alike to itself, for every reader.
behind_self : (P : Policy) (xs : List Stored) → Behind P xs xs
behind_self P [] = tt
behind_self P (x ∷ xs) = ((λ a b. inl (label-self (label x.bytes))), behind_self P xs)

pub alike_self : (u : ℕ) (s t : List ℕ) → store_ok s t ≡ true → stage_c ≤ stage s → Alike u s t s t
alike_self u s t ok g = record {
  start = record { passes = ok; passes' = ok; rooted = g; rooted' = g; policy = same_self (policy_in s); day = refl };
  looks = refl;
  behind = behind_self (policy_in s) (shown_to u s t);
}

-- what holds after a line
module _ (u : ℕ) (s t s' t' : List ℕ) (a : Alike u s t s' t') (i : Input) where
  abbrev Next : Type 0
  Next = Alike u (outcome s t i).state (outcome s t i).table (outcome s' t' i).state (outcome s' t' i).table

  -- a line that leaves the low projections and the days equal leaves the stores alike, if the day is what it was
  next_alike : u < length (policy_in s).names
      → low_of (policy_in s) u (day_in s) (records (outcome s t i).table) ≡ low_of (policy_in s) u (day_in s) (records (outcome s' t' i).table)
      → day_in (outcome s t i).state ≡ day_in (outcome s' t' i).state → day_in (outcome s t i).state ≡ day_in s → Next
  next_alike d e both_days stays =
      let k : policy_in (outcome s t i).state ≡ policy_in s = ap policy_of (policy_kept s t i.line i.room a.start.rooted) in
      let k' : policy_in (outcome s' t' i).state ≡ policy_in s' = ap policy_of (policy_kept s' t' i.line i.room a.start.rooted') in
      low_alike u (outcome s t i).state (outcome s t i).table (outcome s' t' i).state (outcome s' t' i).table
      (subst (λ (P : Policy). u < length P.names) (sym k) d)
      (store_kept s t i.line i.room a.start.passes)
      (store_kept s' t' i.line i.room a.start.passes')
      (rooted_kept s t i.line i.room a.start.rooted)
      (rooted_kept s' t' i.line i.room a.start.rooted')
      (subst (λ (P : Policy). SamePolicy P (policy_in (outcome s' t' i).state)) (sym k) (subst (λ (Q : Policy). SamePolicy (policy_in s) Q) (sym k') a.start.policy))
      both_days
      (rw (k, stays) e)

  -- the other run logs in the subject that this one does
  logs_too : (outcome s t i).reply ≡ (outcome s' t' i).reply → (v : ℕ)
      → LogsIn v s' i.line (answer_of (outcome s' t' i).reply) → LogsIn v s i.line (answer_of (outcome s t i).reply)
  logs_too e v l = record {
    name = l.name;
    form = l.form;
    subject = same-named (policy_in s) (policy_in s') a.start.policy l.name ∙ l.subject;
    said = l.said;
    accepted = ap answer_of e ∙ l.accepted;
  }

  -- A line of the user u
  pub record Goes : Type 0 where
    pub reply : (outcome s t i).reply ≡ (outcome s' t' i).reply
    pub alike : day_in (outcome s t i).state ≡ day_in s → Next
    pub user : UserIs u (outcome s t i).state
    pub user' : UserIs u (outcome s' t' i).state

  user_line : UserIs u s → UserIs u s' → ((v : ℕ) → LogsIn v s i.line (answer_of (outcome s t i).reply) → v ≡ u)
      → ((outcome s t i).reply ≡ refuses table_full → ⊥) → ((outcome s' t' i).reply ≡ refuses table_full → ⊥) → Goes
  user_line w w' other full full' =
      let d = user_declared u s t a.start.passes w in
      let tied : Tied u s t s' t' = record { passes = a.start.passes; passes' = a.start.passes'; user = w; user' = w'; policy = a.start.policy; day = a.start.day; low = alike_low u s t s' t' d a } in
      let m = match_step u s t s' t' tied i.room i.line full full' in
      record {
        reply = m.reply;
        alike = next_alike d m.low m.today;
        user = user_is_kept s t i.line i.room u w other;
        user' = user_is_kept s' t' i.line i.room u w' (λ v l. other v (logs_too m.reply v l));
      }

  -- The line that logs u in: the other run takes it too.
  login_stage : (g : ℕ) → stage_c ≤ g → g ≤ 4 → in_stage stage_e g ≡ true
  login_stage g h k = rw (le-leb g 4 k, le-leb 2 g h)

  login_answer : (l : LogsIn u s i.line (answer_of (outcome s t i).reply)) → (outcome s' t' i).reply ≡ says ok_text
  unfolding step performed checked
  login_answer l =
      let x = taken s t i.line i.room l.said l.accepted in
      let g = login_stage (stage s') a.start.rooted' (store_held s' t' a.start.passes').stages in
      let q : subject_named (policy_in s') l.name ≡ found.Some u =
      sym (same-named (policy_in s) (policy_in s') a.start.policy l.name) ∙ l.subject in
      let fits : length ok_text ≤ i.room = rw l.form at x.fits in
      rw (a.start.passes', x.bytes, l.form, g, q, le-ltb i.room (length ok_text) fits)

  login_line : LogsIn u s i.line (answer_of (outcome s t i).reply) → Goes
  login_line l =
      let e : (outcome s' t' i).reply ≡ says ok_text = login_answer l in
      let l' : LogsIn u s' i.line (answer_of (outcome s' t' i).reply) = record {
        name = l.name;
        form = l.form;
        subject = sym (same-named (policy_in s) (policy_in s') a.start.policy l.name) ∙ l.subject;
        said = length ok_text;
        accepted = ap answer_of e;
      } in
      let said : (outcome s t i).reply ≡ says ok_text =
      ap (λ (o : Outcome). o.reply) (taken s t i.line i.room l.said l.accepted).is
      ∙ ap (λ (f : ReadForm). says (work_of f s t).text) l.form in
      let w = user_is_logged s t i.line i.room u l in
      let k : policy_in (outcome s t i).state ≡ policy_in s = ap policy_of (policy_kept s t i.line i.room a.start.rooted) in
      let n = user_declared u (outcome s t i).state (outcome s t i).table (store_kept s t i.line i.room a.start.passes) w in
      let d : u < length (policy_in s).names = subst (λ (P : Policy). u < length P.names) k n in
      let z = logged_in s t i.line i.room u l in
      let z' = logged_in s' t' i.line i.room u l' in
      record {
        reply = said ∙ sym e;
        alike =
            next_alike d
            (ap (λ x. low_of (policy_in s) u (day_in s) (records x)) z.1 ∙ alike_low u s t s' t' d a ∙ sym (ap (λ x. low_of (policy_in s) u (day_in s) (records x)) z'.1))
            (ap day_in z.0 ∙ day_logged s 4 (suc u) ∙ a.start.day ∙ sym (ap day_in z'.0 ∙ day_logged s' 4 (suc u)));
        user = w;
        user' = user_is_logged s' t' i.line i.room u l';
      }

  -- The next line: of the user u, or the one that logs u in
  next_line : (UserIs u s × UserIs u s') ⊎ LogsIn u s i.line (answer_of (outcome s t i).reply)
      → ((v : ℕ) → LogsIn v s i.line (answer_of (outcome s t i).reply) → v ≡ u)
      → ((outcome s t i).reply ≡ refuses table_full → ⊥) → ((outcome s' t' i).reply ≡ refuses table_full → ⊥) → Goes
  next_line (inl w) other full full' = user_line w.0 w.1 other full full'
  next_line (inr l) other full full' = login_line l

-- the bytes of an answer stand in the area, whatever stood there
answer_bytes : (r : Reply) (x y : List ℕ) (n : ℕ) → answer_of r ≡ answer.Accepted n → take n (area_after r x) ≡ take n (area_after r y)
answer_bytes (says b) x y n e =
    let z : n ≡ length b = cc in
    rw z (take-append_seam b (drop (length b) x) ∙ sym (take-append_seam b (drop (length b) y)))
answer_bytes (refuses k) x y n e = absurd (let z : ◌≡◌ {A = ℕ} 0 1 = cc in omega arith)

-- One call on each of two stores that are alike
module _ (u : ℕ) (s t s' t' : List ℕ) (a : Alike u s t s' t') (c d : Call) (p : Promised s t c) (q : Promised s' t' d)
    (same : c.line ≡ d.line) (long : length c.lent ≡ length d.lent) where
  abbrev i : Input
  i = record { line = c.line; room = length c.lent }

  -- the promise of the second call, on the line and the room of the first
  q' : Made (outcome s' t' i) d.lent d.answer d.state d.table d.area
  q' = rw (same, long) q

  pub record CallsAlike : Type 0 where
    pub answer : SameAnswer c d
    pub alike : day_in c.state ≡ day_in s → Alike u c.state c.table d.state d.table
    pub user : UserIs u c.state
    pub user' : UserIs u d.state

  pub calls_alike : (UserIs u s × UserIs u s') ⊎ LogsIn u s c.line c.answer → ((v : ℕ) → LogsIn v s c.line c.answer → v ≡ u)
      → (c.answer ≡ answer.Refused table_full → ⊥) → (d.answer ≡ answer.Refused table_full → ⊥) → CallsAlike
  calls_alike b other full full' =
      let g = next_line u s t s' t' a i
      (subst (λ r. (UserIs u s × UserIs u s') ⊎ LogsIn u s c.line r) p.answer b)
      (subst (λ r. (v : ℕ) → LogsIn v s c.line r → v ≡ u) p.answer other)
      (λ e. full (p.answer ∙ ap answer_of e)) (λ e. full' (q'.answer ∙ ap answer_of e)) in
      record {
        answer = record {
          returned = p.answer ∙ ap answer_of g.reply ∙ sym q'.answer;
          bytes = λ n e.
              ap (take n) p.area
              ∙ answer_bytes (outcome s t i).reply c.lent d.lent n (sym p.answer ∙ e)
              ∙ ap (λ r. take n (area_after r d.lent)) g.reply
              ∙ sym (ap (take n) q'.area);
        };
        alike = rw (p.state, p.table, q'.state, q'.table) g.alike;
        user = rw p.state g.user;
        user' = rw q'.state g.user';
      }

-- Demand 3, its first sentence.
pub answers_alike : AnswersAlike
answers_alike u s t s' t' a [] ds r r' e b = tt
answers_alike u s t s' t' a (c ∷ cs) [] r r' e b = tt
answers_alike u s t s' t' a (c ∷ cs) (d ∷ ds) r r' e b = λ other full full'.
    let g = calls_alike u s t s' t' a c d r.0 r'.0 e.0 e.1 b other full full' in (
      g.answer,
      λ stays.
          let a' = g.alike stays in
          (a', (g.user, g.user'), answers_alike u c.state c.table d.state d.table a' cs ds r.1 r'.1 e.2 (inl (g.user, g.user'))),
    )
