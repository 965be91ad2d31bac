-- One line on two stores with the same user, the same policy, the same day and the same low projection: where the checks fail alike, the answers are the same and the effects mark
-- the same shown nodes, there is the same reply, and the same low projection afterwards, unless one of the two is refused for want of free records. Assumes nothing.
use Prim.Native.Nat.{ℕ, ◌+◌, ◌<◌}
use mathlib.Core.Path.{◌≡◌, refl, ap, sym, ◌∙◌, subst}
use mathlib.Core.Bool.{Bool, true, false, false≢true, true≢false}
use mathlib.Core.List.{List, [], ◌∷◌, ◌++◌}
use mathlib.Core.Logic.{◌⊎◌, inl, inr}
use native.Mathlib.Omega.{arith}
use lib.Dec.{eqb}
use lib.ListN.{length}
use Rattle.rights.specs.Policy.{Policy, policy_word}
use Rattle.rights.specs.PolicyBytes.{policy_of, subject_count}
use Rattle.rights.specs.Table.{records, label, table_ok}
use Rattle.views.specs.Change.{too_deep}
use Rattle.views.specs.How.Pass.{AtDone}
use Rattle.views.specs.declared.done.Change.{Change}
use Rattle.views.specs.declared.insert.Place.{Place}
use Rattle.forms.specs.Form.{ReadForm}
use Rattle.lines.specs.State.{policy_bytes, policy_in, day_in, with_day, store_ok}
use Rattle.lines.specs.Effect.{Effect, insertion, renaming, removal, redating, login, dating, reading, state_after, records_after, table_after, Work}
use Rattle.lines.specs.Outcome.{refuses, Outcome}
use Rattle.lines.specs.Refusal.{table_full, Check, checked, Passed}
use Rattle.lines.specs.UserView.{no_user, view_in, marks_in, done_in}
use Rattle.lines.specs.Work.{count_text}
use Rattle.lines.proofs.EditTests.{names_length}
use Rattle.lines.proofs.StateLaws.{store_held, day_staged, day_logged, day_dated}
use Rattle.guarantee.specs.Alike.{SamePolicy, UserIs}
use Rattle.guarantee.proofs.SamePolicy.{same_word}
use Rattle.guarantee.proofs.Sound.{EffectSound}
use Rattle.guarantee.proofs.TableAfter.{table_after_lem}
use Rattle.guarantee.proofs.LowTable.{PublicRecord, low_of, nodes_of, done_low}
use Rattle.guarantee.proofs.LineLow.{select_low, deep_low, done_by, count_low, Marked, remove_low, rename_low, redate_low, place_low, view_in_lem, marks_in_lem, done_in_lem, text_in, deep_in, removed_low, renamed_low, redated_low_lem, placed_low}

-- Two stores of the same user, with the same policy, on the same day, and with the same low projection
pub record Tied (u : ℕ) (s t s' t' : List ℕ) : Type 0 where
  pub passes : store_ok s t ≡ true
  pub passes' : store_ok s' t' ≡ true
  pub user : UserIs u s
  pub user' : UserIs u s'
  pub policy : SamePolicy (policy_in s) (policy_in s')
  pub day : day_in s ≡ day_in s'
  pub low : low_of (policy_in s) u (day_in s) (records t) ≡ low_of (policy_in s) u (day_in s) (records t')

-- a session's user is a declared subject
pub user_declared : (u : ℕ) (s t : List ℕ) → store_ok s t ≡ true → UserIs u s → u < length (policy_in s).names
unfolding policy_of
user_declared u s t e q =
    let h = (store_held s t e).user in
    let n = names_length (policy_bytes s) (subject_count (policy_bytes s)) 0 in
    omega (arith, h, q, n)

pub same_self : (P : Policy) → SamePolicy P P
same_self P = record { names = refl; isa = λ n r. refl; rules = refl }

-- Checks that fail alike, but for 11

abbrev pub CheckAlike : Check → Check → Type 0
CheckAlike c c' = (c.number ≡ c'.number) × ((c.fails ≡ c'.fails) ⊎ (c.number ≡ table_full))

unfoldable pub ChecksAlike : List Check → List Check → Type 0
ChecksAlike [] [] = Unit {0}
ChecksAlike [] (c' ∷ cs') = ⊥
ChecksAlike (c ∷ cs) [] = ⊥
ChecksAlike (c ∷ cs) (c' ∷ cs') = CheckAlike c c' × ChecksAlike cs cs'

pub alike_both : (cs cs' ds ds' : List Check) → ChecksAlike cs cs' → ChecksAlike ds ds' → ChecksAlike (cs ++ ds) (cs' ++ ds')
unfolding ChecksAlike
alike_both [] [] ds ds' a b = b
alike_both [] (c' ∷ cs') ds ds' a b = absurd a
alike_both (c ∷ cs) [] ds ds' a b = absurd a
alike_both (c ∷ cs) (c' ∷ cs') ds ds' a b = (a.0, alike_both cs cs' ds ds' a.1 b)

-- Effects that differ in their marks alone, and mark the same shown nodes

pub record SameMarks (P : Policy) (u day : ℕ) (t t' : List ℕ) (ms ms' : List Bool) : Type 0 where
  pub shown : List PublicRecord → List Bool
  pub here : Marked P u day shown ms t
  pub there : Marked P u day shown ms' t'

pub data EffectAlike (P : Policy) (u day : ℕ) (t t' : List ℕ) : Effect → Effect → Type 0 where
  readings : EffectAlike P u day t t' reading reading
  logins : (v : ℕ) → EffectAlike P u day t t' (login v) (login v)
  datings : (d : ℕ) → EffectAlike P u day t t' (dating d) (dating d)
  insertions : (at : Place) (m : ℕ) (tree : List ℕ) (g g' : ℕ) (ms ms' : List Bool) → SameMarks P u day t t' ms ms'
      → EffectAlike P u day t t' (insertion at ms m tree g) (insertion at ms' m tree g')
  renamings : (l : List ℕ) (ms ms' : List Bool) → SameMarks P u day t t' ms ms' → EffectAlike P u day t t' (renaming l ms) (renaming l ms')
  removals : (ms ms' : List Bool) → SameMarks P u day t t' ms ms' → EffectAlike P u day t t' (removal ms) (removal ms')
  redatings : (f l : ℕ) (ms ms' : List Bool) → SameMarks P u day t t' ms ms' → EffectAlike P u day t t' (redating f l ms) (redating f l ms')

pub record WorkAlike (P : Policy) (u day : ℕ) (t t' : List ℕ) (w w' : Work) : Type 0 where
  pub checks : ChecksAlike w.checks w'.checks
  pub text : w.text ≡ w'.text
  pub effect : EffectAlike P u day t t' w.effect w'.effect

-- What is compared of two outcomes: the low projection is that of the day before

pub record Agrees (P : Policy) (u day : ℕ) (o o' : Outcome) : Type 0 where
  pub reply : o.reply ≡ o'.reply
  pub low : low_of P u day (records o.table) ≡ low_of P u day (records o'.table)
  pub today : day_in o.state ≡ day_in o'.state

-- they agree, unless one is a refusal with 11
abbrev pub Match : Policy → ℕ → ℕ → Outcome → Outcome → Type 0
Match P u day o o' = (o.reply ≡ refuses table_full → ⊥) → (o'.reply ≡ refuses table_full → ⊥) → Agrees P u day o o'

module _ (P : Policy) (u day : ℕ) (s t s' t' : List ℕ) (start : low_of P u day (records t) ≡ low_of P u day (records t')) (today : day_in s ≡ day_in s') where
  -- checks that fail alike refuse alike
  pub match_checked : (cs cs' : List Check) (o o' : Outcome) → ChecksAlike cs cs' → (Passed cs → Passed cs' → Match P u day o o')
      → Match P u day (checked cs s t o) (checked cs' s' t' o')
  unfolding checked ChecksAlike
  match_checked [] [] o o' a k = k tt tt
  match_checked [] (c' ∷ cs') o o' a k = absurd a
  match_checked (c ∷ cs) [] o o' a k = absurd a
  match_checked (c ∷ cs) (c' ∷ cs') o o' a k = go c.fails c'.fails refl refl a.0.1 (λ e e'. match_checked cs cs' o o' a.1 (λ p p'. k (e, p) (e', p')))
    where
      go : (b b' : Bool) → c.fails ≡ b → c'.fails ≡ b' → (c.fails ≡ c'.fails) ⊎ (c.number ≡ table_full)
          → (c.fails ≡ false → c'.fails ≡ false → Match P u day (checked cs s t o) (checked cs' s' t' o')) → Match P u day (checked (c ∷ cs) s t o) (checked (c' ∷ cs') s' t' o')
      go true true e e' q r = rw (e, e') (λ x y. record { reply = ap refuses a.0.0; low = start; today = today })
      go false false e e' q r = rw (e, e') (r e e')
      go true false e e' (inl q) r = absurd (true≢false (sym e ∙ q ∙ e'))
      go false true e e' (inl q) r = absurd (false≢true (sym e ∙ q ∙ e'))
      go true false e e' (inr q) r = rw e (λ x y. absurd (x (ap refuses q)))
      go false true e e' (inr q) r = rw e' (λ x y. absurd (y (ap refuses (sym a.0.0 ∙ q))))

-- what both stores give a line
module _ (u : ℕ) (s t s' t' : List ℕ) (h : Tied u s t s' t') where
  abbrev P : Policy
  P = policy_in s

  abbrev day : ℕ
  day = day_in s

  ok : table_ok t ≡ true
  ok = (store_held s t h.passes).table

  ok' : table_ok t' ≡ true
  ok' = (store_held s' t' h.passes').table

  declared : u < length P.names
  declared = user_declared u s t h.passes h.user

  pub user_both : no_user s ≡ no_user s'
  user_both = ap (λ v. eqb v 0) (h.user ∙ sym h.user')

  pub view_both : view_in s t ≡ view_in s' t'
  view_both = view_in_lem P u day declared s t (same_self P) ok h.user refl ∙ ap nodes_of h.low ∙ sym (view_in_lem P u day declared s' t' h.policy ok' h.user' (sym h.day))

  pub marks_both : (path : List ℕ) → marks_in s t path ≡ marks_in s' t' path
  marks_both path =
      marks_in_lem P u day declared s t (same_self P) ok h.user refl path
      ∙ ap (λ ps. select_low P u day path ps) h.low
      ∙ sym (marks_in_lem P u day declared s' t' h.policy ok' h.user' (sym h.day) path)

  pub text_both : (c : Change) (path : List ℕ) → count_text c s t path ≡ count_text c s' t' path
  text_both c path =
      text_in P u day declared s t (same_self P) ok h.user refl c path
      ∙ ap (λ ps. count_low P u day c path ps) h.low
      ∙ sym (text_in P u day declared s' t' h.policy ok' h.user' (sym h.day) c path)

  pub deep_both : (k : ℕ) (c : Change) (path : List ℕ) → too_deep k (done_in c s t path) (records t) ≡ too_deep k (done_in c s' t' path) (records t')
  deep_both k c path =
      deep_in P u day declared s t (same_self P) ok h.user refl k c path
      ∙ ap (λ ps. deep_low k (done_by P u day c path ps) ps) h.low
      ∙ sym (deep_in P u day declared s' t' h.policy ok' h.user' (sym h.day) k c path)

  pub done_both : (c : Change) (path : List ℕ) → SameMarks P u day t t' (done_in c s t path) (done_in c s' t' path)
  done_both c path = record {
    shown = done_low P u c (select_low P u day path (low_of P u day (records t)));
    here = done_in_lem P u day declared s t (same_self P) ok h.user refl c path;
    there =
        subst (λ ps. Marked P u day (done_low P u c (select_low P u day path ps)) (done_in c s' t' path) t') (sym h.low)
        (done_in_lem P u day declared s' t' h.policy ok' h.user' (sym h.day) c path);
  }

  -- Effects alike leave the same low projection,
  pub low_effect : (f : ReadForm) (e e' : Effect) → EffectAlike P u day t t' e e' → EffectSound f s t e → EffectSound f s' t' e'
      → low_of P u day (records (table_after e t)) ≡ low_of P u day (records (table_after e' t'))
  low_effect f e e' a x x' =
      ap (low_of P u day) (table_after_lem f s t ok e x).held ∙ by a x x' ∙ sym (ap (low_of P u day) (table_after_lem f s' t' ok' e' x').held)
    where
      by : {e e' : Effect} → EffectAlike P u day t t' e e' → EffectSound f s t e → EffectSound f s' t' e'
          → low_of P u day (records_after e (records t)) ≡ low_of P u day (records_after e' (records t'))
      by readings x x' = h.low
      by (logins v) x x' = h.low
      by (datings d) x x' = h.low
      by (insertions at m tree g g' ms ms' w) x x' =
          placed_low P u day t ok w.shown ms w.here at m tree x.good.nested
          ∙ ap (place_low P u day at m tree w.shown) h.low
          ∙ sym (placed_low P u day t' ok' w.shown ms' w.there at m tree x'.good.nested)
      by (renamings l ms ms' w) x x' =
          let q : policy_word P ≡ policy_word (policy_in s') = same_word P (policy_in s') h.policy in
          renamed_low P u day t ok w.shown ms w.here l x.label.short x.no_word x.no_words
          ∙ ap (rename_low P u day l w.shown) h.low
          ∙ sym (renamed_low P u day t' ok' w.shown ms' w.there l x.label.short x.no_word (subst (λ word. AtDone (λ r. word (label r) ≡ false) ms' (records t')) (sym q) x'.no_words))
      by (removals ms ms' w) x x' =
          removed_low P u day t ok w.shown ms w.here
          ∙ ap (remove_low P u day w.shown) h.low
          ∙ sym (removed_low P u day t' ok' w.shown ms' w.there)
      by (redatings f l ms ms' w) x x' =
          redated_low_lem P u day t ok w.shown ms w.here f l x.whole
          ∙ ap (redate_low P u day f l w.shown) h.low
          ∙ sym (redated_low_lem P u day t' ok' w.shown ms' w.there f l x'.whole)

  -- and the same day.
  pub day_effect : (f : ReadForm) (e e' : Effect) → EffectAlike P u day t t' e e' → EffectSound f s t e → day_in (state_after e s) ≡ day_in (state_after e' s')
  day_effect f e e' a x = by a x
    where
      by : {e e' : Effect} → EffectAlike P u day t t' e e' → EffectSound f s t e → day_in (state_after e s) ≡ day_in (state_after e' s')
      by readings x = h.day
      by (logins v) x = day_logged s 4 (v + 1) ∙ h.day ∙ sym (day_logged s' 4 (v + 1))
      by (datings d) x =
          day_staged (with_day d s) 4 ∙ day_dated s d (omega (arith, (store_held s t h.passes).size)) x.day
          ∙ sym (day_staged (with_day d s') 4 ∙ day_dated s' d (omega (arith, (store_held s' t' h.passes').size)) x.day)
      by (insertions at m tree g g' ms ms' w) x = day_staged s g ∙ h.day ∙ sym (day_staged s' g')
      by (renamings l ms ms' w) x = h.day
      by (removals ms ms' w) x = h.day
      by (redatings f l ms ms' w) x = h.day
