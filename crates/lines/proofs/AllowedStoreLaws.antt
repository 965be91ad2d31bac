-- A store passes the check exactly if state and table hold what document 01 allows, and nothing else. Assumes nothing.
use Prim.Native.Nat.{ℕ, zero, suc, ◌+◌, ◌*◌, ◌-◌, ◌/◌, ◌%◌, ◌≤◌, ◌<◌}
use mathlib.Core.Path.{◌≡◌, refl, sym, ap, ap₂, ◌∙◌}
use mathlib.Core.Bool.{Bool, true, false, ◌||◌, beq, and-eq-true_iff}
use mathlib.Core.List.{List, [], ◌∷◌, ◌++◌}
use mathlib.Core.Option.{Option, none, some}
use native.Mathlib.Omega.{arith}
use borrow.Author.Tests.{leb-true, leb-false, le-leb, eqb-true, eq-eqb}
use lib.Dec.{leb, eqb}
use lib.ListN.{length, get_or, take, drop, replicate, take-append-drop, length-drop}
use lib.Seq.{length-take-le}
use Rattle.rights.specs.Bytes.{all, zeros}
use Rattle.rights.specs.Nodes.{DatedNode}
use Rattle.rights.specs.Policy.{Policy}
use Rattle.rights.specs.PolicyBytes.{subject_count, rule_count, rules_from, policy_of}
use Rattle.rights.specs.PolicyCheck.{policy_ok}
use Rattle.rights.specs.Table.{count}
use Rattle.rights.specs.Held.{held_policy, dated_nodes}
use Rattle.rights.proofs.BoolLaws.{or_split, or_left, or_right}
use Rattle.rights.proofs.ListLaws.{by_case}
use Rattle.rights.proofs.PolicyBytesLaws.{names_length}
use Rattle.rights.proofs.PolicyPartLaws.{parts}
use Rattle.rights.proofs.PlaceLaws.{zero_replicate}
use Rattle.rights.proofs.AllowedPolicyLaws.{policy_allowed}
use Rattle.rights.proofs.HeldPolicyLaws.{allowed_policy}
use Rattle.rights.proofs.AllowedTableLaws.{dated_counted, table_allowed, allowed_table}
use Rattle.lines.specs.State.{stage, user_byte, day_in, policy_bytes, session_ok, state_ok, store_ok}
use Rattle.lines.specs.Allowed.{Session, AllowedSession, user_held, held_session, user_in, session_in, HoldsSession, HoldsStore}
use Rattle.lines.proofs.StateLaws.{store_yes, state_yes, user_late}

-- two tests that agree
agree : (a b : Bool) → (a ≡ true → b ≡ true) → (b ≡ true → a ≡ true) → beq a b ≡ true
agree true true f g = refl
agree true false f g = f refl
agree false true f g = g refl
agree false false f g = refl

agrees-yes : (a b : Bool) → beq a b ≡ true → (a ≡ true → b ≡ true) × (b ≡ true → a ≡ true)
agrees-yes true true e = ((λ x. refl), λ x. refl)
agrees-yes true false e = ((λ x. e), λ x. refl)
agrees-yes false true e = ((λ x. refl), λ x. e)
agrees-yes false false e = ((λ x. x), λ x. x)

-- the user's byte
user_back : (u : Option ℕ) → user_in (user_held u) ≡ u
user_back none = refl
user_back (some u) = refl

user_made : (b : ℕ) → user_held (user_in b) ≡ b
user_made zero = refl
user_made (suc b) = refl

user_is : (b u : ℕ) → user_in b ≡ some u → b ≡ suc u
user_is b u e = sym (user_made b) ∙ ap user_held e

-- the rules of a policy without any
no_rules_lem : (p : List ℕ) → rule_count p ≡ 0 → (policy_of p).rules ≡ []
unfolding policy_of rules_from
no_rules_lem p e = ap (λ (n : ℕ). rules_from p n 0) e

rules_from_lem : (p : List ℕ) (n i : ℕ) → length (rules_from p n i) ≡ n
unfolding rules_from
rules_from_lem p zero i = refl
rules_from_lem p (suc n) i = ap suc (rules_from_lem p n (suc i))

rules_none : (p : List ℕ) → (policy_of p).rules ≡ [] → rule_count p ≡ 0
unfolding policy_of
rules_none p e = sym (rules_from_lem p (rule_count p) 0) ∙ ap length e

-- A state that passes
module _ (s : List ℕ) (ok : state_ok s ≡ true) where
  record Passed : Type 0 where
    size : length s ≡ 68880
    policy : policy_ok (policy_bytes s) ≡ true
    stages : stage s ≤ 4
    user : user_byte s ≤ subject_count (policy_bytes s)
    day : day_in s ≤ 366
    spare : zeros s 4 4 ≡ true
    rules : stage s ≡ 0 → rule_count (policy_bytes s) ≡ 0
    logged : (eqb (user_byte s) 0 || eqb (stage s) 4) ≡ true

  passed : Passed
  unfolding state_ok session_ok
  passed =
      let f = simp (state_ok, and-eq-true_iff) at ok in
      record {
        size = eqb-true _ _ f.0;
        policy = f.1.0;
        stages = leb-true _ _ f.1.1.0;
        user = leb-true _ _ f.1.1.1.0;
        day = leb-true _ _ f.1.1.1.1.0;
        spare = f.1.1.1.1.1.0;
        rules = λ e. or_split (eqb (rule_count (policy_bytes s)) 0) _ f.1.1.1.1.1.1.0 (λ q. eqb-true _ _ q) (λ q. absurd (omega (arith, e, leb-true 1 (stage s) q)));
        logged = f.1.1.1.1.1.1.1;
      }

  session_allowed : AllowedSession (session_in s)
  session_allowed =
      let h = passed in
      record {
        policy = (policy_allowed (policy_bytes s) h.policy).allowed;
        stage = h.stages;
        rules = λ e. no_rules_lem (policy_bytes s) (h.rules e);
        user = λ u e.
            let b = user_is (user_byte s) u e in
            (user_late s h.logged (omega (arith, b)), omega (arith, b, h.user, names_length (policy_bytes s)));
        day = (omega arith, h.day);
      }

  session_bytes : ((i : ℕ) → get_or s i 0 < 256) → s ≡ held_session (session_in s)
  session_bytes b =
      let h = passed in
      cut s (omega (arith, h.size)) (zero_replicate (take 4 (drop 4 s)) h.spare ∙ ap (λ (k : ℕ). replicate k 0) (length-take-le 4 (drop 4 s) (omega (arith, h.size, length-drop 4 s))))
      ∙ ap₂ (λ (u : ℕ) (p : List ℕ). stage s ∷ u ∷ get_or s 2 0 ∷ get_or s 3 0 ∷ 0 ∷ 0 ∷ 0 ∷ 0 ∷ p) (sym (user_made (user_byte s))) (policy_allowed (policy_bytes s) h.policy).bytes
      ∙ ap₂ (λ (x y : ℕ). stage s ∷ user_held (user_in (user_byte s)) ∷ x ∷ y ∷ 0 ∷ 0 ∷ 0 ∷ 0 ∷ held_policy (policy_of (policy_bytes s)))
      (low_byte (get_or s 2 0) (get_or s 3 0) (b 2)) (high_byte (get_or s 2 0) (get_or s 3 0) (b 2))
    where
      cut : (s : List ℕ) → 8 ≤ length s → take 4 (drop 4 s) ≡ replicate 4 0 → s ≡ stage s ∷ user_byte s ∷ get_or s 2 0 ∷ get_or s 3 0 ∷ 0 ∷ 0 ∷ 0 ∷ 0 ∷ policy_bytes s
      cut [] l e = absurd (omega arith)
      cut (x ∷ []) l e = absurd (omega arith)
      cut (x ∷ (y ∷ [])) l e = absurd (omega arith)
      cut (x ∷ (y ∷ (z ∷ []))) l e = absurd (omega arith)
      cut (x ∷ (y ∷ (z ∷ (w ∷ r)))) l e = ap (λ (l : List ℕ). x ∷ (y ∷ (z ∷ (w ∷ l)))) (sym (take-append-drop 4 r) ∙ ap (λ (l : List ℕ). l ++ drop 4 r) e)

      low_byte : (x y : ℕ) → x < 256 → x ≡ (x + y * 256 + 1 - 1) % 256
      low_byte x y h = omega arith

      high_byte : (x y : ℕ) → x < 256 → y ≡ (x + y * 256 + 1 - 1) / 256
      high_byte x y h = omega arith

-- 13, for a state of lent bytes: what passes is what document 01 allows, and nothing else stands in its bytes.
pub state_allowed : (s : List ℕ) → ((i : ℕ) → get_or s i 0 < 256) → state_ok s ≡ true → HoldsSession s (session_in s)
state_allowed s b ok = record { allowed = session_allowed s ok; bytes = session_bytes s ok b }

-- A session that is allowed, as it is held
module _ (z : Session) (h : AllowedSession z) where
  policy_back : (policy_ok (held_policy z.policy) ≡ true) × (policy_of (held_policy z.policy) ≡ z.policy)
  policy_back = allowed_policy (held_policy z.policy) z.policy (record { allowed = h.policy; bytes = refl })

  subjects : subject_count (held_policy z.policy) ≡ length z.policy.names
  subjects = sym (names_length (held_policy z.policy)) ∙ ap (λ (P : Policy). length P.names) policy_back.1

  user_low : (u : Option ℕ) → z.user ≡ u → user_held u ≤ length z.policy.names
  user_low none e = omega arith
  user_low (some u) e = omega (arith, (h.user u e).1)

  user_at_e_lem : (u : Option ℕ) → z.user ≡ u → (eqb (user_held u) 0 || eqb z.stage 4) ≡ true
  user_at_e_lem none e = refl
  user_at_e_lem (some u) e = or_right (eqb (suc u) 0) (eqb z.stage 4) (eq-eqb z.stage 4 (h.user u e).0)

  day_back : (z.day - 1) % 256 + (z.day - 1) / 256 * 256 + 1 ≡ z.day
  day_back = omega (arith, h.day.0)

  rules_late : (eqb (rule_count (held_policy z.policy)) 0 || leb 1 z.stage) ≡ true
  rules_late = by_case (leb 1 z.stage)
      (λ e. or_right (eqb (rule_count (held_policy z.policy)) 0) (leb 1 z.stage) e)
      (λ e. or_left (eqb (rule_count (held_policy z.policy)) 0) (leb 1 z.stage)
      (eq-eqb _ _ (rules_none (held_policy z.policy) (ap (λ (P : Policy). P.rules) policy_back.1 ∙ h.rules (omega (arith, leb-false 1 z.stage e))))))

  session_passes : session_ok (held_session z) ≡ true
  unfolding session_ok all
  session_passes = rw (
    le-leb z.stage 4 h.stage,
    le-leb (user_held z.user) (subject_count (held_policy z.policy)) (omega (arith, user_low z.user refl, subjects)),
    day_back,
    le-leb z.day 366 h.day.1,
    rules_late,
    user_at_e_lem z.user refl,
  )

  state_passes : state_ok (held_session z) ≡ true
  state_passes =
      state_yes (held_session z) (omega (arith, (parts (held_policy z.policy) policy_back.0).long)) policy_back.0
      ∙ session_passes

  session_back : session_in (held_session z) ≡ z
  session_back = make (user_back z.user) day_back policy_back.1
    where
      make : {g : ℕ} {u u' : Option ℕ} {d d' : ℕ} {P P' : Policy} → u ≡ u' → d ≡ d' → P ≡ P'
          → ◌≡◌ {A = Session} (record { stage = g; user = u; day = d; policy = P }) (record { stage = g; user = u'; day = d'; policy = P' })
      make a b c = rw (a, b, c)

-- The other way: bytes that hold a session that document 01 allows pass, and that session is read of them.
pub allowed_state : (s : List ℕ) (z : Session) → HoldsSession s z → (state_ok s ≡ true) × (session_in s ≡ z)
allowed_state s z h = (ap state_ok h.bytes ∙ state_passes z h.allowed, ap session_in h.bytes ∙ session_back z h.allowed)

-- 13: a store of lent bytes passes exactly if state and table hold what document 01 allows.
pub store_allowed : (s t : List ℕ) → ((i : ℕ) → get_or s i 0 < 256) → ((i : ℕ) → get_or t i 0 < 256) → store_ok s t ≡ true → HoldsStore s t (session_in s) (dated_nodes t)
unfolding store_ok
store_allowed s t lent-state lent-table ok =
    let f = simp (store_ok, and-eq-true_iff) at ok in
    let a = agrees-yes (leb 2 (stage s)) (leb 1 (count t)) f.1.1 in
    record {
      state = state_allowed s lent-state f.1.0;
      table = table_allowed t lent-table f.0;
      root = λ h. leb-true 2 (stage s) (a.1 (le-leb 1 (count t) (omega (arith, h, dated_counted t))));
      root_line = λ h. let c = leb-true 1 (count t) (a.0 (le-leb 2 (stage s) h)) in omega (arith, c, dated_counted t);
    }

pub allowed_store : (s t : List ℕ) (z : Session) (nodes : List DatedNode) → HoldsStore s t z nodes → (store_ok s t ≡ true) × (session_in s ≡ z) × (dated_nodes t ≡ nodes)
allowed_store s t z nodes h =
    let a = allowed_state s z h.state in
    let b = allowed_table t nodes h.table in
    let g : stage s ≡ z.stage = ap (λ (y : Session). y.stage) a.1 in
    let c : length nodes ≡ count t = ap length (sym b.1) ∙ dated_counted t in (
      store_yes s t b.0 a.0
          ∙ agree (leb 2 (stage s)) (leb 1 (count t))
          (λ e. le-leb 1 (count t) (omega (arith, c, h.root_line (omega (arith, g, leb-true 2 (stage s) e)))))
          (λ e. le-leb 2 (stage s) (omega (arith, g, h.root (omega (arith, c, leb-true 1 (count t) e))))),
      a.1,
      b.1,
    )
