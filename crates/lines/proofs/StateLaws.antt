-- What decides whether a session and a store are let pass. Assumes nothing.
use Prim.Native.Nat.{ℕ, suc, ◌+◌, ◌*◌, ◌-◌, ◌/◌, ◌%◌, ◌≤◌, ◌<◌}
use mathlib.Core.Bool.{true, ◌||◌, beq, and-eq-true_iff}
use mathlib.Core.Path.{◌≡◌, refl, ap, ap₂, ◌∙◌}
use mathlib.Core.List.{List, [], ◌∷◌, ◌++◌}
use native.Mathlib.Omega.{arith}
use borrow.Author.Tests.{eq-eqb, eqb-true, leb-true, le-leb}
use lib.Dec.{leb, eqb}
use lib.ListN.{length, get_or, set, take, drop, length-drop}
use lib.Seq.{get_or-drop, drop-drop}
use Rattle.rights.specs.Bytes.{all, is_zero, zeros}
use Rattle.rights.specs.Table.{count, day_ok, table_ok}
use Rattle.rights.specs.PolicyBytes.{subject_count, rule_count}
use Rattle.rights.specs.PolicyCheck.{policy_ok}
use Rattle.rights.proofs.BoolLaws.{or_split, or_right}
use Rattle.rights.proofs.TableLaws.{both}
use Rattle.lines.specs.State.{stage, user_byte, day_in, policy_bytes, with_stage, with_session, with_day, session_ok, state_ok, agrees, store_ok}

module _ (s : List ℕ) where
  pub state_yes : length s ≡ 68880 → policy_ok (policy_bytes s) ≡ true → state_ok s ≡ session_ok s
  unfolding state_ok
  state_yes b d = rw (eq-eqb (length s) 68880 b, d)

  pub state_size_lem : state_ok s ≡ true → length s ≡ 68880
  unfolding state_ok
  state_size_lem e = let f = simp (state_ok, and-eq-true_iff) at e in eqb-true _ _ f.0

module _ (s t : List ℕ) where
  pub store_yes : table_ok t ≡ true → state_ok s ≡ true → store_ok s t ≡ agrees s t
  unfolding store_ok
  store_yes a b = rw (a, b)

-- What a store that passed holds
pub record Held (s t : List ℕ) : Type 0 where
  pub table : table_ok t ≡ true
  pub size : length s ≡ 68880
  pub policy : policy_ok (policy_bytes s) ≡ true
  pub stages : stage s ≤ 4
  pub user : user_byte s ≤ subject_count (policy_bytes s)
  pub day : day_in s ≤ 366
  pub spare : zeros s 4 4 ≡ true
  pub rules : (eqb (rule_count (policy_bytes s)) 0 || leb 1 (stage s)) ≡ true
  pub root : beq (leb 2 (stage s)) (leb 1 (count t)) ≡ true
  pub logged : (eqb (user_byte s) 0 || eqb (stage s) 4) ≡ true

pub store_held : (s t : List ℕ) → store_ok s t ≡ true → Held s t
unfolding store_ok state_ok session_ok
store_held s t e =
    let f = simp (store_ok, and-eq-true_iff) at e in
    record {
      table = f.0;
      size = eqb-true _ _ f.1.0.0;
      policy = f.1.0.1.0;
      stages = leb-true _ _ f.1.0.1.1.0;
      user = leb-true _ _ f.1.0.1.1.1.0;
      day = leb-true _ _ f.1.0.1.1.1.1.0;
      spare = f.1.0.1.1.1.1.1.0;
      rules = f.1.0.1.1.1.1.1.1.0;
      root = f.1.1;
      logged = f.1.0.1.1.1.1.1.1.1;
    }

-- before stage E there is no user; a user is at stage E
pub nobody : (s : List ℕ) → (eqb (user_byte s) 0 || eqb (stage s) 4) ≡ true → stage s < 4 → user_byte s ≡ 0
nobody s e l =
    or_split (eqb (user_byte s) 0) (eqb (stage s) 4) e (λ q. eqb-true (user_byte s) 0 q) (λ q. let z = eqb-true (stage s) 4 q in absurd (omega (arith, z)))

pub user_late : (s : List ℕ) → (eqb (user_byte s) 0 || eqb (stage s) 4) ≡ true → 0 < user_byte s → stage s ≡ 4
user_late s e l =
    or_split (eqb (user_byte s) 0) (eqb (stage s) 4) e (λ q. let z = eqb-true (user_byte s) 0 q in absurd (omega (arith, z))) (λ q. eqb-true (stage s) 4 q)

-- a stage that is put, and one that stays
pub stage-put : (s : List ℕ) (g : ℕ) → 1 ≤ length s → set s 0 g ≡ with_stage g s
stage-put [] g h = absurd (omega arith)
stage-put (x ∷ s) g h = refl

pub same-stage : (s : List ℕ) → 1 ≤ length s → with_stage (stage s) s ≡ s
same-stage [] h = absurd (omega arith)
same-stage (x ∷ s) h = refl

pub session_put : (s : List ℕ) (g u : ℕ) → 2 ≤ length s → set (set s 0 g) 1 u ≡ with_session g u s
session_put [] g u h = absurd (omega arith)
session_put (x ∷ []) g u h = absurd (omega arith)
session_put (x ∷ (y ∷ s)) g u h = refl

-- a day that is put, at stage E
pub day_put : (s : List ℕ) (d : ℕ) → 4 ≤ length s → set (set (set s 0 4) 2 ((d - 1) % 256)) 3 ((d - 1) / 256) ≡ with_stage 4 (with_day d s)
day_put [] d h = absurd (omega arith)
day_put (x ∷ []) d h = absurd (omega arith)
day_put (x ∷ (y ∷ [])) d h = absurd (omega arith)
day_put (x ∷ (y ∷ (z ∷ []))) d h = absurd (omega arith)
day_put (x ∷ (y ∷ (z ∷ (w ∷ s)))) d h = refl

-- The bytes of a state that was written: the policy, the bytes before it, the day

module _ (s : List ℕ) where
  pub policy_staged : (g : ℕ) → policy_bytes (with_stage g s) ≡ policy_bytes s
  policy_staged g = drop-drop 7 1 s

  pub policy_logged : (g u : ℕ) → policy_bytes (with_session g u s) ≡ policy_bytes s
  policy_logged g u = drop-drop 6 2 s

  pub later_staged : (g i : ℕ) → get_or (with_stage g s) (suc i) 0 ≡ get_or s (suc i) 0
  later_staged g i = get_or-drop 1 s i 0 ∙ ap (λ (n : ℕ). get_or s n 0) (omega arith)

  pub later_logged : (g u i : ℕ) → get_or (with_session g u s) (suc (suc i)) 0 ≡ get_or s (suc (suc i)) 0
  later_logged g u i = get_or-drop 2 s i 0 ∙ ap (λ (n : ℕ). get_or s n 0) (omega arith)

  pub day_staged : (g : ℕ) → day_in (with_stage g s) ≡ day_in s
  day_staged g = ap₂ (λ (a b : ℕ). a + b * 256 + 1) (later_staged g 1) (later_staged g 2)

  pub day_logged : (g u : ℕ) → day_in (with_session g u s) ≡ day_in s
  day_logged g u = ap₂ (λ (a b : ℕ). a + b * 256 + 1) (later_logged g u 0) (later_logged g u 1)

  pub spare_staged : (g : ℕ) → zeros (with_stage g s) 4 4 ≡ zeros s 4 4
  spare_staged g = ap (λ (x : List ℕ). all is_zero (take 4 x)) (drop-drop 3 1 s)

  pub spare_logged : (g u : ℕ) → zeros (with_session g u s) 4 4 ≡ zeros s 4 4
  spare_logged g u = ap (λ (x : List ℕ). all is_zero (take 4 x)) (drop-drop 2 2 s)

module _ (s : List ℕ) (d : ℕ) (size : 4 ≤ length s) where
  -- the bytes one by one
  cut : (s : List ℕ) → 4 ≤ length s → s ≡ get_or s 0 0 ∷ get_or s 1 0 ∷ get_or s 2 0 ∷ get_or s 3 0 ∷ drop 4 s
  cut [] h = absurd (omega arith)
  cut (x ∷ []) h = absurd (omega arith)
  cut (x ∷ (y ∷ [])) h = absurd (omega arith)
  cut (x ∷ (y ∷ (z ∷ []))) h = absurd (omega arith)
  cut (x ∷ (y ∷ (z ∷ (w ∷ r)))) h = refl

  pub dated_is : with_day d s ≡ get_or s 0 0 ∷ get_or s 1 0 ∷ (d - 1) % 256 ∷ (d - 1) / 256 ∷ drop 4 s
  dated_is = ap (λ (x : List ℕ). take 2 x ++ ((d - 1) % 256 ∷ (d - 1) / 256 ∷ []) ++ drop 4 s) (cut s size)

  pub policy_dated : policy_bytes (with_day d s) ≡ policy_bytes s
  policy_dated = ap policy_bytes dated_is ∙ drop-drop 4 4 s

  pub user_dated : user_byte (with_day d s) ≡ user_byte s
  user_dated = ap user_byte dated_is

  pub day_dated : day_ok d ≡ true → day_in (with_day d s) ≡ d
  day_dated h = let w = both (leb 1 d) (leb d 366) h in ap day_in dated_is ∙ omega (arith, leb-true 1 d w.0)

  pub spare_dated : zeros (with_day d s) 4 4 ≡ zeros s 4 4
  spare_dated = ap (λ (x : List ℕ). zeros x 4 4) dated_is

  pub length_dated : length (with_day d s) ≡ length s
  length_dated = ap length dated_is ∙ omega (arith, length-drop 4 s)

-- A state with its root line taken and no user yet
pub staged_passes : (s : List ℕ) (g : ℕ) → state_ok s ≡ true → stage s < 4 → 1 ≤ g → g ≤ 4 → state_ok (with_stage g s) ≡ true
unfolding state_ok session_ok
staged_passes s g ok early low high =
    let f = simp (state_ok, and-eq-true_iff) at ok in
    let u = nobody s f.1.1.1.1.1.1.1 early in
    rw (
      eq-eqb (length (with_stage g s)) 68880 (omega (arith, length-drop 1 s, eqb-true (length s) 68880 f.0)),
      policy_staged s g,
      f.1.0,
      le-leb g 4 high,
      later_staged s g 0,
      u,
      day_staged s g,
      f.1.1.1.1.0,
      spare_staged s g,
      f.1.1.1.1.1.0,
      or_right (eqb (rule_count (policy_bytes s)) 0) (leb 1 g) (le-leb 1 g low),
      le-leb 0 (subject_count (policy_bytes s)) (omega arith),
    )
