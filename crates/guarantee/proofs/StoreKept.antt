-- What 13 lets pass before an effect that is sound, it lets pass after it. Assumes nothing.
use Prim.Native.Nat.{ℕ, ◌+◌, ◌*◌, ◌≤◌, ◌<◌}
use mathlib.Core.Path.{◌≡◌, refl, sym, ap, ap₂, ◌∙◌}
use mathlib.Core.Bool.{true, false}
use mathlib.Core.List.{List}
use native.Mathlib.Omega.{arith}
use borrow.Author.Tests.{eq-eqb, ne_eqb, leb-true, le-leb, lt-leb}
use lib.Dec.{leb, eqb}
use lib.ListN.{length, get_or, take, drop, length-append, length-drop, get_or-append}
use lib.Seq.{take_at, drop_at, get_or-take, length-take-le}
use Rattle.rights.specs.Bytes.{all, is_zero, zeros}
use Rattle.rights.specs.PolicyBytes.{subject_count, rule_count}
use Rattle.rights.specs.PolicyCheck.{policy_ok}
use Rattle.rights.specs.Table.{count, day_ok, records, table_ok}
use Rattle.rights.proofs.TableLaws.{both}
use Rattle.rights.proofs.XPathLists.{or_right}
use Rattle.views.proofs.TableKept.{length-records}
use Rattle.lines.specs.State.{stage, user_byte, day_in, with_stage, with_session, with_day, with_policy, policy_bytes, session_ok, state_ok, store_ok}
use Rattle.rights.proofs.PartLaws.{part_in}
use Rattle.rights.proofs.PolicyPartLaws.{parts}
use Rattle.lines.proofs.StateLaws.{Held, store_held, nobody, policy_staged, policy_logged, later_staged, day_staged, day_logged, spare_staged, spare_logged, policy_dated, user_dated, day_dated, spare_dated, length_dated}
use Rattle.lines.proofs.EditTests.{found_subject}
use Rattle.forms.specs.Form.{ReadForm}
use Rattle.lines.specs.Effect.{Effect, policy, root, insertion, renaming, removal, redating, login, dating, reading, state_after, records_after, table_after}
use Rattle.guarantee.proofs.FormSound.{agree}
use Rattle.guarantee.proofs.Sound.{PolicySound, EffectSound}
use Rattle.guarantee.proofs.TableAfter.{TableHolds, table_after_lem}

-- The bytes of a state that was written

module _ (s : List ℕ) where
  module _ (p : List ℕ) (size : 8 ≤ length s) where
    pub session_kept : (i : ℕ) → i < 8 → get_or (with_policy p s) i 0 ≡ get_or s i 0
    session_kept i l = get_or-append (take 8 s) p 0 i (omega (arith, length-take-le 8 s size)) ∙ get_or-take 8 s i 0 l

    policy_back : policy_bytes (with_policy p s) ≡ p
    policy_back = drop_at (take 8 s) p 8 (length-take-le 8 s size)

    length-with : length (with_policy p s) ≡ 8 + length p
    length-with = omega (arith, length-append (take 8 s) p, length-take-le 8 s size)

    day-with : day_in (with_policy p s) ≡ day_in s
    day-with = ap₂ (λ (a b : ℕ). a + b * 256 + 1) (session_kept 2 (omega arith)) (session_kept 3 (omega arith))

    spare-with : zeros (with_policy p s) 4 4 ≡ zeros s 4 4
    spare-with =
        ap (all is_zero)
        (part_in (with_policy p s) 0 8 4 4 (omega arith) ∙ ap (λ (x : List ℕ). take 4 (drop 4 x)) (take_at (take 8 s) p 8 (length-take-le 8 s size)) ∙ sym (part_in s 0 8 4 4 (omega arith)))

-- what a store holds is what lets it pass
pub held-passes : (s t : List ℕ) → Held s t → store_ok s t ≡ true
unfolding store_ok state_ok session_ok
held-passes s t h =
    rw (h.table, eq-eqb (length s) 68880 h.size, h.policy, le-leb (stage s) 4 h.stages, le-leb (user_byte s) (subject_count (policy_bytes s)) h.user, le-leb (day_in s) 366 h.day, h.spare, h.rules, h.logged) h.root

-- The session beside the stage

module _ (s t : List ℕ) (h : Held s t) where
  pub root_held : 2 ≤ stage s → 1 ≤ count t
  root_held l = leb-true 1 (count t) (agree (leb 2 (stage s)) (leb 1 (count t)) h.root ∙ le-leb 2 (stage s) l)

  no_root : stage s < 2 → leb 1 (count t) ≡ false
  no_root l = agree (leb 2 (stage s)) (leb 1 (count t)) h.root ∙ lt-leb 2 (stage s) l

  -- another table with a root, and another stage behind C that is E where the stage was
  staged_held : (t' : List ℕ) (g : ℕ) → table_ok t' ≡ true → 1 ≤ count t' → 2 ≤ g → g ≤ 4 → eqb g 4 ≡ eqb (stage s) 4 → Held (with_stage g s) t'
  staged_held t' g ok c low high e = record {
    table = ok;
    size = omega (arith, length-drop 1 s, h.size);
    policy = ap policy_ok (policy_staged s g) ∙ h.policy;
    stages = high;
    user = rw (policy_staged s g) (omega (arith, later_staged s g 0, h.user));
    day = omega (arith, day_staged s g, h.day);
    spare = spare_staged s g ∙ h.spare;
    rules = or_right (eqb (rule_count (policy_bytes (with_stage g s))) 0) (leb 1 g) (le-leb 1 g (omega arith));
    root = rw (le-leb 2 g low, le-leb 1 (count t') c);
    logged = rw (e, later_staged s g 0) h.logged;
  }

  -- another table with a root
  table_held : (t' : List ℕ) → table_ok t' ≡ true → 2 ≤ stage s → 1 ≤ count t' → Held s t'
  table_held t' ok l c = record {
    table = ok;
    size = h.size;
    policy = h.policy;
    stages = h.stages;
    user = h.user;
    day = h.day;
    spare = h.spare;
    rules = h.rules;
    root = rw (le-leb 2 (stage s) l, le-leb 1 (count t') c);
    logged = h.logged;
  }

  -- `(user N)`
  logged_held : (u : ℕ) → u < subject_count (policy_bytes s) → 2 ≤ stage s → Held (with_session 4 (u + 1) s) t
  logged_held u d l = record {
    table = h.table;
    size = omega (arith, length-drop 2 s, h.size);
    policy = ap policy_ok (policy_logged s 4 (u + 1)) ∙ h.policy;
    stages = omega arith;
    user = rw (policy_logged s 4 (u + 1)) (omega (arith, d));
    day = omega (arith, day_logged s 4 (u + 1), h.day);
    spare = spare_logged s 4 (u + 1) ∙ h.spare;
    rules = or_right (eqb (rule_count (policy_bytes (with_session 4 (u + 1) s))) 0) true refl;
    root = rw (le-leb 1 (count t) (root_held l));
    logged = or_right (eqb (u + 1) 0) true refl;
  }

  -- `(day D)`
  dated_held : (d : ℕ) → day_ok d ≡ true → 2 ≤ stage s → Held (with_stage 4 (with_day d s)) t
  dated_held d e l =
      let size : 4 ≤ length s = omega (arith, h.size) in
      let w = with_day d s in
      let p : policy_bytes (with_stage 4 w) ≡ policy_bytes s = policy_staged w 4 ∙ policy_dated s d size in
      let u : user_byte (with_stage 4 w) ≡ user_byte s = later_staged w 4 0 ∙ user_dated s d size in
      let today : day_in (with_stage 4 w) ≡ d = day_staged w 4 ∙ day_dated s d size e in
      record {
        table = h.table;
        size = omega (arith, length-drop 1 w, length_dated s d size, h.size);
        policy = ap policy_ok p ∙ h.policy;
        stages = omega arith;
        user = rw p (omega (arith, u, h.user));
        day = omega (arith, today, leb-true d 366 (both (leb 1 d) (leb d 366) e).1);
        spare = spare_staged w 4 ∙ spare_dated s d size ∙ h.spare;
        rules = or_right (eqb (rule_count (policy_bytes (with_stage 4 w))) 0) true refl;
        root = rw (le-leb 1 (count t) (root_held l));
        logged = or_right (eqb (user_byte (with_stage 4 w)) 0) true refl;
      }

  -- the lines of A and B
  policy_held : (p : List ℕ) (g : ℕ) → PolicySound s p g → Held (with_stage g (with_policy p s)) t
  policy_held p g x =
      let size : 8 ≤ length s = omega (arith, h.size) in
      let w = with_policy p s in
      let e : policy_bytes (with_stage g w) ≡ p = policy_staged w g ∙ policy_back s p size in
      let u : user_byte (with_stage g w) ≡ 0 = later_staged w g 0 ∙ session_kept s p size 1 (omega arith) ∙ nobody s h.logged (omega (arith, x.early)) in
      record {
        table = h.table;
        size = omega (arith, length-drop 1 w, length-with s p size, (parts p x.ok).long);
        policy = ap policy_ok e ∙ x.ok;
        stages = omega (arith, x.before_root);
        user = omega (arith, u);
        day = omega (arith, day_staged w g, day-with s p size, h.day);
        spare = spare_staged w g ∙ spare-with s p size ∙ h.spare;
        rules = rw e x.rules;
        root = rw (lt-leb 2 g x.before_root, no_root x.early);
        logged = rw u;
      }

-- Each effect

pub held_after : (f : ReadForm) (s t : List ℕ) → store_ok s t ≡ true → (e : Effect) → EffectSound f s t e → Held (state_after e s) (table_after e t)
held_after f s t ok e x = by e x (table_after_lem f s t (store_held s t ok).table e x)
  where
    h : Held s t
    h = store_held s t ok

    by : (e : Effect) → EffectSound f s t e → TableHolds t (table_after e t) (records_after e (records t)) → Held (state_after e s) (table_after e t)
    by (policy p g) x y = policy_held s t h p g x
    by (root l) x y =
        staged_held s t h (table_after (root l) t) 2 y.ok (omega (arith, sym (length-records (table_after (root l) t)) ∙ ap length y.held)) (omega arith) (omega arith)
        (sym (ne_eqb (stage s) 4 (λ q. omega (arith, x.early))))
    by (insertion at ms m tree g) x y =
        staged_held s t h (table_after (insertion at ms m tree g) t) g y.ok (y.rooted (root_held s t h x.rooted)) x.behind_root x.stages x.session
    by (renaming l ms) x y = table_held s t h (table_after (renaming l ms) t) y.ok x.rooted (y.rooted (root_held s t h x.rooted))
    by (removal ms) x y = table_held s t h (table_after (removal ms) t) y.ok x.rooted (y.rooted (root_held s t h x.rooted))
    by (redating g l ms) x y = table_held s t h (table_after (redating g l ms) t) y.ok x.rooted (y.rooted (root_held s t h x.rooted))
    by (dating d) x y = dated_held s t h d x.day x.rooted
    by (login u) x y = logged_held s t h u (found_subject (policy_bytes s) x.name u h.policy x.named).declared x.rooted
    by reading x y = h
