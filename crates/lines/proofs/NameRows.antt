-- Each check of a path or a name fails exactly if its condition in the paper's words holds. Assumes nothing.
use Rattle.std.specs.Prelude.{Option}
use Rattle.std.specs.Prelude as found
use Prim.Native.Nat.{ℕ, zero, suc, ◌≤◌, ◌<◌}
use mathlib.Core.Path.{◌≡◌, refl, sym, ap, ap₂, ◌∙◌}
use mathlib.Core.Bool.{Bool, true, false, not, and-eq-true_iff}
use mathlib.Core.List.{List, [], ◌∷◌}
use mathlib.Core.Logic.{◌↔◌}
use native.Mathlib.Omega.{arith}
use borrow.Author.Tests.{leb-true, le-leb, ltb-true, ltb-false, lt-ltb, eqb-true, eq-eqb, not-true}
use lib.Dec.{leb, ltb, eqb}
use lib.ListN.{length, get_or}
use Rattle.rights.specs.Labels.{same_label}
use Rattle.rights.specs.Path.{Path}
use Rattle.rights.specs.PathReader.{Got, got, bad, path_of}
use Rattle.rights.specs.Policy.{Policy, some}
use Rattle.rights.specs.PolicyBytes.{policy_of, subject_count, isa_count, rule_count, name_at, isa_from, rules_from}
use Rattle.rights.specs.PolicyCheck.{subject_ok, subjects_ok, policy_ok}
use Rattle.rights.proofs.EveryLaws.{every_at}
use Rattle.rights.proofs.LabelLaws.{same_left}
use Rattle.rights.proofs.ListLaws.{by_case}
use Rattle.rights.proofs.PathComplete.{complete}
use Rattle.rights.proofs.PathSound.{sound}
use Rattle.rights.proofs.PathWritten.{refused_none}
use Rattle.rights.proofs.PolicyBytesLaws.{name_held, names_length}
use Rattle.lines.specs.PolicyEdit.{subject_named, is_unknown, number_in, isa_held, bracketed, has_bracket, steps_in, path_restricted}
use Rattle.lines.specs.UserView.{not_path}
use Rattle.lines.proofs.EditTests.{unknown_new, found_named}
use Rattle.lines.specs.Conditions.{NoPath, PathThat, Named, Declared, Unknown, NotBefore, Repeated, names_restricted}
use Rattle.lines.proofs.ConditionLaws.{clash}

pub not-told : (b : Bool) → (b ≡ false) ↔ (not b ≡ true)
not-told true = (λ e. sym e, λ e. sym e)
not-told false = (λ e. refl, λ e. refl)

pub at_least_told : (a b : ℕ) → (a ≤ b) ↔ (leb a b ≡ true)
at_least_told a b = (le-leb a b, leb-true a b)

pub less_told : (a b : ℕ) → (a < b) ↔ (ltb a b ≡ true)
less_told a b = (lt-ltb a b, ltb-true a b)

pub equal_told : (a b : ℕ) → (a ≡ b) ↔ (eqb a b ≡ true)
equal_told a b = (eq-eqb a b, eqb-true a b)

-- 4, 6 and 9 of a rule's path

is_bad : (g : Got Path) → not_path g ≡ true → g ≡ bad
is_bad (got p i) e = clash {b = false} e refl
is_bad bad e = refl

pub path_told : (text : List ℕ) → NoPath text ↔ (not_path (path_of text) ≡ true)
path_told text = (λ h. rw ((refused_none text).1 h), λ e. (refused_none text).0 (is_bad (path_of text) e))

that_told : (f : Path → Bool) (text : List ℕ) (b : Bool) → ((p : Path) (i : ℕ) → path_of text ≡ got p i → b ≡ f p) → (path_of text ≡ bad → b ≡ false) → PathThat f text ↔ (b ≡ true)
that_told f text b h k = (λ (p, w, e, q). h p _ (ap path_of e ∙ complete p w) ∙ q, go (path_of text) refl)
  where
    go : (g : Got Path) → path_of text ≡ g → b ≡ true → PathThat f text
    go (got p i) z e = let x = sound text p i z in (p, x.1, x.0, sym (h p i z) ∙ e)
    go bad z e = clash e (k z)

pub bracket_told : (text : List ℕ) → PathThat bracketed text ↔ (has_bracket text ≡ true)
unfolding has_bracket
bracket_told text = that_told bracketed text (has_bracket text) (λ p i e. rw e) (λ e. rw e)

pub restricted-told : (text : List ℕ) → PathThat names_restricted text ↔ (path_restricted text ≡ true)
unfolding path_restricted steps_in some
restricted-told text = that_told names_restricted text (path_restricted text) (λ p i e. rw e) (λ e. rw e)

-- 5

some_at : (f : List ℕ → Bool) (xs : List (List ℕ)) (u : ℕ) → u < length xs → f (get_or xs u []) ≡ true → some f xs ≡ true
unfolding some
some_at f [] u h e = absurd (omega arith)
some_at f (x ∷ xs) zero h e = rw e
some_at f (x ∷ xs) (suc u) h e = by_case (f x) (λ b. rw b) (λ b. rw (b, some_at f xs u (omega arith) e))

module _ (P : Policy) (x : List ℕ) where
  no_name : subject_named P x ≡ found.None → Unknown P x
  no_name e u h = clash (some_at (same_label x) P.names u h.0 h.1) (unknown_new P x e)

  pub unknown_told : Unknown P x ↔ (is_unknown (subject_named P x) ≡ true)
  unknown_told = go (subject_named P x) refl
    where
      go : (f : Option ℕ) → subject_named P x ≡ f → Unknown P x ↔ (is_unknown f ≡ true)
      go (found.Some u) e = (λ h. absurd (h u (found_named P x u e)), λ q. clash {b = false} q refl)
      go found.None e = (λ h. refl, λ q. no_name e)

  pub declared_told : Declared P x ↔ (not (is_unknown (subject_named P x)) ≡ true)
  declared_told = go (subject_named P x) refl
    where
      go : (f : Option ℕ) → subject_named P x ≡ f → Declared P x ↔ (not (is_unknown f) ≡ true)
      go (found.Some u) e = (λ h. refl, λ q. (u, found_named P x u e))
      go found.None e = (λ h. absurd (no_name e h.0 h.1), λ q. clash {b = false} q refl)

  -- the number of a known name
  number_of : is_unknown (subject_named P x) ≡ false → Named P (number_in (subject_named P x)) x
  number_of = go (subject_named P x) refl
    where
      go : (f : Option ℕ) → subject_named P x ≡ f → is_unknown f ≡ false → Named P (number_in f) x
      go (found.Some u) e q = found_named P x u e
      go found.None e q = clash {b = true} refl q

-- no two subjects of a policy have one name
module _ (p : List ℕ) (ok : policy_ok p ≡ true) where
  apart : (x : List ℕ) (u v : ℕ) → Named (policy_of p) u x → Named (policy_of p) v x → u < v → ⊥
  unfolding policy_ok subjects_ok subject_ok
  apart x u v a b l =
      let f = simp (policy_ok, and-eq-true_iff) at ok in
      let iu : u < subject_count p = omega (arith, a.0, names_length p) in
      let iv : v < subject_count p = omega (arith, b.0, names_length p) in
      let o = simp (subject_ok, and-eq-true_iff) at (every_at (subject_ok p) (subject_count p) v iv f.1.1.0.1.0) in
      let d : same_label (name_at p u) (name_at p v) ≡ false = not-true (same_label (name_at p u) (name_at p v)) (every_at (λ j. not (same_label (name_at p j) (name_at p v))) v u l o.1) in
      let xu : same_label x (name_at p u) ≡ true = rw (name_held p u iu) at a.1 in
      let xv : same_label x (name_at p v) ≡ true = rw (name_held p v iv) at b.1 in
      clash (sym (same_left x (name_at p u) xu (name_at p v)) ∙ xv) d

  one_name : (x : List ℕ) (u v : ℕ) → Named (policy_of p) u x → Named (policy_of p) v x → u ≡ v
  one_name x u v a b =
      by_case (ltb u v)
      (λ e. absurd (apart x u v a b (ltb-true u v e)))
      (λ e. by_case (ltb v u) (λ q. absurd (apart x v u b a (ltb-true v u q))) (λ q. omega (arith, ltb-false u v e, ltb-false v u q)))

  module _ (n r : List ℕ) (kn : is_unknown (subject_named (policy_of p) n) ≡ false) (kr : is_unknown (subject_named (policy_of p) r) ≡ false) where
    abbrev first : ℕ
    first = number_in (subject_named (policy_of p) n)

    abbrev second : ℕ
    second = number_in (subject_named (policy_of p) r)

    pub before-told : NotBefore (policy_of p) r n ↔ (leb first second ≡ true)
    before-told = (
      λ (v, u, b, a, l). le-leb first second (omega (arith, l, one_name n u first a (number_of (policy_of p) n kn), one_name r v second b (number_of (policy_of p) r kr))),
      λ e. (second, first, number_of (policy_of p) r kr, number_of (policy_of p) n kn, leb-true first second e),
    )

    pub repeated_told : Repeated (policy_of p) n r ↔ (isa_held (policy_of p) first second ≡ true)
    repeated_told = (
      λ (u, v, a, b, e).
          ap₂ (λ i j. isa_held (policy_of p) i j) (one_name n first u (number_of (policy_of p) n kn) a) (one_name r second v (number_of (policy_of p) r kr) b) ∙ e,
      λ e. (first, second, number_of (policy_of p) n kn, number_of (policy_of p) r kr, e),
    )

-- 7

module _ (p : List ℕ) where
  isa_from_lem : (n i : ℕ) → length (isa_from p n i) ≡ n
  unfolding isa_from
  isa_from_lem zero i = refl
  isa_from_lem (suc n) i = ap suc (isa_from_lem n (suc i))

  rules_from_lem : (n i : ℕ) → length (rules_from p n i) ≡ n
  unfolding rules_from
  rules_from_lem zero i = refl
  rules_from_lem (suc n) i = ap suc (rules_from_lem n (suc i))

  pub subjects_told : (64 ≤ length (policy_of p).names) ↔ (leb 64 (subject_count p) ≡ true)
  subjects_told = rw (names_length p) (at_least_told 64 (subject_count p))

  pub isa_told : (128 ≤ length (policy_of p).isa) ↔ (leb 128 (isa_count p) ≡ true)
  unfolding policy_of
  isa_told = rw (isa_from_lem (isa_count p) 0) (at_least_told 128 (isa_count p))

  pub rules_told : (128 ≤ length (policy_of p).rules) ↔ (leb 128 (rule_count p) ≡ true)
  unfolding policy_of
  rules_told = rw (rules_from_lem (rule_count p) 0) (at_least_told 128 (rule_count p))
