-- The subjects for which `$` stands: they are subjects of the policy, and their names are the labels that pass `$`. Only `own_names` uses for whom it stands. Assumes nothing.
use Prim.Native.Nat.{ℕ, zero, suc, ◌+◌, ◌-◌, ◌≤◌, ◌<◌}
use mathlib.Core.Bool.{Bool, true, false, ◌||◌, or-true, or-false, or_assoc, false≢true}
use mathlib.Core.Path.{◌≡◌, refl, sym, ap, ap₂, ◌∙◌, subst, fun_ext}
use mathlib.Core.List.{List, [], ◌∷◌, ◌++◌}
use native.Mathlib.Nat.{sub-zero}
use native.Mathlib.Numerals.{add-one}
use native.Mathlib.Omega.{arith}
use borrow.Author.Tests.{ltb-true, ltb-false, eqb-true, eqb-false, eq-eqb}
use lib.Dec.{ltb, eqb}
use lib.ListN.{length, take, drop, get_or, length-append, get_or-append}
use lib.Seq.{take-suc, get_or-append_seam}
use Rattle.rights.specs.Labels.{same_label}
use Rattle.rights.specs.Policy.{Policy, name_of, some}
use Rattle.rights.specs.Isa.{is_by, stands_for, subjects_where, passes_own, NamesOf}
use Rattle.rights.specs.PolicyBytes.{policy_of, name_at}
use Rattle.rights.specs.How.Roles.{Own, OwnFirst, Subjects, name_among}
use Rattle.rights.specs.How.Automaton.{Sound}
use Rattle.rights.proofs.PolicyBytesLaws.{names_length, name_held}
use Rattle.rights.proofs.BoolLaws.{both_ways, or_left, or_right, or_split}
use Rattle.rights.proofs.LabelLaws.{same_self}
use Rattle.rights.proofs.ListLaws.{by_case}

pub some_more : {A : Type 0} (g : A → Bool) (xs : List A) (x : A) → some g (xs ++ (x ∷ [])) ≡ some g xs || g x
unfolding some
some_more g [] x = or-false (g x)
some_more g (y ∷ xs) x = ap (λ (b : Bool). g y || b) (some_more g xs x) ∙ sym (or_assoc (g y) (some g xs) (g x))

pub some_at : (g : ℕ → Bool) (xs : List ℕ) (i : ℕ) → i < length xs → g (get_or xs i 0) ≡ true → some g xs ≡ true
unfolding some
some_at g [] i h e = absurd (omega arith)
some_at g (x ∷ xs) zero h e = rw e
some_at g (x ∷ xs) (suc i) h e = rw (some_at g xs i (omega arith) e) (or-true (g x))

pub some_no : (g : ℕ → Bool) (xs : List ℕ) → ((i : ℕ) → i < length xs → g (get_or xs i 0) ≡ false) → some g xs ≡ false
unfolding some
some_no g [] h = refl
some_no g (x ∷ xs) h = rw (h 0 (omega arith)) (some_no g xs (λ i l. h (suc i) (omega arith)))

module _ (f : ℕ → Bool) where
  pub where_few : (n : ℕ) → length (subjects_where f n) ≤ n
  unfolding subjects_where
  where_few zero = omega arith
  where_few (suc n) =
      by_case (f n)
      (λ e. rw e (omega (arith, length-append (subjects_where f n) (n ∷ []), where_few n)))
      (λ e. rw e (omega (arith, where_few n)))

  pub where_below : (n i : ℕ) → i < length (subjects_where f n) → get_or (subjects_where f n) i 0 < n
  unfolding subjects_where
  where_below zero i h = absurd (omega arith)
  where_below (suc n) i h =
      let xs = subjects_where f n in
      by_case (f n)
      (λ e. rw e
      (by_case (ltb i (length xs))
      (λ l. let k = ltb-true i (length xs) l in omega (arith, get_or-append xs (n ∷ []) 0 i k, where_below n i k))
      (λ l. let z : i ≡ length xs = omega (arith, ltb-false i (length xs) l, rw e at h, length-append xs (n ∷ [])) in
      rw (z, get_or-append_seam xs n [] 0) (omega arith))))
      (λ e. rw e (omega (arith, where_below n i (rw e at h))))

  pub where_some : (g h : ℕ → Bool) (n : ℕ) → ((k : ℕ) → k < n → g k ≡ h k) → some g (subjects_where f n) ≡ some h (subjects_where f n)
  unfolding subjects_where some
  where_some g h zero e = refl
  where_some g h (suc n) e =
      let ih = where_some g h n (λ k l. e k (omega arith)) in
      by_case (f n)
      (λ q. rw q (some_more g (subjects_where f n) n ∙ ap₂ ◌||◌ ih (e n (omega arith)) ∙ sym (some_more h (subjects_where f n) n)))
      (λ q. rw q ih)

  pub where_found : (g : ℕ → Bool) (n : ℕ) → some g (subjects_where f n) ≡ true → (k : ℕ) × (k < n) × (f k ≡ true) × (g k ≡ true)
  unfolding subjects_where some
  where_found g zero e = absurd (false≢true e)
  where_found g (suc n) e =
      let below : some g (subjects_where f n) ≡ true → (k : ℕ) × (k < suc n) × (f k ≡ true) × (g k ≡ true) =
      λ q. let r = where_found g n q in (r.0, omega (arith, r.1), r.2, r.3) in
      by_case (f n)
      (λ z. or_split (some g (subjects_where f n)) (g n) (sym (some_more g (subjects_where f n) n) ∙ (rw z at e)) below (λ q. (n, omega arith, z, q)))
      (λ z. below (rw z at e))

  where_has : (g : ℕ → Bool) (n k : ℕ) → k < n → f k ≡ true → g k ≡ true → some g (subjects_where f n) ≡ true
  unfolding subjects_where
  where_has g zero k h e q = absurd (omega arith)
  where_has g (suc n) k h e q =
      by_case (eqb k n)
      (λ z. let y = eqb-true k n z in rw (← y, e, some_more g (subjects_where f k) k) (or_right (some g (subjects_where f k)) (g k) q))
      (λ z. let ih = where_has g n k (omega (arith, eqb-false k n z)) e q in
      by_case (f n)
      (λ y. rw (y, some_more g (subjects_where f n) n) (or_left (some g (subjects_where f n)) (g n) ih))
      (λ y. rw y ih))

module _ {p ks : List ℕ} {u : ℕ} (own : Own p u ks) where
  pub own_sound : Sound p → Subjects p ks
  own_sound s =
      let f = stands_for (policy_of p) u in
      let n = names_length p in
      subst (Subjects p) (sym own.are) (record {
        few = omega (arith, where_few f (length (policy_of p).names), n, s.subjects);
        at = λ i h. let k = where_below f (length (policy_of p).names) i h in
            record { declared = omega (arith, k, n); name = s.names _ (omega (arith, k, n)) };
      })

  pub own-passes : name_among p ks ≡ passes_own (policy_of p) u
  unfolding passes_own
  own-passes = ap (name_among p) own.are ∙ (λ i x. where_some (stands_for (policy_of p) u) (λ k. same_label x (name_at p k)) (λ k. same_label x (name_of (policy_of p) k)) (length (policy_of p).names)
      (λ k h. ap (same_label x) (sym (name_held p k (omega (arith, h, names_length p))))) i)

-- what a slice of the first m of the subjects holds
pub own_part : {p ks : List ℕ} {u m : ℕ} → OwnFirst p u ks m → Own p u (take (m - 0) (drop 0 ks))
own_part {ks = ks} {m = m} o = record { are = ap (λ (k : ℕ). take k ks) (sub-zero m) ∙ o.own.are }

-- `$` passes the names of all that u is, and no others
pub own_names : (P : Policy) (u : ℕ) → NamesOf P u (passes_own P u)
unfolding passes_own stands_for
own_names P u = record {
  only = λ x e. where_found (stands_for P u) (λ k. same_label x (name_of P k)) (length P.names) e;
  each = λ x k h i e. where_has (stands_for P u) (λ j. same_label x (name_of P j)) (length P.names) k h i e;
}

-- "the login name included"
pub login_passes : (P : Policy) (u : ℕ) → u < length P.names → passes_own P u (name_of P u) ≡ true
unfolding is_by
login_passes P u h = (own_names P u).each (name_of P u) u h (rw (eq-eqb u u refl)) (same_self (name_of P u))

-- no other set of labels is that one
pub names_fixed : (P : Policy) (u : ℕ) (mine : List ℕ → Bool) → NamesOf P u mine → passes_own P u ≡ mine
names_fixed P u mine names =
    let own = own_names P u in
    fun_ext (λ x. both_ways _ _
    (λ e. let k = own.only x e in names.each x k.0 k.1 k.2 k.3)
    (λ e. let k = names.only x e in own.each x k.0 k.1 k.2 k.3))

-- a loop over subjects: none, one more, and all
pub names_none : (p ks x : List ℕ) → name_among p (take 0 ks) x ≡ false
unfolding some
names_none p ks x = refl

module _ (p ks : List ℕ) (i : ℕ) (x : List ℕ) where
  pub names_more : i < length ks → name_among p (take (i + 1) ks) x ≡ name_among p (take i ks) x || same_label x (name_at p (get_or ks i 0))
  names_more h = rw (add-one i, take-suc ks i 0 h) (some_more (λ k. same_label x (name_at p k)) (take i ks) (get_or ks i 0))
