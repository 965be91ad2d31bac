-- One step of a loop that looks for a name or an isa line, and what the answers say. Assumes nothing.
use Rattle.std.specs.Prelude.{Some, None}
use Rattle.std.specs.List.{list_any, range_with_len}
use Prim.Native.Nat.{ℕ, zero, suc, ◌+◌, ◌-◌, ◌≤◌, ◌<◌}
use mathlib.Core.Path.{◌≡◌, refl, sym, ap, ◌∙◌}
use mathlib.Core.Bool.{Bool, true, false, ◌||◌}
use mathlib.Core.List.{List, [], ◌∷◌}
use native.Mathlib.Nat.{sub-zero}
use native.Mathlib.Numerals.{add-one}
use native.Mathlib.Omega.{arith}
use lib.ListN.{length, get_or}
use Rattle.rights.specs.Labels.{same_label}
use Rattle.rights.specs.Policy.{Policy, some}
use Rattle.rights.specs.PolicyBytes.{policy_of, subject_count, isa_count, name_at, isa_n, isa_r, names_from, isa_from}
use Rattle.rights.specs.How.Places as places
use Rattle.rights.specs.PolicyCheck.{policy_ok}
use Rattle.lines.specs.PolicyEdit.{subject_from, subject_named, is_line, isa_held}
use Rattle.rights.proofs.LabelLaws.{same_left}
use Rattle.rights.proofs.PathTexts.{cond_elim}
use Rattle.rights.proofs.SoundLaws.{policy_sound}
use Rattle.rights.proofs.PolicyWords.{names_cons, names_nil}

-- the subjects from number u on
module _ (p x : List ℕ) where
  pub find_first : subject_named (policy_of p) x ≡ subject_from x 0 (names_from p (subject_count p - 0) 0)
  unfolding subject_named policy_of
  find_first = rw (sub-zero (subject_count p))

  module _ (n u : ℕ) where
    pub find_here : u < n → same_label x (name_at p u) ≡ true → subject_from x u (names_from p (n - u) u) ≡ Some u
    unfolding subject_from
    find_here h e = rw (names_cons p n u h, e)

    pub find_later : u < n → same_label x (name_at p u) ≡ false → subject_from x u (names_from p (n - u) u) ≡ subject_from x (u + 1) (names_from p (n - (u + 1)) (u + 1))
    unfolding subject_from
    find_later h e = rw (names_cons p n u h, e, add-one u)

    pub find_none : n ≤ u → subject_from x u (names_from p (n - u) u) ≡ None
    unfolding subject_from
    find_none h = rw (names_nil p n u h)

-- the isa lines by their numbers, from line k on
isa_any : (f : ℕ × ℕ → Bool) (p : List ℕ) (m k : ℕ) → list_any (λ i. f (isa_n p i, isa_r p i)) (range_with_len k m) ≡ some f (isa_from p m k)
unfolding some isa_from
isa_any f p zero k = refl
isa_any f p (suc m) k = ap (λ b. f (isa_n p k, isa_r p k) || b) (isa_any f p m (k + 1) ∙ ap (λ i. some f (isa_from p m i)) (add-one k))

pub held_any : (p : List ℕ) (n r : ℕ) → list_any (λ i. is_line n r (isa_n p i, isa_r p i)) (range_with_len 0 (isa_count p)) ≡ isa_held (policy_of p) n r
unfolding isa_held policy_of
held_any p n r = isa_any (is_line n r) p (isa_count p) 0

-- A subject is found by its name in whatever case (document 02, card 6).

named_from : (x y : List ℕ) → same_label x y ≡ true → (u : ℕ) (zs : List (List ℕ)) → subject_from x u zs ≡ subject_from y u zs
unfolding subject_from
named_from x y e u [] = refl
named_from x y e u (z ∷ zs) = rw (same_left x y e z, named_from x y e (suc u) zs)

pub name_any_case : (P : Policy) (x y : List ℕ) → same_label x y ≡ true → subject_named P x ≡ subject_named P y
unfolding subject_named
name_any_case P x y e = named_from x y e 0 P.names

-- In the paper's words: a name is unknown exactly if no subject has it, and what is found is a subject of that name.
subject_apart : {C : Type 0} {u : ℕ} → Some u ≡ None → C
subject_apart e = absurd (let z : ◌≡◌ {A = ℕ} 0 1 = cc in omega arith)

unknown_from : (x : List ℕ) (u : ℕ) (ys : List (List ℕ)) → subject_from x u ys ≡ None → some (same_label x) ys ≡ false
unfolding subject_from some
unknown_from x u [] e = refl
unknown_from x u (y ∷ ys) e = cond_elim (same_label x y) (λ q f. subject_apart f) (λ q f. rw q (unknown_from x (suc u) ys f)) e

pub unknown_new : (P : Policy) (x : List ℕ) → subject_named P x ≡ None → some (same_label x) P.names ≡ false
unfolding subject_named
unknown_new P x e = unknown_from x 0 P.names e

found_from : (x : List ℕ) (u : ℕ) (ys : List (List ℕ)) (v : ℕ) → subject_from x u ys ≡ Some v → (u ≤ v) × (v < u + length ys) × (same_label x (get_or ys (v - u) []) ≡ true)
unfolding subject_from
found_from x u [] v e = subject_apart (sym e)
found_from x u (y ∷ ys) v e =
    cond_elim (same_label x y)
    (λ q f.
    let w : u ≡ v = cc in
    let n : v - u ≡ 0 = omega arith in
    (omega arith, omega arith, rw (n, q)))
    (λ q f.
    let h = found_from x (suc u) ys v f in
    let n : v - u ≡ suc (v - suc u) = omega arith in
    (omega arith, omega arith, rw n h.2))
    e

pub found_named : (P : Policy) (x : List ℕ) (u : ℕ) → subject_named P x ≡ Some u → (u < length P.names) × (same_label x (get_or P.names u []) ≡ true)
unfolding subject_named
found_named P x u e =
    let h = found_from x 0 P.names u e in
    (omega arith, rw (sub-zero u) at h.2)

-- What is found is declared and has a name, as the rights ask for.
pub names_length : (p : List ℕ) (n i : ℕ) → length (names_from p n i) ≡ n
unfolding names_from
names_length p zero i = refl
names_length p (suc n) i = ap suc (names_length p n (suc i))

pub found_subject : (p x : List ℕ) (u : ℕ) → policy_ok p ≡ true → subject_named (policy_of p) x ≡ Some u → places.Subject p u
unfolding policy_of
found_subject p x u ok e =
    let h : u < subject_count p = omega (arith, (found_named (policy_of p) x u e).0, names_length p (subject_count p) 0) in
    record { declared = h; name = (policy_sound p ok).names u h }
