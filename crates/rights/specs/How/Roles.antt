-- How what a subject is, and for whom `$` stands, are worked out from a policy's bytes. proofs/RolesLaws.antt shows that the pass over the subjects finds what `is` says,
-- proofs/OwnNames.antt that the names of the subjects for which `$` stands are what passes `$`.
use Rattle.std.specs.Prelude.{ℕ, zero, suc, ◌≤◌, ◌<◌, Bool, true, cond, ◌≡◌, List, eqb, length, take, get_or, set}
use Rattle.rights.specs.Labels.{same_label}
use Rattle.rights.specs.Policy.{some}
use Rattle.rights.specs.Isa.{is, own_subjects}
use Rattle.rights.specs.PolicyCheck.{policy_ok}
use Rattle.rights.specs.PolicyBytes.{policy_of, subject_count, isa_count, isa_n, isa_r, name_at}
use Rattle.rights.specs.How.Places.{Subject}

-- a subject of a policy that passed its check
pub record Declared (p : List ℕ) (u : ℕ) : Type 0 where
  pub policy : policy_ok p ≡ true
  pub subject : u < subject_count p

-- what subject u is: 1 at each subject that it is, and 0 elsewhere
pub record Roles (p : List ℕ) (u : ℕ) (roles : List ℕ) : Type 0 where
  pub at : (k : ℕ) → k < 64 → get_or roles k 0 ≡ cond (is (policy_of p) u k) 1 0

-- The pass: isa line j gives its role to k; the first n lines do; all lines do, if k is a role; for the subjects below k, from the last one down.
abbrev pub lined : List ℕ → ℕ → ℕ → List ℕ → List ℕ
lined p k j out = cond (eqb (isa_n p j) k) (set out (isa_r p j) 1) out

unfoldable pub lines_given : List ℕ → ℕ → ℕ → List ℕ → List ℕ
lines_given p k zero out = out
lines_given p k (suc j) out = lined p k j (lines_given p k j out)

abbrev pub widened : List ℕ → ℕ → List ℕ → List ℕ
widened p k out = cond (eqb (get_or out k 0) 0) out (lines_given p k (isa_count p) out)

unfoldable pub sweep : List ℕ → ℕ → List ℕ → List ℕ
sweep p zero out = out
sweep p (suc k) out = sweep p k (widened p k out)

-- the subjects for which `$` stands, and the same in the first m places
pub record Own (p : List ℕ) (u : ℕ) (ks : List ℕ) : Type 0 where
  pub are : ks ≡ own_subjects (policy_of p) u

pub record OwnFirst (p : List ℕ) (u : ℕ) (ks : List ℕ) (m : ℕ) : Type 0 where
  pub few : m ≤ length ks
  pub own : Own p u (take m ks)

-- subjects of a policy
pub record Subjects (p ks : List ℕ) : Type 0 where
  pub few : length ks ≤ 64
  pub at : (i : ℕ) → i < length ks → Subject p (get_or ks i 0)

-- a label is the name of one of them
abbrev pub name_among : List ℕ → List ℕ → List ℕ → Bool
name_among p ks x = some (λ k. same_label x (name_at p k)) ks
