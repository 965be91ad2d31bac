-- What a subject is, and for whom `$` stands (document 01, "Rights" and "Paths"; document 02, card 5).
use Rattle.std.specs.Prelude.{ℕ, zero, suc, ◌<◌, ◌≡◌, Bool, true, false, cond, ◌&&◌, ◌||◌, List, [], ◌∷◌, ◌++◌, eqb, length}
use Rattle.rights.specs.Labels.{same_label}
use Rattle.rights.specs.Policy.{Policy, name_of, some}

-- "The isa relation is taken reflexive and transitive": u is k by at most f - 1 isa lines. R was declared before N, so 64 subjects need no more than 64.
unfoldable pub is_by : List (ℕ × ℕ) → ℕ → ℕ → ℕ → Bool
is_by ps zero u k = false
is_by ps (suc f) u k = eqb u k || some (λ p. eqb p.0 u && is_by ps f p.1 k) ps

abbrev pub is : Policy → ℕ → ℕ → Bool
is P u k = is_by P.isa 64 u k

-- Whether `$` stands for subject k, where u is the subject whose rights are asked; in a command, the user. It stands for all that u is, u itself among
-- them ("any subject that the user is, the login name included": document 02, card 5). Nothing else decides `$`.
unfoldable pub stands_for : Policy → ℕ → ℕ → Bool
stands_for P u k = is P u k

-- the subjects below n that pass a test, in order
unfoldable pub subjects_where : (ℕ → Bool) → ℕ → List ℕ
subjects_where f zero = []
subjects_where f (suc n) = cond (f n) (subjects_where f n ++ (n ∷ [])) (subjects_where f n)

-- the subjects for which `$` stands
abbrev pub own_subjects : Policy → ℕ → List ℕ
own_subjects P u = subjects_where (stands_for P u) (length P.names)

-- a label passes `$` if it is the name of a subject for which `$` stands
unfoldable pub passes_own : Policy → ℕ → List ℕ → Bool
passes_own P u x = some (λ k. same_label x (name_of P k)) (own_subjects P u)

-- the labels are those "equal to the name of any subject that the user is" (document 02, card 5), and no others
pub record NamesOf (P : Policy) (u : ℕ) (mine : List ℕ → Bool) : Type 0 where
  pub only : (x : List ℕ) → mine x ≡ true → (k : ℕ) × (k < length P.names) × (is P u k ≡ true) × (same_label x (name_of P k) ≡ true)
  pub each : (x : List ℕ) (k : ℕ) → k < length P.names → is P u k ≡ true → same_label x (name_of P k) ≡ true → mine x ≡ true
