-- Marks: what holds of each node, as a list of Bools and as a byte a node, set unless 0. A selection is such a list, and what a change does.
use Rattle.std.specs.Prelude.{ℕ, zero, suc, Bool, true, false, not, cond, List, [], ◌∷◌, eqb}

-- the byte that is written for a mark
abbrev pub bit : Bool → ℕ
bit b = cond b 1 0

-- the marks that bytes hold
abbrev pub marks_of : List ℕ → List Bool
marks_of [] = []
marks_of (b ∷ bs) = not (eqb b 0) ∷ marks_of bs

-- how many marks are set
abbrev pub mark_count : List Bool → ℕ
mark_count [] = 0
mark_count (true ∷ bs) = suc (mark_count bs)
mark_count (false ∷ bs) = mark_count bs

-- f at i, .., i + n - 1
unfoldable pub each_from : {A : Type 0} → (ℕ → A) → ℕ → ℕ → List A
each_from f i zero = []
each_from f i (suc n) = f i ∷ each_from f (suc i) n

-- the elements that are marked, in order
unfoldable pub keep : {A : Type 0} → List Bool → List A → List A
keep [] xs = []
keep (b ∷ bs) [] = []
keep (b ∷ bs) (x ∷ xs) = cond b (x ∷ keep bs xs) (keep bs xs)
