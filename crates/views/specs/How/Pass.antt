-- A pass over the records of a table, in the middle of its work: what the functions that carry a change out promise of the bytes. No reader of the
-- public promises needs these definitions.
use Rattle.std.specs.Prelude.{Option, None, Some, ◌≡◌, List, [], ◌∷◌, ◌++◌, Bool, true, false, ℕ, zero, suc, ◌+◌, ◌-◌, ◌*◌, ◌≤◌, ◌<◌, length, get_or, take, drop, leb}
use Rattle.rights.specs.Table.{level}
use Rattle.rights.specs.Record.{pasted}
use Rattle.views.specs.Change.{drop_below, put_behind, remove, insert_behind, insert_in_front, chunks, raise}
use Rattle.rights.specs.Marks.{marks_of}
use Rattle.views.specs.Nodes.{All, Under}

-- The record with the bytes x over those from byte k on.
abbrev pub overwritten : ℕ → List ℕ → List ℕ → List ℕ
overwritten k x r = pasted r k x

-- The bytes from `from` to `end` moved up by `by`; the bytes that they leave stay.
abbrev pub shifted : List ℕ → ℕ → ℕ → ℕ → List ℕ
shifted t from end by = take (from + by) t ++ (take (end - from) (drop from t) ++ drop (end + by) t)

-- The level deeper than which records go: 12, deeper than every record, where nothing is being left out.
abbrev pub cut_level : Option ℕ → ℕ
cut_level None = 12
cut_level (Some l) = l

-- The records that stay, as a table in the middle of its removals has them: w that are moved, and what stays of those from i on, where those deeper
-- than `cut` at the front still go.
abbrev pub going : ℕ → ℕ → ℕ → ℕ → List ℕ → List ℕ → List (List ℕ)
going n i w cut t ms =
    chunks w (drop 4 t) ++ drop_below level cut (remove level (marks_of (drop i ms)) (chunks (n - i) (drop (4 + i * 32) t)))

-- all below j
abbrev pub Below : ℕ → List ℕ → Type 0
Below j [] = Unit {0}
Below j (k ∷ ks) = (k < j) × Below j ks

-- falling
abbrev pub Falls : List ℕ → Type 0
Falls [] = Unit {0}
Falls (k ∷ ks) = Below k ks × Falls ks

-- whether the first of the waiting levels is due in front of a node at level l
abbrev pub is_due : ℕ → List ℕ → Bool
is_due l [] = false
is_due l (k ∷ ks) = leb l k

module _ {E : Type 0} (lev : E → ℕ) where
  -- the level of the first node, 0 where there is none
  abbrev pub front : List E → ℕ
  front [] = 0
  front (x ∷ t) = lev x

  -- what waits, the deepest level first, put into u
  unfoldable pub due : (ℕ → List E) → List ℕ → List E → List E
  due y [] u = u
  due y (k ∷ ks) u = due y ks (put_behind lev k (y k) u)

-- P holds of each node that is done
abbrev pub AtDone : {E : Type 0} → (E → Type 0) → List Bool → List E → Type 0
AtDone P ms [] = Unit {0}
AtDone P ms (x ∷ t) = (get_or ms 0 false ≡ true → P x) × AtDone P (drop 1 ms) t

-- the tree of m records for a node at level l: `up` is 1 for append, 0 for before and after
abbrev pub tree_at : ℕ → ℕ → List ℕ → ℕ → List (List ℕ)
tree_at up m tree l = raise (up + l) (chunks m tree)

-- it has no level above 11
abbrev pub Shallow : ℕ → ℕ → List ℕ → ℕ → Type 0
Shallow up m tree l = (j : ℕ) → j < m → up + l + get_or tree (j * 32) 0 < 12

abbrev pub behind : ℕ → ℕ → List ℕ → List ℕ → List (List ℕ) → List (List ℕ)
behind up m tree ms rs = insert_behind level (λ r. tree_at up m tree (level r)) (marks_of ms) rs

abbrev pub in_front : ℕ → List ℕ → List ℕ → List (List ℕ) → List (List ℕ)
in_front m tree ms rs = insert_in_front level (λ r. raise (level r) (chunks m tree)) (marks_of ms) rs

-- the waiting levels: the first d of a list, the last first
unfoldable pub stack : ℕ → List ℕ → List ℕ
stack zero st = []
stack (suc d) st = get_or st d 0 ∷ stack d st

-- the records still to be taken, which start `gap` records further on
abbrev pub rest : ℕ → ℕ → ℕ → List ℕ → List (List ℕ)
rest n gap i t = chunks (n - i) (drop (4 + (gap + i) * 32) t)

-- the whole in the middle of the pass: w records written, d levels waiting, the records from i on to be taken
abbrev pub passing : ℕ → ℕ → ℕ → ℕ → List ℕ → List ℕ → ℕ → ℕ → ℕ → List ℕ → List ℕ → List (List ℕ)
passing n gap up m tree ms i w d t st =
    chunks w (drop 4 t) ++ due level (tree_at up m tree) (stack d st) (behind up m tree (drop i ms) (rest n gap i t))

-- the same for the pass that puts the tree in front
abbrev pub passing_front : ℕ → ℕ → ℕ → List ℕ → List ℕ → ℕ → ℕ → List ℕ → List (List ℕ)
passing_front n gap m tree ms i w t = chunks w (drop 4 t) ++ in_front m tree (drop i ms) (rest n gap i t)

-- what does not change in a pass
pub record Fixed (n gap m : ℕ) (t ms tree : List ℕ) : Type 0 where
  pub size : 4 + (n + gap) * 32 ≤ length t
  pub marks : n ≤ length ms
  pub whole : m * 32 ≤ length tree

-- what holds between two turns
pub record Between (n gap up m i d : ℕ) (tree ms t st : List ℕ) : Type 0 where
  pub place : i ≤ n
  pub below : Below 12 (stack d st)
  pub falls : Falls (stack d st)
  pub fits : All (Shallow up m tree) (stack d st)
  pub low : Under level 12 (rest n gap i t)
  pub done : AtDone (λ r. Shallow up m tree (level r)) (marks_of (drop i ms)) (rest n gap i t)
  pub room : length st ≡ 12
