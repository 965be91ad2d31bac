-- The view (document 01, "View", which narrows axioms 15 to 17 of 000; document 02, card 7): which nodes of the stored tree a user is shown on a day, and what
-- each carries.
use Rattle.std.specs.Prelude.{ℕ, zero, suc, Bool, true, cond, ◌&&◌, ◌||◌, List, [], ◌∷◌, map, leb, ltb}
use Rattle.rights.specs.Labels.{restricted}
use Rattle.rights.specs.Marks.{keep}
use Rattle.rights.specs.Table.{records, level, label, first_day, last_day}
use Rattle.rights.specs.Policy.{position, read}
use Rattle.rights.specs.Rights.{holds}
use Rattle.rights.specs.Nodes.{node, Nodes}

-- A node of the stored tree: the number of its record, the record's bytes, the user's rights on it, and the day on which it is looked at.
pub record Stored : Type 0 where
  pub number : ℕ
  pub bytes : List ℕ
  pub rights : ℕ
  pub day : ℕ

-- the nodes of a table on day d with the rights on each, in document order
unfoldable pub stored_from : ℕ → ℕ → List (List ℕ) → List ℕ → List Stored
stored_from d i [] ss = []
stored_from d i (r ∷ rs) [] = []
stored_from d i (r ∷ rs) (s ∷ ss) = record { number = i; bytes = r; rights = s; day = d } ∷ stored_from d (suc i) rs ss

abbrev pub stored : ℕ → List ℕ → List ℕ → List Stored
stored d table rights = stored_from d 0 (records table) rights

abbrev pub stored_level : Stored → ℕ
stored_level x = level x.bytes

-- "the user has read or position on it". Nothing else decides what is granted; no window does.
abbrev pub grants : ℕ → Bool
grants s = holds read s || holds position s

abbrev pub granted : Stored → Bool
granted x = grants x.rights

-- "a first and last day .. both days included": the record's window takes in day d
abbrev pub in_window : ℕ → List ℕ → Bool
in_window d r = leb (first_day r) d && leb d (last_day r)

-- granted, and within its window on its day: "A node outside its window on that day is not shown, nor is anything below it."
abbrev pub showable : Stored → Bool
showable x = granted x && in_window x.day x.bytes

-- The parent of a node at level l is the nearest node before it at a smaller level. Of the nodes before, the nearest first, each with its level
-- and a value: the value at the parent, and `top` where there is none, as for the root.
unfoldable pub at_parent : {A : Type 0} → A → List (ℕ × A) → ℕ → A
at_parent top [] l = top
at_parent top ((k, a) ∷ before) l = cond (ltb k l) a (at_parent top before l)

-- the nodes before node i, the nearest first
unfoldable pub nearest_first : {A : Type 0} → (ℕ → A) → ℕ → List A
nearest_first f zero = []
nearest_first f (suc i) = f i ∷ nearest_first f i

module _ {E : Type 0} (lev : E → ℕ) (gr : E → Bool) where
  -- "A node is shown if the user has read or position on it and its parent is shown (the root's counts as shown)." What it needs of its own is `gr`.
  abbrev pub is_shown : List (ℕ × Bool) → E → Bool
  is_shown before x = gr x && at_parent true before (lev x)

  -- of each node whether it is shown
  unfoldable pub shown_after : List (ℕ × Bool) → List E → List Bool
  shown_after before [] = []
  shown_after before (x ∷ xs) = is_shown before x ∷ shown_after ((lev x, is_shown before x) ∷ before) xs

  abbrev pub shown_by : List E → List Bool
  shown_by xs = shown_after [] xs

-- whether each node of the stored tree is shown
abbrev pub shown : List Stored → List Bool
shown xs = shown_by stored_level showable xs

-- "With read it carries its label, otherwise RESTRICTED"
abbrev pub carried : Stored → List ℕ
carried x = cond (holds read x.rights) (label x.bytes) restricted

-- The view: of each shown node, in document order, its level and the label it carries. Nothing else is shown.
abbrev pub view : List Stored → Nodes
view xs = map (λ x. node (stored_level x) (carried x)) (keep (shown xs) xs)
