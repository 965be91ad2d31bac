-- The answer to `(sheet ROOM)`, by the nested tree that is shown (document 02, card 3): the root's trees are the days, the trees of a day its periods.
use Rattle.std.specs.Prelude.{ℕ, zero, suc, ◌-◌, ◌≡◌, cond, List, [], ◌++◌, eqb}
use Rattle.rights.specs.Bytes.{bytes}
use Rattle.rights.specs.Labels.{same_label}
use Rattle.rights.specs.Nodes.{Nodes}
use Rattle.rights.specs.Tree.{Tree, tree, Trees, none, more, nodes_of}
use Rattle.answers.specs.Sheet.{cell}

-- what stands in "the day's n-th shown child, its period n": nothing, if there are fewer
unfoldable pub in_period : ℕ → Trees → Trees
in_period n none = none
in_period n (more (tree l us) ts) = cond (eqb n 1) us (in_period (n - 1) ts)

-- what stands in "the first child labelled ROOM"
unfoldable pub in_room : List ℕ → Trees → Trees
in_room room none = none
in_room room (more (tree l us) ts) = cond (same_label l room) us (in_room room ts)

-- "the first child's label"; no byte, if there is no child
unfoldable pub first_label : Trees → List ℕ
first_label none = []
first_label (more (tree l us) ts) = l

-- what a day's cell holds in the first row, and in row n
abbrev pub day_label : Tree → List ℕ
day_label (tree l ts) = l

abbrev pub lesson_label : List ℕ → ℕ → Tree → List ℕ
lesson_label room n (tree l ts) = first_label (in_room room (in_period n ts))

-- k cells: one for each day, in order, and then blank ones. "What is missing leaves a blank cell."
unfoldable pub day_cells : (Tree → List ℕ) → ℕ → Trees → List ℕ
day_cells held zero days = []
day_cells held (suc k) none = bytes "             |" ++ day_cells held k none
day_cells held (suc k) (more day days) = cell (held day) ++ day_cells held k days

abbrev pub week_row : List ℕ → (Tree → List ℕ) → Trees → List ℕ
week_row start held days = start ++ (day_cells held 5 days ++ bytes "\n")

-- the sheet of the days that are shown
unfoldable pub week_sheet : List ℕ → Trees → List ℕ
week_sheet room days =
    week_row (bytes "  ") day_label days
    ++ (week_row (bytes "1 ") (lesson_label room 1) days
    ++ (week_row (bytes "2 ") (lesson_label room 2) days
    ++ (week_row (bytes "3 ") (lesson_label room 3) days
    ++ (week_row (bytes "4 ") (lesson_label room 4) days
    ++ (week_row (bytes "5 ") (lesson_label room 5) days
    ++ (week_row (bytes "6 ") (lesson_label room 6) days
    ++ (week_row (bytes "7 ") (lesson_label room 7) days
    ++ week_row (bytes "8 ") (lesson_label room 8) days)))))))

-- What is printed of a view that shows the root: the sheet of the root's trees, in the tree whose nodes in document order are the nodes shown.
pub record SheetPrinted (room : List ℕ) (shown : Nodes) (text : List ℕ) : Type 0 where
  pub label : List ℕ
  pub days : Trees
  pub nodes : shown ≡ nodes_of 0 (tree label days)
  pub is : text ≡ week_sheet room days
