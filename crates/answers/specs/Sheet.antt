-- The sheet for a room's door (document 02, card 3): "`(sheet ROOM)` writes nine rows of exactly 72 bytes and a line feed, made from the user's view only."
-- It is a function of ROOM and the view, so what looks alike to a reader prints alike. Labels and children are those of the view.
-- SheetTree has the same text by nested trees, and proofs/SheetTreeLaws that they are equal.
use Rattle.std.specs.Prelude.{ℕ, ◌+◌, ◌-◌, Bool, List, [], ◌∷◌, ◌++◌, map, length, get_or, take, replicate}
use Rattle.rights.specs.Bytes.{bytes}
use Rattle.rights.specs.Labels.{same_label}
use Rattle.rights.specs.Nodes.{Nodes, label_at}
use Rattle.rights.specs.XPath.{at, children, filter, each}

-- "A cell is 13 bytes, cut or filled with spaces, then `|`."
unfoldable pub cell : List ℕ → List ℕ
cell s = take 13 (s ++ replicate 13 32) ++ bytes "|"

-- Of some nodes the one that k others stand before. "What is missing leaves a blank cell": in its place stands the place after the last node, where there is
-- no label and no child.
abbrev pub nth : Nodes → List ℕ → ℕ → ℕ
nth t js k = get_or js k (length t)

-- "the root's first five shown children"
unfoldable pub days : Nodes → List ℕ
days t = map (nth t (children t (at 0))) (0 ∷ 1 ∷ 2 ∷ 3 ∷ 4 ∷ [])

-- "the day's n-th shown child, its period n"
abbrev pub period : Nodes → ℕ → ℕ → ℕ
period t day n = nth t (children t (at day)) (n - 1)

-- a node "labelled ROOM"
abbrev pub carries : List ℕ → Nodes → ℕ → Bool
carries room t j = same_label (label_at t j) room

-- "the first child labelled ROOM"
unfoldable pub labelled : List ℕ → Nodes → ℕ → ℕ
labelled room t i = nth t (filter (carries room t) (children t (at i))) 0

-- "the first child .. of the first child labelled ROOM of the day's n-th shown child"
unfoldable pub lesson : List ℕ → Nodes → ℕ → ℕ → ℕ
lesson room t n day = nth t (children t (at (labelled room t (period t day n)))) 0

-- a row: a byte, a space, a cell for each of some nodes
unfoldable pub row_text : ℕ → Nodes → List ℕ → List ℕ
row_text first t is = first ∷ (bytes " " ++ (each (λ i. cell (label_at t i)) is ++ bytes "\n"))

-- "The first row is two spaces, then five cells for the root's first five shown children."
unfoldable pub head_row : Nodes → List ℕ
head_row t = row_text 32 t (days t)

-- "Row n, 1 to 8, is the digit n, a space, then a cell for each of those days. That cell holds the first child's label .."
unfoldable pub row : List ℕ → Nodes → ℕ → List ℕ
row room t n = row_text (48 + n) t (map (lesson room t n) (days t))

abbrev pub periods : List ℕ
periods = 1 ∷ 2 ∷ 3 ∷ 4 ∷ 5 ∷ 6 ∷ 7 ∷ 8 ∷ []

-- the answer to `(sheet ROOM)`
unfoldable pub sheet_text : List ℕ → Nodes → List ℕ
sheet_text room t = head_row t ++ each (row room t) periods
