-- The changes (document 01, "Changes"; document 02, card 7), on lists of anything with a level, in document order: the nodes with their records, their public parts, or tags that name them.
-- "A selected node is done if ..": the changes take a mark for each node, done or not; no node beyond the marks is done. Which nodes are done is decided elsewhere,
-- before anything changes.
use Rattle.std.specs.Prelude.{ℕ, zero, suc, ◌+◌, ◌-◌, ◌*◌, Bool, false, cond, ◌&&◌, ◌||◌, List, [], ◌∷◌, ◌++◌, leb, ltb, length, take, drop, get_or}
use Rattle.rights.specs.Table.{count, capacity, level, spare}
use Rattle.rights.specs.Record.{record_of, pasted, window_bytes}
use Rattle.rights.specs.Held.{table_bytes}
pub use Rattle.rights.specs.Held.{le4}
unfoldable pub use Rattle.rights.specs.Held.{join}
use Rattle.rights.specs.Marks.{mark_count}
use Rattle.views.specs.declared.insert.Place.{Place}
use Rattle.views.specs.declared.insert.Place.TheVariants.{Append, After, Before}

module _ {E : Type 0} (lev : E → ℕ) where
  -- Behind a node at level l stand its descendants: the nodes up to the first that is not deeper. They go.
  unfoldable pub drop_below : ℕ → List E → List E
  drop_below l [] = []
  drop_below l (x ∷ t) = cond (ltb l (lev x)) (drop_below l t) (x ∷ t)

  -- The same, where y comes behind them.
  unfoldable pub put_behind : ℕ → List E → List E → List E
  put_behind l y [] = y
  put_behind l y (x ∷ t) = cond (ltb l (lev x)) (x ∷ put_behind l y t) (y ++ (x ∷ t))

  -- "remove: .. Hidden descendants go too": the nodes that are done go, with all below them.
  unfoldable pub remove : List Bool → List E → List E
  remove ms [] = []
  remove ms (x ∷ t) = cond (get_or ms 0 false) (drop_below (lev x) (remove (drop 1 ms) t)) (x ∷ remove (drop 1 ms) t)

  -- Behind each node that is done, and behind its descendants, comes y of the node.
  unfoldable pub insert_behind : (E → List E) → List Bool → List E → List E
  insert_behind y ms [] = []
  insert_behind y ms (x ∷ t) = x ∷ cond (get_or ms 0 false) (put_behind (lev x) (y x) (insert_behind y (drop 1 ms) t)) (insert_behind y (drop 1 ms) t)

  -- In front of each node that is done comes y of the node.
  unfoldable pub insert_in_front : (E → List E) → List Bool → List E → List E
  insert_in_front y ms [] = []
  insert_in_front y ms (x ∷ t) = cond (get_or ms 0 false) (y x) [] ++ (x ∷ insert_in_front y (drop 1 ms) t)

  -- "The tree lands directly beside it, or as last child in the stored tree." `tree l` is the inserted tree with its root at level l.
  abbrev pub append : (ℕ → List E) → List Bool → List E → List E
  append tree = insert_behind (λ x. tree (suc (lev x)))

  abbrev pub insert_after : (ℕ → List E) → List Bool → List E → List E
  insert_after tree = insert_behind (λ x. tree (lev x))

  abbrev pub insert_before : (ℕ → List E) → List Bool → List E → List E
  insert_before tree = insert_in_front (λ x. tree (lev x))

  -- at places of one of the three kinds
  abbrev pub insert_marked : Place → (ℕ → List E) → List Bool → List E → List E
  insert_marked Append tree ms t = append tree ms t
  insert_marked After tree ms t = insert_after tree ms t
  insert_marked Before tree ms t = insert_before tree ms t

  -- rename, update, which concerns children, and window: the nodes that are done become f of them; every other stays as it is.
  unfoldable pub rename : (E → E) → List Bool → List E → List E
  rename f ms [] = []
  rename f ms (x ∷ t) = cond (get_or ms 0 false) (f x) x ∷ rename f (drop 1 ms) t

-- The first m records of bytes that hold records alone, as those of a tree.
unfoldable pub chunks : ℕ → List ℕ → List (List ℕ)
chunks zero xs = []
chunks (suc k) xs = take 32 xs ∷ chunks k (drop 32 xs)

-- A record k levels deeper, and a tree of records: it lands at its place's level plus its own.
abbrev pub raised : ℕ → List ℕ → List ℕ
raised k r = (k + level r) ∷ drop 1 r

unfoldable pub raise : ℕ → List (List ℕ) → List (List ℕ)
raise k [] = []
raise k (r ∷ rs) = raised k r ∷ raise k rs

-- how many levels below its place the tree's root lands
abbrev pub lower : Place → ℕ
lower Append = 1
lower After = 0
lower Before = 0

-- the records after an insertion of a tree of m records
abbrev pub placed : Place → ℕ → List ℕ → List Bool → List (List ℕ) → List (List ℕ)
placed place m tree ms rs = insert_marked level place (λ l. raise l (chunks m tree)) ms rs

-- the records after a removal
abbrev pub removed : List Bool → List (List ℕ) → List (List ℕ)
removed ms rs = remove level ms rs

-- the records after a renaming to the label s: level and spare bytes stay
abbrev pub relabel : List ℕ → List ℕ → List ℕ
relabel s r = record_of (level r) s (spare r)

abbrev pub renamed : List ℕ → List Bool → List (List ℕ) → List (List ℕ)
renamed s ms rs = rename level (relabel s) ms rs

-- the records after another window was set: level and label stay
abbrev pub redate : ℕ → ℕ → List ℕ → List ℕ
redate first last r = pasted r 26 (window_bytes first last)

abbrev pub redated : ℕ → ℕ → List Bool → List (List ℕ) → List (List ℕ)
redated first last ms rs = rename level (redate first last) ms rs

-- What the lent bytes of a table become: those that hold these records.
unfoldable pub changed : List ℕ → List (List ℕ) → List ℕ
changed t rs = table_bytes (length t) rs

-- the level of the deepest record
unfoldable pub deepest : List (List ℕ) → ℕ
deepest [] = 0
deepest (r ∷ rs) = cond (ltb (deepest rs) (level r)) (level r) (deepest rs)

-- Refusal 10 for insertions: "a level above 11 .. at a place that would be done". `deep` is how much deeper than the place the deepest inserted node is.
unfoldable pub too_deep : ℕ → List Bool → List (List ℕ) → Bool
too_deep deep ms [] = false
too_deep deep ms (r ∷ rs) = (get_or ms 0 false && ltb 11 (level r + deep)) || too_deep deep (drop 1 ms) rs

-- Refusal 11: "fewer free records than the whole line needs (.. insertions D × tree size)". There is room where it does not apply.
abbrev pub free : List ℕ → ℕ
free t = capacity (length t) - count t

abbrev pub has_room : List ℕ → List Bool → ℕ → Bool
has_room t ms m = leb (mark_count (take (count t) ms) * m) (free t)
