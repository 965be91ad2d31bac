-- Which records a change does (document 01, "Changes"; the seventh: document 02, card 7). "All selections and rights are taken before anything changes."
use Rattle.std.specs.Prelude.{ℕ, Bool, true, false, not, ◌&&◌, List, [], ◌∷◌, eqb, get_or, drop}
use Rattle.rights.specs.Table.{record_at, level, label, count}
use Rattle.rights.specs.Marks.{each_from}
use Rattle.rights.specs.Policy.{read, insert, update, delete}
use Rattle.rights.specs.Rights.{holds}
use Rattle.views.specs.Shown.{at_parent, nearest_first}
use Rattle.views.specs.declared.done.Change.{Change}
use Rattle.views.specs.declared.done.Change.TheVariants.{Rename, Update, Append, Before, After, Remove, Window}

-- What a change asks of a node: its level, the user's rights on it, whether it is shown, whether it is selected, whether its label is a policy
-- word; of its parent, whether it is selected and whether the user has insert on it.
pub record Asked : Type 0 where
  pub level : ℕ
  pub rights : ℕ
  pub shown : Bool
  pub selected : Bool
  pub word : Bool
  pub parent_selected : Bool
  pub parent_insert : Bool

abbrev pub is_root : Asked → Bool
is_root a = eqb a.level 0

-- "rename: read and update on it, its label no policy word."
abbrev pub renamable : Asked → Bool
renamable a = holds read a.rights && (holds update a.rights && not a.word)

-- "`(window P F T)` .. sets the window of each selected node on which the user has read and update; the root is not done."
abbrev pub redatable : Asked → Bool
redatable a = holds read a.rights && (holds update a.rights && not (is_root a))

-- "before, after: insert on its parent, and it is not the root."
abbrev pub insertable_beside : Asked → Bool
insertable_beside a = a.parent_insert && not (is_root a)

-- "A selected node is done if:" .. "update: this concerns each shown child of a selected node, under the rename conditions on the child."
abbrev pub does : Change → Asked → Bool
does Rename a = a.selected && renamable a
does Update a = (a.shown && a.parent_selected) && renamable a
does Append a = a.selected && holds insert a.rights
does Before a = a.selected && insertable_beside a
does After a = a.selected && insertable_beside a
does Remove a = a.selected && (holds delete a.rights && not (is_root a))
does Window a = a.selected && redatable a

-- Of record i, where `word` says which labels are policy words; `shown` and `selected` have a mark for each record. The parent is the nearest record
-- before it at a smaller level; the root has none.
abbrev pub asked_of : (List ℕ → Bool) → List ℕ → List ℕ → List Bool → List Bool → ℕ → Asked
asked_of word table rights shown selected i =
    record {
      level = level (record_at table i);
      rights = get_or rights i 0;
      shown = get_or shown i false;
      selected = get_or selected i false;
      word = word (label (record_at table i));
      parent_selected =
          at_parent false (nearest_first (λ k. (level (record_at table k), get_or selected k false)) i) (level (record_at table i));
      parent_insert =
          at_parent false (nearest_first (λ k. (level (record_at table k), holds insert (get_or rights k 0))) i) (level (record_at table i));
    }

-- of each record whether the change does it
abbrev pub done_marks : Change → (List ℕ → Bool) → List ℕ → List ℕ → List Bool → List Bool → List Bool
done_marks c word table rights shown selected = each_from (λ i. does c (asked_of word table rights shown selected i)) 0 (count table)

-- The marks of the shown nodes, at the places of their records; a node that is not shown is not selected.
unfoldable pub in_table : List Bool → List Bool → List Bool
in_table [] ms = []
in_table (true ∷ bs) ms = get_or ms 0 false ∷ in_table bs (drop 1 ms)
in_table (false ∷ bs) ms = false ∷ in_table bs ms
