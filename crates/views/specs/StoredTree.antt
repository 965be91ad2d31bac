-- The stored tree, and where an insertion puts a tree in it (document 01, "Changes"): "The tree lands directly beside it, or as last child in the stored tree."
-- A node's number is its place in document order, which is that of its record in the table.
use Rattle.std.specs.Prelude.{ℕ, suc, ◌+◌, ◌*◌, ◌≡◌, Bool, true, false, ◌&&◌, List, get_or}
use Rattle.rights.specs.Held.{stored_nodes}
use Rattle.rights.specs.Marks.{mark_count}
use Rattle.rights.specs.Table.{count}
use Rattle.rights.specs.Tree.{Tree, tree, Trees, none, more, nodes_of, size_of}
use Rattle.views.specs.declared.insert.Place.{Place}
use Rattle.views.specs.declared.insert.Place.TheVariants.{Append, After, Before}

-- the table t holds the tree u: its nodes are those of u, in document order
abbrev pub HoldsTree : List ℕ → Tree → Type 0
HoldsTree t u = stored_nodes t ≡ nodes_of 0 u

-- where the new tree lands at a node: directly before it, directly after it, or as its last child
abbrev pub is_before : Place → Bool
is_before Before = true
is_before After = false
is_before Append = false

abbrev pub is_after : Place → Bool
is_after Before = false
is_after After = true
is_after Append = false

abbrev pub is_last_child : Place → Bool
is_last_child Before = false
is_last_child After = false
is_last_child Append = true

-- the new tree in front of these trees, where it lands there
abbrev pub landing : Bool → Tree → Trees → Trees
landing true new ts = more new ts
landing false new ts = ts

module _ (place : Place) (done : ℕ → Bool) (new : Tree) where
  unfoldable mutual
    -- node n with all below it, and the new tree at every node that is done: behind the last child of node n, if it lands there
    pub inserted : ℕ → Tree → Tree
    inserted n (tree l ts) = tree l (inserted_among (suc n) ts (landing (is_last_child place && done n) new none))

    -- sibling trees, of which the first has the number n, and what comes behind the last of them
    pub inserted_among : ℕ → Trees → Trees → Trees
    inserted_among n none last = last
    inserted_among n (more t ts) last =
        landing (is_before place && done n) new
        (more (inserted n t)
        (landing (is_after place && done n) new
        (inserted_among (n + size_of t) ts last)))

-- What an insertion of the tree `new` makes of the table t, at the nodes that are marked as done: t holds a tree, and t' holds it with `new` inserted at every node that
-- is done and at no other; it has D × tree size records more.
pub record Lands (place : Place) (done : List Bool) (new : Tree) (t t' : List ℕ) : Type 0 where
  pub held : (u : Tree) × HoldsTree t u
  pub lands : (u : Tree) → HoldsTree t u → HoldsTree t' (inserted place (λ n. get_or done n false) new 0 u)
  pub counted : count t' ≡ count t + mark_count done * size_of new
