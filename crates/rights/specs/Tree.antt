-- A tree, how it is written, and its nodes (document 01, "Tree and table"): "Trees nest: a tree is a label followed by trees, written `(label tree ...)`."
-- A line holds one to be inserted, and a view is printed as one.
use Rattle.std.specs.Prelude.{ℕ, suc, List, [], ◌∷◌, ◌++◌, length}
use Rattle.rights.specs.Nodes.{Node, node}

mutual
  pub data Tree : Type 0 where
    tree : List ℕ → Trees → Tree

  pub data Trees : Type 0 where
    none : Trees
    more : Tree → Trees → Trees

-- `(`, the label, each tree after a space, `)`
unfoldable mutual
  pub write_tree : Tree → List ℕ
  write_tree (tree l ts) = 40 ∷ l ++ write_trees ts ++ 41 ∷ []

  pub write_trees : Trees → List ℕ
  write_trees none = []
  write_trees (more t ts) = 32 ∷ write_tree t ++ write_trees ts

-- the nodes in document order, the root at level k
unfoldable mutual
  pub nodes_of : ℕ → Tree → List Node
  nodes_of k (tree l ts) = node k l ∷ nodes_in (suc k) ts

  pub nodes_in : ℕ → Trees → List Node
  nodes_in k none = []
  nodes_in k (more t ts) = nodes_of k t ++ nodes_in k ts

-- how many nodes a tree has
abbrev pub size_of : Tree → ℕ
size_of u = length (nodes_of 0 u)
