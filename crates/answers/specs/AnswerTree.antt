-- The answer to `view`, by the nested tree that is shown (document 01, "View").
use Rattle.std.specs.Prelude.{◌≡◌, List, [], ◌++◌, ℕ, length}
use Rattle.rights.specs.Bytes.{bytes}
use Rattle.rights.specs.Nodes.{Nodes}
use Rattle.rights.specs.Tree.{Tree, tree, Trees, none, more, write_tree, nodes_of}
use Rattle.answers.specs.Answer.{number, closed, root_line, end_line}

-- a `(child TREE)` line for each tree
unfoldable pub lines_of : Trees → List ℕ
lines_of none = []
lines_of (more t ts) = bytes "(child " ++ (write_tree t ++ (closed ++ lines_of ts))

-- the answer to `view` of the tree that is shown
unfoldable pub tree_text : Tree → List ℕ
tree_text (tree l ts) = root_line l ++ (lines_of ts ++ end_line (length (nodes_of 0 (tree l ts))))

-- What is printed of a view that shows the root: "`(root L)`, a `(child TREE)` for each shown child, `(end K)`, K shown nodes". L and the trees are those of one tree,
-- whose nodes in document order are the nodes shown.
pub record Printed (shown : Nodes) (text : List ℕ) : Type 0 where
  pub label : List ℕ
  pub children : Trees
  pub nodes : shown ≡ nodes_of 0 (tree label children)
  pub is : text ≡ bytes "(root " ++ (label ++ (bytes ")\n" ++ (lines_of children ++ (bytes "(end " ++ (number (length shown) ++ bytes ")\n")))))
