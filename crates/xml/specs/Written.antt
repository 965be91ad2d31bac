-- Which trees have a document (law tree_documents): the root and every node with children carry names, and a leaf that does not is a text. Two texts do not
-- stand next to each other, since what is between two tags is one label. So (a (1) (2)) has no document, and (a (1) (b) (2)) has `<a>1<b/>2</a>`.
use Rattle.std.specs.Prelude.{◌⊎◌}
use Rattle.rights.specs.Tree.{Tree, tree, Trees, none, more}
use Rattle.forms.specs.TreeText.{GoodLabel}
use Rattle.xml.specs.Document.{GoodName}

-- a text: a leaf with any label
abbrev pub Leaf : Tree → Type 0
Leaf (tree l none) = GoodLabel l
Leaf (tree l (more u us)) = ⊥

unfoldable mutual
  -- an element
  pub Named : Tree → Type 0
  Named (tree l us) = GoodName l × Contents us

  -- what stands in an element: an element or a text at first
  pub Contents : Trees → Type 0
  Contents none = Unit {0}
  Contents (more u us) = (Named u × Contents us) ⊎ (Leaf u × AfterText us)

  -- after a text only an element may stand
  pub AfterText : Trees → Type 0
  AfterText none = Unit {0}
  AfterText (more u us) = Named u × Contents us
