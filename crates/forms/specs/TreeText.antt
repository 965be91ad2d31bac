-- Which trees may be written (document 01, "Tree and table").
use Rattle.std.specs.Prelude.{ℕ, ◌≤◌, ◌≡◌, Bool, true, List, length}
use Rattle.rights.specs.Limits.{label_max}
use Rattle.rights.specs.Bytes.{all}
use Rattle.rights.specs.Labels.{label_byte}
use Rattle.rights.specs.Tree.{Tree, tree, Trees, none, more}

-- one byte or more, at most so many, all of a class
abbrev pub Short : (ℕ → Bool) → ℕ → List ℕ → Type 0
Short f most l = (1 ≤ length l) × (length l ≤ most) × (all f l ≡ true)

-- a label is 1 to 24 label bytes
abbrev pub GoodLabel : List ℕ → Type 0
GoodLabel l = Short label_byte label_max l

-- all labels are good
unfoldable mutual
  pub GoodTree : Tree → Type 0
  GoodTree (tree l ts) = GoodLabel l × GoodTrees ts

  pub GoodTrees : Trees → Type 0
  GoodTrees none = Unit {0}
  GoodTrees (more t ts) = GoodTree t × GoodTrees ts
