-- How a tree is read, `(label tree ...)`, and the records that hold it (document 01, "Tree and table"). What is read is a Tree (rights, specs/Tree).
use Rattle.std.specs.Prelude.{Option, Some, None, ℕ, zero, suc, ◌+◌, ◌-◌, min, List, [], ◌∷◌, ◌++◌, cond, length, take, drop, eqb}
use Rattle.rights.specs.Bytes.{byte_at}
use Rattle.rights.specs.Nodes.{Node, node}
use Rattle.rights.specs.Record.{node_record}
use Rattle.forms.specs.Part.{label_end}

-- goes on at the place after what was read
abbrev pub ◌and_then◌ : {A : Type 0} → Option ℕ → A × (ℕ → A) → A
◌and_then◌ (Some i) f = f.1 i
◌and_then◌ None f = f.0

infixr 20 ◌and_then◌
-- `(` and a label
unfoldable pub open_end : List ℕ → ℕ → Option ℕ
open_end s at = cond (eqb (byte_at s at) 40) (label_end s (at + 1)) None

-- What follows a label where depth trees are open is `)`, or a space and a further tree; s stands at place at, and what is read is the place after the
-- `)` of the outermost. At most f parts are read; each part takes a byte or more, so the length of s is enough.
unfoldable pub tail_end : ℕ → ℕ → ℕ → List ℕ → Option ℕ
tail_end zero depth at s = None
tail_end (suc f) depth at s =
    cond (eqb (byte_at s 0) 41)
    (cond (eqb depth 1) (Some (at + 1)) (tail_end f (depth - 1) (at + 1) (drop 1 s)))
    (cond (eqb (byte_at s 0) 32) (open_end s 1 and_then (None, λ e. tail_end f (depth + 1) (at + e) (drop e s))) None)

-- the place after a tree
unfoldable pub tree_end : List ℕ → ℕ → Option ℕ
tree_end s at = open_end s at and_then (None, λ e. tail_end (length s) 1 e (drop e s))

-- the nodes that such a text opens, in document order, each with how many nodes stand above it and its label
unfoldable pub tail_nodes : ℕ → ℕ → List ℕ → List Node
tail_nodes zero depth s = []
tail_nodes (suc f) depth s =
    cond (eqb (byte_at s 0) 41)
    (cond (eqb depth 1) [] (tail_nodes f (depth - 1) (drop 1 s)))
    (cond (eqb (byte_at s 0) 32) (open_end s 1 and_then ([], λ e. node depth (take (e - 2) (drop 2 s)) ∷ tail_nodes f (depth + 1) (drop e s))) [])

-- the nodes of a tree, its root at level 0
unfoldable pub tree_nodes : List ℕ → ℕ → List Node
tree_nodes s at =
    open_end s at and_then ([], λ e. node 0 (take (e - (at + 1)) (drop (at + 1) s)) ∷ tail_nodes (length s) 1 (drop e s))

-- A level is held in one byte. No level that a line of 1,024 bytes can write is cut (law levels-held), and 255 is above 11 as the level cut is.
abbrev pub held : ℕ → ℕ
held level = min level 255

unfoldable pub records_of : List Node → List ℕ
records_of [] = []
records_of (node l s ∷ ns) = node_record (held l) s ++ records_of ns
