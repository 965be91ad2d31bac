-- The parts of answers, by a node's place, as they are put one after the other.
use Rattle.std.specs.Prelude.{ℕ, ◌+◌, cond, List, [], ◌++◌, eqb, get_or, drop}
use Rattle.rights.specs.Nodes.{Node, node, level_of, label_of}
use Rattle.answers.specs.Answer.{hit_line, opening, closing, next_level}

abbrev pub node_at : List Node → ℕ → Node
node_at view i = get_or view i (node 0 [])

-- the line of node i, if it is marked
unfoldable pub hit_line_at : List ℕ → List Node → ℕ → List ℕ
hit_line_at marks view i = cond (eqb (get_or marks i 0) 0) [] (hit_line (node_at view i))

-- node i of a view, which is not the root
unfoldable pub node_text : List Node → ℕ → List ℕ
node_text view i =
    opening (level_of (node_at view i))
    ++ (label_of (node_at view i) ++ closing (level_of (node_at view i) + 1) (next_level (drop (i + 1) view)))
