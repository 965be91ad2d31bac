-- What a rule's path selects in the stored tree, as XPath 1.0 says it ("XPath 1.0 decides on paths"; "the nodes its path selects in the stored tree").
use Rattle.std.specs.Prelude.{ℕ, Bool, false, List, [], ◌∷◌}
use Rattle.rights.specs.Path.{Test, Axis, Path, last, next, none}
use Rattle.rights.specs.Nodes.{Nodes}
use Rattle.rights.specs.XPath.{has, document, node_set}

-- the path of a step and the steps after it, without brackets ("6 a bracket in a rule's path")
unfoldable pub plain_path : Axis × Test → List (Axis × Test) → Path
plain_path w [] = last w.0 w.1 none
plain_path w (v ∷ vs) = next w.0 w.1 none (plain_path v vs)

-- Steps without brackets select the node at i, from the document node; no steps are no path, and no policy that passes its check has such a rule.
unfoldable pub steps_selected : List (Axis × Test) → (List ℕ → Bool) → Nodes → ℕ → Bool
steps_selected [] mine t i = false
steps_selected (w ∷ ws) mine t i = has i (node_set (plain_path w ws) mine t document)
