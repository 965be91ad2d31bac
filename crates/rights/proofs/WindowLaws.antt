-- "Windows are not listed and alter no right" (document 02, card 7): the rights on records depend on their levels and labels alone. Assumes nothing.
use Prim.Native.Nat.{ℕ}
use mathlib.Core.Path.{◌≡◌, refl, sym, ap, ◌∙◌}
use mathlib.Core.List.{List, [], ◌∷◌, ◌++◌, map}
use lib.ListN.{take}
use Rattle.rights.specs.Nodes.{node, Nodes}
use Rattle.rights.specs.Policy.{Policy}
use Rattle.rights.specs.Table.{level, label}
use Rattle.rights.specs.Rights.{rights_by, chains, rights_on}
use Rattle.rights.specs.Held.{node_in}

-- the chain of each node, where c is the chain of the node before
abbrev node_chains : List (List ℕ) → Nodes → List (List (List ℕ))
node_chains c [] = []
node_chains c (node l s ∷ xs) = (take l c ++ (s ∷ [])) ∷ node_chains (take l c ++ (s ∷ [])) xs

by_nodes : (c rs : List (List ℕ)) → chains c rs ≡ node_chains c (map node_in rs)
unfolding chains
by_nodes c [] = refl
by_nodes c (r ∷ rs) = let d = take (level r) c ++ (label r ∷ []) in ap (λ (ds : List (List (List ℕ))). d ∷ ds) (by_nodes d rs)

-- Of two lists of records with the same levels and labels, whatever their windows, everyone has the same rights.
pub windows_alter_no_right : (P : Policy) (u : ℕ) (rs rs' : List (List ℕ)) → map node_in rs ≡ map node_in rs' → rights_on P u rs ≡ rights_on P u rs'
windows_alter_no_right P u rs rs' e = ap (map (rights_by P u)) (by_nodes [] rs ∙ ap (node_chains []) e ∙ sym (by_nodes [] rs'))
