-- How the children of a node are found one after the other.
use Rattle.std.specs.Prelude.{ℕ, suc, ◌-◌, ◌≤◌, ◌<◌, ◌≡◌, Option, IfSome, cond, List, [], ◌∷◌, eqb, ltb, length}
use Rattle.std.specs.Option.{unwrap_or}
use Rattle.rights.specs.Nodes.{Nodes, level_at}
use Rattle.rights.specs.XPath.{filter, stretch}

-- the nodes of level l from place i on, before the first of a level under l: from the place after a node on, its children
unfoldable pub siblings : Nodes → ℕ → ℕ → List ℕ
siblings t l i = filter (λ j. eqb (level_at t j) l) (stretch t l i (length t - i))

-- node r and its later siblings; nothing where r is the place after the last node
unfoldable pub onward : Nodes → ℕ → ℕ → List ℕ
onward t l r = cond (ltb r (length t)) (r ∷ siblings t l (suc r)) []

-- r is the first of the siblings from place i on, or the place after the last node where there is none.
pub record First (t : Nodes) (l i r : ℕ) : Type 0 where
  pub is : siblings t l i ≡ onward t l r
  pub on : i ≤ length t → i ≤ r
  pub fits : r ≤ length t

-- where a node that was looked for stands: one that is missing at the place after the last node
abbrev pub place : Nodes → Option ℕ → ℕ
place t o = unwrap_or o (length t)

-- one that was found is a node of t
abbrev pub Inside : Nodes → Option ℕ → Type 0
Inside t o = IfSome o (λ i. i < length t)
