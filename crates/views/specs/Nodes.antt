-- Lists of nodes in document order, each with its level: what the laws of the changes speak of.
use Rattle.std.specs.Prelude.{ℕ, zero, suc, ◌≤◌, ◌<◌, ◌≡◌, Bool, true, false, ◌&&◌, ◌||◌, List, [], ◌∷◌, ◌++◌, ◌⊎◌, ltb, length, drop, get_or}
use Rattle.std.proofs.Math.Option.{Option, none, some}
use Rattle.rights.specs.Marks.{each_from, keep}
pub use Rattle.rights.specs.Allowed.{All, LabelOk}
use Rattle.rights.specs.Table.{level, record_ok}

module _ {E : Type 0} (lev : E → ℕ) where
  -- Each node is at most one level deeper than the one before it, the first at most at level n.
  abbrev pub Nested : ℕ → List E → Type 0
  Nested n [] = Unit {0}
  Nested n (x ∷ t) = (lev x ≤ n) × Nested (suc (lev x)) t

  -- every node at level k or deeper; less deep than k
  abbrev pub Above : ℕ → List E → Type 0
  Above k [] = Unit {0}
  Above k (x ∷ t) = (k ≤ lev x) × Above k t

  abbrev pub Under : ℕ → List E → Type 0
  Under k [] = Unit {0}
  Under k (x ∷ t) = (lev x < k) × Under k t

  -- the first node, where there is one, is no deeper than k
  abbrev pub Front : ℕ → List E → Type 0
  Front k [] = Unit {0}
  Front k (x ∷ t) = lev x ≤ k

  -- Node i of t is a descendant of a node at level l in front of t: it and all nodes before it are deeper than l.
  unfoldable pub is_below : ℕ → List E → ℕ → Bool
  is_below l [] i = false
  is_below l (y ∷ t) zero = ltb l (lev y)
  is_below l (y ∷ t) (suc i) = ltb l (lev y) && is_below l t i

  -- Node j is an ancestor of node i.
  unfoldable pub is_ancestor : List E → ℕ → ℕ → Bool
  is_ancestor [] j i = false
  is_ancestor (x ∷ t) zero zero = false
  is_ancestor (x ∷ t) zero (suc i) = is_below (lev x) t i
  is_ancestor (x ∷ t) (suc j) zero = false
  is_ancestor (x ∷ t) (suc j) (suc i) = is_ancestor t j i

-- Node i goes with a removal: it is done, or a node before it is whose descendant it is.
unfoldable pub goes : {E : Type 0} → (E → ℕ) → List Bool → List E → ℕ → Bool
goes lev ms [] i = false
goes lev ms (x ∷ t) zero = get_or ms 0 false
goes lev ms (x ∷ t) (suc i) = (get_or ms 0 false && is_below lev (lev x) t i) || goes lev (drop 1 ms) t i

-- Node i is done, or an ancestor of it is.
pub record Goes {E : Type 0} (lev : E → ℕ) (ms : List Bool) (t : List E) (i : ℕ) : Type 0 where
  pub node : ℕ
  pub done : get_or ms node false ≡ true
  pub over : (is_ancestor lev t node i ≡ true) ⊎ (node ≡ i)

-- In the list w the tree y stands behind the node x and all below x; nothing that follows is below x.
pub record StandsBehind {E : Type 0} (lev : E → ℕ) (x : E) (y w : List E) : Type 0 where
  pub before : List E
  pub below : List E
  pub after : List E
  pub is : w ≡ before ++ (x ∷ (below ++ (y ++ after)))
  pub deeper : Above lev (suc (lev x)) below
  pub next : Front lev (lev x) after

-- the nodes whose number passes the test, in order
abbrev pub only : {E : Type 0} → (ℕ → Bool) → List E → List E
only p t = keep (each_from p 0 (length t)) t

-- the tags of the nodes that carry one, in order
abbrev pub put : {X : Type 0} → Option X → List X → List X
put none r = r
put (some x) r = x ∷ r

unfoldable pub tags : {E X : Type 0} → (E → Option X) → List E → List X
tags h [] = []
tags h (x ∷ t) = put (h x) (tags h t)

-- A tree that may be inserted: its levels run from 0, and each of its records is well formed, its level apart, with the whole year as its
-- window ("Lines and inserted trees give 1 and 366").
pub record TreeOk (tree : List (List ℕ)) : Type 0 where
  pub nested : Nested level 0 tree
  pub labels : All (λ r. (length r ≡ 32) × (record_ok 0 11 (0 ∷ drop 1 r) ≡ true)) tree
