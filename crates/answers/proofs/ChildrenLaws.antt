-- The children of a node, as XPath has them by places, are the trees in the tree that stands there. Assumes nothing.
use Prim.Native.Nat.{ℕ, suc, ◌+◌, ◌-◌, ◌<◌}
use mathlib.Core.Path.{◌≡◌, refl, sym, ap, ◌∙◌}
use mathlib.Core.List.{List, [], ◌∷◌, ◌++◌, append_assoc, append-nil, head-eq_of_cons-eq, tail-eq_of_cons-eq}
use native.Mathlib.Omega.{arith}
use native.Mathlib.Numerals.{add-one}
use lib.ListN.{length, get_or, drop, length-drop}
use lib.Seq.{drop-cons}
use Rattle.rights.specs.Nodes.{Node, node, Nodes, level_of, label_of, level_at, label_at}
use Rattle.rights.specs.Tree.{Tree, tree, Trees, none, more, nodes_of, nodes_in}
use Rattle.rights.specs.XPath.{at, children}
use Rattle.answers.specs.How.SheetParts.{siblings}
use Rattle.answers.proofs.SheetParts.{siblings_end, siblings-under, siblings_here, siblings-deeper, children_from}

-- Node i of the list is a tree: it carries the label, and its children, in order, are the trees in it.
unfoldable mutual
  pub Stands : Nodes → ℕ → Tree → Type 0
  Stands t i (tree l us) = (label_at t i ≡ l) × (StandIn t (children t (at i)) us)

  pub StandIn : Nodes → List ℕ → Trees → Type 0
  StandIn t js none = js ≡ []
  StandIn t js (more u us) = (i : ℕ) × (is : List ℕ) × (js ≡ i ∷ is) × (Stands t i u) × (StandIn t is us)

-- the node at a place, and those after it
record Here (t : Nodes) (i : ℕ) (n : Node) (ns : Nodes) : Type 0 where
  inside : i < length t
  level : level_at t i ≡ level_of n
  label : label_at t i ≡ label_of n
  next : drop (i + 1) t ≡ ns

here : (t : Nodes) (i : ℕ) (n : Node) (ns : Nodes) → drop i t ≡ n ∷ ns → Here t i n ns
unfolding level_at label_at
here t i n ns e =
    let k : length t - i ≡ suc (length ns) = sym (length-drop i t) ∙ ap length e in
    let h : i < length t = omega arith in
    let q : get_or t i (node 0 []) ∷ drop (suc i) t ≡ n ∷ ns = sym (drop-cons t i (node 0 []) h) ∙ e in
    record {
      inside = h;
      level = ap level_of (head-eq_of_cons-eq q);
      label = ap label_of (head-eq_of_cons-eq q);
      next = rw (add-one i) (tail-eq_of_cons-eq q);
    }

-- Trees of a level from a place on, up to the end or to a node of a lower level

Ends : ℕ → Nodes → Type 0
Ends k [] = Unit {0}
Ends k (n ∷ ns) = level_of n < k

-- deeper ones are passed over
record Passed (t : Nodes) (k i : ℕ) (rest : Nodes) : Type 0 where
  to : ℕ
  same : siblings t k i ≡ siblings t k to
  left : drop to t ≡ rest

module _ (t : Nodes) (k : ℕ) where
  mutual
    unfolding nodes_of

    pass-tree : (m : ℕ) (u : Tree) (i : ℕ) (rest : Nodes) → k < m → drop i t ≡ nodes_of m u ++ rest → Passed t k i rest
    pass-tree m (tree l us) i rest h e =
        let x = here t i (node m l) (nodes_in (suc m) us ++ rest) e in
        let p = pass_trees (suc m) us (i + 1) rest (omega arith) x.next in
        record { to = p.to; same = siblings-deeper t k i x.inside (omega (arith, x.level)) ∙ p.same; left = p.left }

    pass_trees : (m : ℕ) (us : Trees) (i : ℕ) (rest : Nodes) → k < m → drop i t ≡ nodes_in m us ++ rest → Passed t k i rest
    pass_trees m none i rest h e = record { to = i; same = refl; left = e }
    pass_trees m (more u us) i rest h e =
        let p = pass-tree m u i (nodes_in m us ++ rest) h (e ∙ append_assoc (nodes_of m u) (nodes_in m us) rest) in
        let q = pass_trees m us p.to rest h p.left in
        record { to = q.to; same = p.same ∙ q.same; left = q.left }

  -- a tree of the level is one of them, and the next comes after what is below it
  pass_one : (u : Tree) (i : ℕ) (rest : Nodes) → drop i t ≡ nodes_of k u ++ rest → (j : ℕ) × (siblings t k i ≡ i ∷ siblings t k j) × (drop j t ≡ rest)
  unfolding nodes_of
  pass_one (tree l us) i rest e =
      let x = here t i (node k l) (nodes_in (suc k) us ++ rest) e in
      let p = pass_trees (suc k) us (i + 1) rest (omega arith) x.next in
      (p.to, siblings_here t k i x.inside x.level ∙ ap (i ∷◌) (rw (← add-one i) p.same), p.left)

  none_left : (i : ℕ) (rest : Nodes) → Ends k rest → drop i t ≡ rest → siblings t k i ≡ []
  unfolding Ends
  none_left i [] h e = let n : length t - i ≡ 0 = sym (length-drop i t) ∙ ap length e in siblings_end t k i (omega arith)
  none_left i (n ∷ ns) h e = let x = here t i n ns e in siblings-under t k i x.inside (omega (arith, x.level))

-- what ends trees of a level, or other trees of that level, end those below them
ends_below : (k : ℕ) (us : Trees) (rest : Nodes) → Ends k rest → Ends (suc k) (nodes_in k us ++ rest)
unfolding Ends nodes_of
ends_below k none [] h = h
ends_below k none (n ∷ ns) h = omega arith
ends_below k (more (tree l vs) us) rest h = omega arith

module _ (t : Nodes) where
  mutual
    unfolding nodes_of Stands

    tree-stands : (k : ℕ) (u : Tree) (i : ℕ) (rest : Nodes) → Ends (suc k) rest → drop i t ≡ nodes_of k u ++ rest → Stands t i u
    tree-stands k (tree l us) i rest h e =
        let x = here t i (node k l) (nodes_in (suc k) us ++ rest) e in
        (x.label, rw (children_from t i (suc k) (omega (arith, x.level))) (trees-stand (suc k) us (i + 1) rest h x.next))

    trees-stand : (k : ℕ) (us : Trees) (i : ℕ) (rest : Nodes) → Ends k rest → drop i t ≡ nodes_in k us ++ rest → StandIn t (siblings t k i) us
    trees-stand k none i rest h e = none_left t k i rest h e
    trees-stand k (more u us) i rest h e =
        let f : drop i t ≡ nodes_of k u ++ (nodes_in k us ++ rest) = e ∙ append_assoc (nodes_of k u) (nodes_in k us) rest in
        let p = pass_one t k u i (nodes_in k us ++ rest) f in
        (i, siblings t k p.0, p.1, tree-stands k u i (nodes_in k us ++ rest) (ends_below k us rest h) f, trees-stand k us p.0 rest h p.2)

-- The first of a tree's nodes is that tree.
pub root_stands : (u : Tree) → Stands (nodes_of 0 u) 0 u
unfolding Ends
root_stands u = tree-stands (nodes_of 0 u) 0 u 0 [] tt (sym (append-nil (nodes_of 0 u)))
