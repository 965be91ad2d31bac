-- Where an insertion lands in the stored tree: directly before, directly after or as last child, at every node that is done and at no other. Assumes nothing.
use Prim.Native.Nat.{ℕ, suc, ◌+◌, ◌≤◌}
use mathlib.Core.Path.{◌≡◌, refl, sym, ap, ap₂, subst, ◌∙◌}
use mathlib.Core.Bool.{Bool, true, false, cond, ◌&&◌}
use mathlib.Core.List.{List, [], ◌∷◌, ◌++◌, map, append_assoc, append-nil}
use native.Mathlib.Omega.{arith}
use native.Mathlib.Nat.{add-zero}
use native.Mathlib.Numerals.{add-one}
use lib.ListN.{length, get_or, drop, length-append}
use lib.Seq.{drop-drop, get_or-drop}
use Rattle.rights.specs.Nodes.{Node, node, Nodes, level_of, label_of}
use Rattle.rights.specs.Table.{level}
use Rattle.rights.specs.Held.{node_in}
use Rattle.rights.specs.Tree.{Tree, tree, Trees, none, more, nodes_of, nodes_in, size_of}
use Rattle.rights.proofs.ListLaws.{by_case}
use Rattle.views.specs.declared.insert.Place.{Place}
use Rattle.views.specs.declared.insert.Place.TheVariants.{Append, After, Before}
use Rattle.views.specs.Change.{insert_behind, insert_in_front, chunks, raised, raise, lower, placed}
use Rattle.views.specs.Nodes.{Above, Front}
use Rattle.views.specs.StoredTree.{HoldsTree, is_before, is_after, is_last_child, landing, inserted, inserted_among}
use Rattle.views.proofs.InsertionLaws.{skip_one, in_front_lem}
use Rattle.views.proofs.NodeLaws.{front_less}
use Rattle.views.proofs.MapLaws.{map-insert_behind, map-insert_in_front}

-- The nodes of a tree

abbrev sizes : Trees → ℕ
sizes ts = length (nodes_in 0 ts)

mutual
  unfolding nodes_of nodes_in

  -- as many, whatever the level of the root
  size_at : (j k : ℕ) (t : Tree) → length (nodes_of j t) ≡ length (nodes_of k t)
  size_at j k (tree l ts) = ap suc (sizes_at (suc j) (suc k) ts)

  sizes_at : (j k : ℕ) (ts : Trees) → length (nodes_in j ts) ≡ length (nodes_in k ts)
  sizes_at j k none = refl
  sizes_at j k (more t ts) =
      length-append (nodes_of j t) (nodes_in j ts) ∙ ap₂ ◌+◌ (size_at j k t) (sizes_at j k ts) ∙ sym (length-append (nodes_of k t) (nodes_in k ts))

above_app : (j : ℕ) (a b : Nodes) → Above level_of j a → Above level_of j b → Above level_of j (a ++ b)
above_app j [] b p q = q
above_app j (x ∷ a) b p q = (p.0, above_app j a b p.1 q)

mutual
  unfolding nodes_of nodes_in

  -- none above the root
  tree_above : (j k : ℕ) (t : Tree) → j ≤ k → Above level_of j (nodes_of k t)
  tree_above j k (tree l ts) h = (h, trees_above j (suc k) ts (omega arith))

  trees_above : (j k : ℕ) (ts : Trees) → j ≤ k → Above level_of j (nodes_in k ts)
  trees_above j k none h = tt
  trees_above j k (more t ts) h = above_app j (nodes_of k t) (nodes_in k ts) (tree_above j k t h) (trees_above j k ts h)

trees_front : (k : ℕ) (ts : Trees) (rest : Nodes) → Front level_of k rest → Front level_of k (nodes_in k ts ++ rest)
unfolding nodes_of nodes_in
trees_front k none rest f = f
trees_front k (more (tree l us) ts) rest f = omega arith

-- The nodes in document order are those of one tree only

too_deep_lem : (t : Tree) (ts : Trees) (k : ℕ) (a b : Nodes) → Front level_of k b → nodes_in (suc k) (more t ts) ++ a ≡ b → ⊥
unfolding nodes_of nodes_in
too_deep_lem (tree l cs) ts k a b g e = let h : suc k ≤ k = subst (Front level_of k) (sym e) g in omega arith

mutual
  unfolding nodes_of nodes_in

  tree_unique : (t u : Tree) (k : ℕ) (a b : Nodes) → Front level_of k a → Front level_of k b → nodes_of k t ++ a ≡ nodes_of k u ++ b → (t ≡ u) × (a ≡ b)
  tree_unique (tree l ts) (tree m us) k a b f g e =
      let q = trees_unique ts us k a b f g (ap (drop 1) e) in
      (ap₂ tree (ap (λ (ns : Nodes). label_of (get_or ns 0 (node 0 []))) e) q.0, q.1)

  trees_unique : (ts us : Trees) (k : ℕ) (a b : Nodes) → Front level_of k a → Front level_of k b → nodes_in (suc k) ts ++ a ≡ nodes_in (suc k) us ++ b → (ts ≡ us) × (a ≡ b)
  trees_unique none none k a b f g e = (refl, e)
  trees_unique none (more (tree m ds) us) k a b f g e = absurd (let h : suc k ≤ k = subst (Front level_of k) e f in omega arith)
  trees_unique (more t ts) none k a b f g e = absurd (too_deep_lem t ts k a b g e)
  trees_unique (more t ts) (more u us) k a b f g e =
      let q = tree_unique t u (suc k) (nodes_in (suc k) ts ++ a) (nodes_in (suc k) us ++ b) (trees_front (suc k) ts a (front_less level_of k (suc k) a (omega arith) f))
      (trees_front (suc k) us b (front_less level_of k (suc k) b (omega arith) g))
      (sym (append_assoc (nodes_of (suc k) t) (nodes_in (suc k) ts) a) ∙ e ∙ append_assoc (nodes_of (suc k) u) (nodes_in (suc k) us) b) in
      let r = trees_unique ts us k a b f g q.1 in
      (ap₂ more q.0 r.0, r.1)

-- A table holds one tree at most.
pub holds_one : (t : List ℕ) (u v : Tree) → HoldsTree t u → HoldsTree t v → u ≡ v
holds_one t u v p q = (tree_unique u v 0 [] [] tt tt (append-nil (nodes_of 0 u) ∙ sym p ∙ q ∙ sym (append-nil (nodes_of 0 v)))).0

-- the nodes of a tree, if it lands
abbrev landed : Tree → Bool → ℕ → Nodes
landed new b k = cond b (nodes_of k new) []

landing_nodes : (new : Tree) (b : Bool) (k : ℕ) (ts : Trees) → nodes_in k (landing b new ts) ≡ landed new b k ++ nodes_in k ts
unfolding nodes_in
landing_nodes new true k ts = refl
landing_nodes new false k ts = refl

no_sibling : (place : Place) (b : Bool) → (lower place ≡ 0 → b ≡ false) → ((is_before place && b) ≡ false) × ((is_after place && b) ≡ false)
no_sibling Append b h = (refl, refl)
no_sibling After b h = (refl, h refl)
no_sibling Before b h = (h refl, refl)

-- What an insertion does to a list of nodes at one node, with what stands below it and behind that. `W n` inserts into nodes of which the first has the number n.
record Inserts (place : Place) (done : ℕ → Bool) (new : Tree) (W : ℕ → Nodes → Nodes) : Type 0 where
  nothing : (n : ℕ) → W n [] ≡ []
  at_node : (n e : ℕ) (x : Node) (d d' rest : Nodes) → W (suc n) (d ++ rest) ≡ d' ++ W e rest → Above level_of (suc (level_of x)) d' → Front level_of (level_of x) rest
      → W n (x ∷ (d ++ rest))
      ≡ landed new (is_before place && done n) (level_of x)
      ++ (x ∷ (d' ++ (landed new (is_last_child place && done n) (suc (level_of x)) ++ (landed new (is_after place && done n) (level_of x) ++ W e rest))))

-- then it does to a tree what `inserted` says
module _ (place : Place) (done : ℕ → Bool) (new : Tree) where
  abbrev into : ℕ → Tree → Tree
  into n t = inserted place done new n t

  abbrev among : ℕ → Trees → Trees → Trees
  among n ts last = inserted_among place done new n ts last

  -- a tree with what lands beside it
  abbrev around : ℕ → Tree → Trees → Trees
  around n t us = landing (is_before place && done n) new (more (into n t) (landing (is_after place && done n) new us))

  around_nodes : (n k : ℕ) (t : Tree) (us : Trees)
      → nodes_in k (around n t us) ≡ landed new (is_before place && done n) k ++ (nodes_of k (into n t) ++ (landed new (is_after place && done n) k ++ nodes_in k us))
  unfolding nodes_in
  around_nodes n k t us =
      landing_nodes new (is_before place && done n) k (more (into n t) (landing (is_after place && done n) new us))
      ∙ ap (λ (v : Nodes). landed new (is_before place && done n) k ++ (nodes_of k (into n t) ++ v)) (landing_nodes new (is_after place && done n) k us)

  -- what comes behind the last of siblings
  among_last : (n k : ℕ) (ts last : Trees) → nodes_in k (among n ts last) ≡ nodes_in k (among n ts none) ++ nodes_in k last
  unfolding inserted_among nodes_in
  among_last n k none last = refl
  among_last n k (more t ts) last =
      let b : Nodes = landed new (is_before place && done n) k in
      let i : Nodes = nodes_of k (into n t) in
      let a : Nodes = landed new (is_after place && done n) k in
      let r : Nodes = nodes_in k (among (n + size_of t) ts none) in
      around_nodes n k t (among (n + size_of t) ts last)
      ∙ ap (λ (v : Nodes). b ++ (i ++ (a ++ v))) (among_last (n + size_of t) k ts last)
      ∙ sym (ap (λ (v : Nodes). v ++ nodes_in k last) (around_nodes n k t (among (n + size_of t) ts none))
      ∙ append_assoc b (i ++ (a ++ r)) (nodes_in k last)
      ∙ ap (λ (v : Nodes). b ++ v) (append_assoc i (a ++ r) (nodes_in k last) ∙ ap (λ (v : Nodes). i ++ v) (append_assoc a r (nodes_in k last))))

  module _ (W : ℕ → Nodes → Nodes) (w : Inserts place done new W) where
    mutual
      unfolding nodes_of nodes_in inserted inserted_among

      tree-inserted : (t : Tree) (k n : ℕ) (rest : Nodes) → Front level_of k rest
          → W n (nodes_of k t ++ rest) ≡ landed new (is_before place && done n) k ++ (nodes_of k (into n t) ++ (landed new (is_after place && done n) k ++ W (n + size_of t) rest))
      tree-inserted (tree l ts) k n rest f =
          let e : n + size_of (tree l ts) ≡ suc n + sizes ts = omega (arith, sizes_at 1 0 ts) in
          let c : Nodes = landed new (is_last_child place && done n) (suc k) in
          let z : Nodes = landed new (is_after place && done n) k ++ W (suc n + sizes ts) rest in
          rw e (w.at_node n (suc n + sizes ts) (node k l) (nodes_in (suc k) ts) (nodes_in (suc k) (among (suc n) ts none)) rest
          (trees-inserted ts (suc k) (suc n) rest (front_less level_of k (suc k) rest (omega arith) f))
          (trees_above (suc k) (suc k) (among (suc n) ts none) (omega arith)) f
          ∙ ap (λ (v : Nodes). landed new (is_before place && done n) k ++ (node k l ∷ v))
          (sym (append_assoc (nodes_in (suc k) (among (suc n) ts none)) c z)
          ∙ ap (λ (v : Nodes). v ++ z)
          (sym (among_last (suc n) (suc k) ts (landing (is_last_child place && done n) new none)
          ∙ ap (λ (v : Nodes). nodes_in (suc k) (among (suc n) ts none) ++ v) (landing_nodes new (is_last_child place && done n) (suc k) none ∙ append-nil c)))))

      trees-inserted : (ts : Trees) (k n : ℕ) (rest : Nodes) → Front level_of k rest → W n (nodes_in k ts ++ rest) ≡ nodes_in k (among n ts none) ++ W (n + sizes ts) rest
      trees-inserted none k n rest f = rw (add-zero n)
      trees-inserted (more t ts) k n rest f =
          let b : Nodes = landed new (is_before place && done n) k in
          let i : Nodes = nodes_of k (into n t) in
          let a : Nodes = landed new (is_after place && done n) k in
          let r : Nodes = nodes_in k (among (n + size_of t) ts none) in
          let e : n + sizes (more t ts) ≡ n + size_of t + sizes ts = omega (arith, length-append (nodes_of 0 t) (nodes_in 0 ts)) in
          let v : Nodes = W (n + size_of t + sizes ts) rest in
          rw (append_assoc (nodes_of k t) (nodes_in k ts) rest, e)
          (tree-inserted t k n (nodes_in k ts ++ rest) (trees_front k ts rest f)
          ∙ ap (λ (u : Nodes). b ++ (i ++ (a ++ u))) (trees-inserted ts k (n + size_of t) rest f)
          ∙ sym (ap (λ (u : Nodes). u ++ v) (around_nodes n k t (among (n + size_of t) ts none))
          ∙ append_assoc b (i ++ (a ++ r)) v
          ∙ ap (λ (u : Nodes). b ++ u) (append_assoc i (a ++ r) v ∙ ap (λ (u : Nodes). i ++ u) (append_assoc a r v))))

    -- the whole tree, whose root has nothing beside it
    whole-inserted : (t : Tree) → (lower place ≡ 0 → done 0 ≡ false) → W 0 (nodes_of 0 t) ≡ nodes_of 0 (into 0 t)
    whole-inserted t h =
        let z = no_sibling place (done 0) h in
        sym (ap (W 0) (append-nil (nodes_of 0 t)))
        ∙ tree-inserted t 0 0 [] tt
        ∙ rw (z.0, z.1, w.nothing (0 + size_of t)) (append-nil (nodes_of 0 (into 0 t)))

-- Both passes do so

mark_at : (ms : List Bool) (n : ℕ) → get_or (drop n ms) 0 false ≡ get_or ms n false
mark_at ms n = get_or-drop n ms 0 false ∙ ap (λ (i : ℕ). get_or ms i false) (add-zero n)

drop_one : (ms : List Bool) (n : ℕ) → drop 1 (drop n ms) ≡ drop (suc n) ms
drop_one ms n = drop-drop 1 n ms ∙ ap (λ (i : ℕ). drop i ms) (add-one n)

module _ (y : Node → Nodes) (ms : List Bool) where
  front-behind : (k : ℕ) (bs : List Bool) (rest : Nodes) → Front level_of k rest → Front level_of k (insert_behind level_of y bs rest)
  unfolding insert_behind
  front-behind k bs [] f = tt
  front-behind k bs (x ∷ rest) f = f

  behind_at : (n e : ℕ) (x : Node) (d d' rest : Nodes) → insert_behind level_of y (drop (suc n) ms) (d ++ rest) ≡ d' ++ insert_behind level_of y (drop e ms) rest
      → Above level_of (suc (level_of x)) d' → Front level_of (level_of x) rest
      → insert_behind level_of y (drop n ms) (x ∷ (d ++ rest)) ≡ x ∷ (d' ++ (cond (get_or ms n false) (y x) [] ++ insert_behind level_of y (drop e ms) rest))
  unfolding insert_behind
  behind_at n e x d d' rest q a f =
      let r : Nodes = insert_behind level_of y (drop e ms) rest in
      rw (mark_at ms n, drop_one ms n, q)
      (by_case (get_or ms n false)
      (λ g. rw g (ap (λ (u : Nodes). x ∷ u) (skip_one level_of (level_of x) (y x) d' r a ∙ ap (λ (u : Nodes). d' ++ u) (in_front_lem level_of (level_of x) (y x) r (front-behind (level_of x) (drop e ms) rest f)))))
      (λ g. rw g))

  in_front_at : (n e : ℕ) (x : Node) (d d' rest : Nodes) → insert_in_front level_of y (drop (suc n) ms) (d ++ rest) ≡ d' ++ insert_in_front level_of y (drop e ms) rest
      → insert_in_front level_of y (drop n ms) (x ∷ (d ++ rest)) ≡ cond (get_or ms n false) (y x) [] ++ (x ∷ (d' ++ insert_in_front level_of y (drop e ms) rest))
  unfolding insert_in_front
  in_front_at n e x d d' rest q = rw (mark_at ms n, drop_one ms n, q)

module _ (new : Tree) (ms : List Bool) where
  abbrev inside : Node → Nodes
  inside x = nodes_of (suc (level_of x)) new

  abbrev beside : Node → Nodes
  beside x = nodes_of (level_of x) new

  append_inserts : Inserts Append (λ n. get_or ms n false) new (λ n ns. insert_behind level_of inside (drop n ms) ns)
  unfolding insert_behind
  append_inserts = record { nothing = λ n. refl; at_node = behind_at inside ms }

  after_inserts : Inserts After (λ n. get_or ms n false) new (λ n ns. insert_behind level_of beside (drop n ms) ns)
  unfolding insert_behind
  after_inserts = record { nothing = λ n. refl; at_node = behind_at beside ms }

  before_inserts : Inserts Before (λ n. get_or ms n false) new (λ n ns. insert_in_front level_of beside (drop n ms) ns)
  unfolding insert_in_front
  before_inserts = record { nothing = λ n. refl; at_node = λ n e x d d' rest q a f. in_front_at beside ms n e x d d' rest q }

-- The records of a tree at its place

abbrev deeper : ℕ → Node → Node
deeper k (node l s) = node (k + l) s

map_app : (k : ℕ) (a b : Nodes) → map (deeper k) (a ++ b) ≡ map (deeper k) a ++ map (deeper k) b
map_app k [] b = refl
map_app k (x ∷ a) b = ap (λ (r : Nodes). deeper k x ∷ r) (map_app k a b)

mutual
  unfolding nodes_of nodes_in

  deeper_tree : (k j : ℕ) (t : Tree) → map (deeper k) (nodes_of j t) ≡ nodes_of (k + j) t
  deeper_tree k j (tree l ts) = let e : k + suc j ≡ suc (k + j) = omega arith in ap (λ (r : Nodes). node (k + j) l ∷ r) (deeper_trees k (suc j) ts ∙ rw e)

  deeper_trees : (k j : ℕ) (ts : Trees) → map (deeper k) (nodes_in j ts) ≡ nodes_in (k + j) ts
  deeper_trees k j none = refl
  deeper_trees k j (more t ts) = map_app k (nodes_of j t) (nodes_in j ts) ∙ ap₂ ◌++◌ (deeper_tree k j t) (deeper_trees k j ts)

raised_node : (k : ℕ) (r : List ℕ) → node_in (raised k r) ≡ deeper k (node_in r)
raised_node k [] = refl
raised_node k (x ∷ r) = refl

raise_nodes : (k : ℕ) (rs : List (List ℕ)) → map node_in (raise k rs) ≡ map (deeper k) (map node_in rs)
unfolding raise
raise_nodes k [] = refl
raise_nodes k (r ∷ rs) = ap₂ ◌∷◌ (raised_node k r) (raise_nodes k rs)

tree_at_lem : (k : ℕ) (rs : List (List ℕ)) (new : Tree) → map node_in rs ≡ nodes_of 0 new → map node_in (raise k rs) ≡ nodes_of k new
tree_at_lem k rs new e = raise_nodes k rs ∙ ap (map (deeper k)) e ∙ deeper_tree k 0 new ∙ ap (λ (j : ℕ). nodes_of j new) (add-zero k)

-- The records of a tree, after an insertion at the marked places, are those of the tree with the new tree inserted there: "The tree lands directly beside it, or as
-- last child in the stored tree", at every node that is done and at no other. Beside the root nothing is inserted.
pub placed_in_tree : (place : Place) (m : ℕ) (bytes : List ℕ) (ms : List Bool) (rs : List (List ℕ)) (new t : Tree)
    → map node_in rs ≡ nodes_of 0 t → map node_in (chunks m bytes) ≡ nodes_of 0 new → (lower place ≡ 0 → get_or ms 0 false ≡ false)
    → map node_in (placed place m bytes ms rs) ≡ nodes_of 0 (inserted place (λ n. get_or ms n false) new 0 t)
placed_in_tree Append m bytes ms rs new t e q h =
    map-insert_behind level level_of node_in (λ r. refl) (λ r. raise (suc (level r)) (chunks m bytes)) (inside new ms) (λ r. tree_at_lem (suc (level r)) (chunks m bytes) new q) ms rs
    ∙ ap (insert_behind level_of (inside new ms) ms) e
    ∙ whole-inserted Append (λ n. get_or ms n false) new (λ n ns. insert_behind level_of (inside new ms) (drop n ms) ns) (append_inserts new ms) t h
placed_in_tree After m bytes ms rs new t e q h =
    map-insert_behind level level_of node_in (λ r. refl) (λ r. raise (level r) (chunks m bytes)) (beside new ms) (λ r. tree_at_lem (level r) (chunks m bytes) new q) ms rs
    ∙ ap (insert_behind level_of (beside new ms) ms) e
    ∙ whole-inserted After (λ n. get_or ms n false) new (λ n ns. insert_behind level_of (beside new ms) (drop n ms) ns) (after_inserts new ms) t h
placed_in_tree Before m bytes ms rs new t e q h =
    map-insert_in_front level level_of node_in (λ r. refl) (λ r. raise (level r) (chunks m bytes)) (beside new ms) (λ r. tree_at_lem (level r) (chunks m bytes) new q) ms rs
    ∙ ap (insert_in_front level_of (beside new ms) ms) e
    ∙ whole-inserted Before (λ n. get_or ms n false) new (λ n ns. insert_in_front level_of (beside new ms) (drop n ms) ns) (before_inserts new ms) t h
