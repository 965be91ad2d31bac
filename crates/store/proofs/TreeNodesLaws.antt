-- The nodes of a tree: their labels whatever the level of the root, their shape, when they may be stored, their records one level deeper. Assumes
-- nothing.
use Prim.Native.Nat.{ℕ, suc, ◌+◌, ◌≤◌, ◌<◌}
use mathlib.Core.Path.{◌≡◌, refl, sym, ap, ap₂, subst, ◌∙◌}
use mathlib.Core.Bool.{false}
use mathlib.Core.List.{List, [], ◌∷◌, ◌++◌, map, map-append, append_assoc, append-nil}
use mathlib.Core.Logic.{inl, inr}
use native.Mathlib.Omega.{arith}
use borrow.Author.Tests.{leb-true, leb-false}
use lib.Dec.{leb}
use lib.ListN.{length, length-map}
use Rattle.rights.specs.Labels.{same_label, restricted}
use Rattle.rights.specs.Nodes.{Node, node, Nodes, level_of, label_of, TreeShaped}
use Rattle.rights.specs.Allowed.{All, LabelOk, AllowedNodes}
use Rattle.rights.specs.Held.{node_bytes}
use Rattle.rights.specs.Record.{record_of, node_record}
use Rattle.rights.specs.Tree.{Tree, tree, Trees, none, more, nodes_of, nodes_in}
use Rattle.rights.proofs.ListLaws.{by_case}
use Rattle.rights.proofs.TreeShapeLaws.{Linked, linked_nested, nested_linked}
use Rattle.views.specs.Change.{raise}
use Rattle.views.proofs.RecordBytes.{raise-append}
use Rattle.forms.specs.Tree.{held}
use Rattle.forms.specs.TreeText.{GoodLabel, GoodTree}
use Rattle.lines.specs.Conditions.{Some, IsRestricted, TreeRestricted}
use Rattle.lines.proofs.ConditionLaws.{clash}
use Rattle.lines.proofs.TreeRows.{Labelled, node_records, good_labels}

-- what the level and the label of a node have to be (rights, AllowedNodes)
abbrev pub LowLevel : Node → Type 0
LowLevel x = level_of x ≤ 11

abbrev pub StoredLabel : Node → Type 0
StoredLabel x = LabelOk (label_of x)

-- What holds of each element

module _ {A : Type 0} (P : A → Type 0) where
  all-front : (xs ys : List A) → All P (xs ++ ys) → All P xs
  all-front [] ys a = tt
  all-front (x ∷ xs) ys a = (a.0, all-front xs ys a.1)

  pub all_back : (xs ys : List A) → All P (xs ++ ys) → All P ys
  all_back [] ys a = a
  all_back (x ∷ xs) ys a = all_back xs ys a.1

  -- what no element has
  none-all : (Q : A → Type 0) → ((x : A) → (P x → ⊥) → Q x) → (xs : List A) → (Some P xs → ⊥) → All Q xs
  none-all Q f [] h = tt
  none-all Q f (x ∷ xs) h = (f x (λ p. h (inl p)), none-all Q f xs (λ p. h (inr p)))

  all_none : (Q : A → Type 0) → ((x : A) → Q x → P x → ⊥) → (xs : List A) → All Q xs → Some P xs → ⊥
  all_none Q f [] a h = elim h [ ]
  all_none Q f (x ∷ xs) a (inl p) = f x a.0 p
  all_none Q f (x ∷ xs) a (inr p) = all_none Q f xs a.1 p

-- The nodes of a tree, the root at any level: their labels, their number

mutual
  unfolding nodes_of nodes_in

  labels_at : (j k : ℕ) (u : Tree) → map label_of (nodes_of j u) ≡ map label_of (nodes_of k u)
  labels_at j k (tree l us) = ap (λ (ls : List (List ℕ)). l ∷ ls) (labels_in (suc j) (suc k) us)

  labels_in : (j k : ℕ) (us : Trees) → map label_of (nodes_in j us) ≡ map label_of (nodes_in k us)
  labels_in j k none = refl
  labels_in j k (more u us) =
      map-append label_of (nodes_of j u) (nodes_in j us)
      ∙ ap₂ ◌++◌ (labels_at j k u) (labels_in j k us)
      ∙ sym (map-append label_of (nodes_of k u) (nodes_in k us))

pub size_at : (j k : ℕ) (u : Tree) → length (nodes_of j u) ≡ length (nodes_of k u)
size_at j k u = sym (length-map (nodes_of j u) label_of) ∙ ap length (labels_at j k u) ∙ length-map (nodes_of k u) label_of

module _ (P : List ℕ → Type 0) where
  to_labels : (ns : Nodes) → All (λ x. P (label_of x)) ns → All P (map label_of ns)
  to_labels [] a = tt
  to_labels (x ∷ ns) a = (a.0, to_labels ns a.1)

  of_labels : (ns : Nodes) → All P (map label_of ns) → All (λ x. P (label_of x)) ns
  of_labels [] a = tt
  of_labels (x ∷ ns) a = (a.0, of_labels ns a.1)

  pub relevel : (j k : ℕ) (u : Tree) → All (λ x. P (label_of x)) (nodes_of j u) → All (λ x. P (label_of x)) (nodes_of k u)
  relevel j k u a = of_labels (nodes_of k u) (subst (All P) (labels_at j k u) (to_labels (nodes_of j u) a))

-- They have the shape of a tree, and so do the first of them

mutual
  unfolding nodes_of nodes_in

  tree_linked : (u : Tree) (k n : ℕ) (rest : Nodes) → 0 < k → k ≤ suc n → ((j : ℕ) → k ≤ j → Linked j rest) → Linked n (nodes_of k u ++ rest)
  tree_linked (tree l us) k n rest p h w = (p, h, trees_linked us (suc k) k rest (omega arith) (omega arith) (λ j i. w j (omega arith)))

  trees_linked : (us : Trees) (k n : ℕ) (rest : Nodes) → 0 < k → k ≤ suc n → ((j : ℕ) → k ≤ suc j → Linked j rest) → Linked n (nodes_in k us ++ rest)
  trees_linked none k n rest p h w = w n h
  trees_linked (more u us) k n rest p h w =
      rw (append_assoc (nodes_of k u) (nodes_in k us) rest)
      (tree_linked u k n (nodes_in k us ++ rest) p h (λ j i. trees_linked us k j rest p (omega arith) w))

pub tree_shaped : (l : List ℕ) (us : Trees) → TreeShaped (node 0 l ∷ nodes_in 1 us)
tree_shaped l us =
    linked_nested (node 0 l) (nodes_in 1 us) refl (rw (append-nil (nodes_in 1 us)) at (trees_linked us 1 0 [] (omega arith) (omega arith) (λ j i. tt)))

linked_front : (l : ℕ) (xs ys : Nodes) → Linked l (xs ++ ys) → Linked l xs
linked_front l [] ys h = tt
linked_front l (x ∷ xs) ys h = (h.0, h.1, linked_front (level_of x) xs ys h.2)

pub shaped_front : (x : Node) (xs ys : Nodes) → TreeShaped (x ∷ (xs ++ ys)) → TreeShaped (x ∷ xs)
shaped_front x xs ys h = let k = nested_linked x (xs ++ ys) h in linked_nested x xs k.0 (linked_front (level_of x) xs ys k.1)

pub allowed_front : (x : Node) (xs ys : Nodes) → AllowedNodes (x ∷ (xs ++ ys)) → AllowedNodes (x ∷ xs)
allowed_front x xs ys a = record {
  shape = shaped_front x xs ys a.shape;
  levels = (a.levels.0, all-front LowLevel xs ys a.levels.1);
  labels = (a.labels.0, all-front StoredLabel xs ys a.labels.1);
}

-- 9: a tree that may be written, without RESTRICTED

label_of_lem : (x : Node) → Labelled x → GoodLabel (label_of x)
label_of_lem (node l s) g = g

pub label-ok : (l : List ℕ) → GoodLabel l → same_label l restricted ≡ false → LabelOk l
label-ok l g e = record { some = g.0; short = g.1; bytes = g.2; free = e }

labels_ok : (ns : Nodes) → All Labelled ns → All (λ x. same_label (label_of x) restricted ≡ false) ns → All StoredLabel ns
labels_ok [] a b = tt
labels_ok (x ∷ ns) a b = (label-ok (label_of x) (label_of_lem x a.0) b.0, labels_ok ns a.1 b.1)

pub free_labels : (u : Tree) → GoodTree u → (TreeRestricted u → ⊥) → All StoredLabel (nodes_of 0 u)
free_labels u g h =
    labels_ok (nodes_of 0 u) (good_labels u g)
    (none-all (λ x. IsRestricted (label_of x)) (λ x. same_label (label_of x) restricted ≡ false)
    (λ x p. by_case (same_label (label_of x) restricted) (λ e. absurd (p e)) (λ e. e)) (nodes_of 0 u) h)

pub labels_free : (u : Tree) → All StoredLabel (nodes_of 0 u) → TreeRestricted u → ⊥
labels_free u a = all_none (λ x. IsRestricted (label_of x)) StoredLabel (λ x k p. clash p k.free) (nodes_of 0 u) a

-- 10: no level above 11

pub low_levels : (ns : Nodes) → (Some (λ x. 11 < level_of x) ns → ⊥) → All LowLevel ns
low_levels ns h =
    none-all (λ x. 11 < level_of x) LowLevel
    (λ x p. by_case (leb (level_of x) 11) (leb-true (level_of x) 11) (λ e. absurd (p (leb-false (level_of x) 11 e)))) ns h

pub levels_low : (ns : Nodes) → All LowLevel ns → Some (λ x. 11 < level_of x) ns → ⊥
levels_low ns a = all_none (λ x. 11 < level_of x) LowLevel (λ x k p. omega arith) ns a

-- The records of a tree one level deeper, as a child line inserts them

records-append : (xs ys : Nodes) → node_records (xs ++ ys) ≡ node_records xs ++ node_records ys
records-append [] ys = refl
records-append (node l x ∷ xs) ys = ap (λ (rs : List (List ℕ)). node_record (held l) x ∷ rs) (records-append xs ys)

mutual
  unfolding nodes_of nodes_in raise record_of

  pub raised_tree : (u : Tree) (k : ℕ) → All LowLevel (nodes_of (suc k) u) → raise 1 (node_records (nodes_of k u)) ≡ map node_bytes (nodes_of (suc k) u)
  raised_tree (tree l us) k a =
      let e : 1 + held k ≡ suc k = omega (arith, a.0) in
      ap₂ ◌∷◌ (ap (λ (n : ℕ). node_record n l) e) (raised_trees us (suc k) a.1)

  raised_trees : (us : Trees) (k : ℕ) → All LowLevel (nodes_in (suc k) us) → raise 1 (node_records (nodes_in k us)) ≡ map node_bytes (nodes_in (suc k) us)
  raised_trees none k a = refl
  raised_trees (more u us) k a =
      ap (raise 1) (records-append (nodes_of k u) (nodes_in k us))
      ∙ raise-append 1 (node_records (nodes_of k u)) (node_records (nodes_in k us))
      ∙ ap₂ ◌++◌
      (raised_tree u k (all-front LowLevel (nodes_of (suc k) u) (nodes_in (suc k) us) a))
      (raised_trees us k (all_back LowLevel (nodes_of (suc k) u) (nodes_in (suc k) us) a))
      ∙ sym (map-append node_bytes (nodes_of (suc k) u) (nodes_in (suc k) us))
