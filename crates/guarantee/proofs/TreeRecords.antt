-- The records of a tree that was read may be inserted, if none of its labels is RESTRICTED. Assumes nothing.
use Prim.Native.Nat.{ℕ, suc, ◌≤◌}
use mathlib.Core.Path.{◌≡◌, refl, sym, ap, ◌∙◌}
use mathlib.Core.Bool.{true, false}
use mathlib.Core.List.{List, [], ◌∷◌, ◌++◌, append-nil}
use native.Mathlib.Omega.{arith}
use lib.ListN.{length, drop}
use Rattle.rights.specs.Labels.{same_label, restricted}
use Rattle.rights.specs.Policy.{some}
use Rattle.rights.specs.Record.{record_of, node_record}
use Rattle.rights.specs.Table.{level, label, record_ok}
use Rattle.rights.proofs.RecordOfLaws.{length_node, node_ok, level_made, label_made}
use Rattle.views.specs.Change.{chunks}
use Rattle.views.specs.Nodes.{Nested, TreeOk, All}
use Rattle.lines.specs.Work.{tree_restricted}
use Rattle.rights.specs.Nodes.{Node, node}
use Rattle.forms.specs.Tree.{held, records_of}
use Rattle.rights.specs.Tree.{Tree, tree, Trees, none, more, nodes_of, nodes_in}
use Rattle.forms.specs.TreeText.{GoodLabel, GoodTree, GoodTrees}
use Rattle.lines.proofs.StoredSteps.{or-none}
use Rattle.store.proofs.FormParts.{TreePart}
use Rattle.lines.proofs.TreeRows.{Labelled, node_records, good_labels, tree_chunks}

abbrev node_level : Node → ℕ
node_level (node l x) = l

-- each node of a tree is at most one level deeper than the one before it, and its label is good
mutual
  unfolding nodes_of nodes_in GoodTree GoodTrees

  tree_nested : (t : Tree) (k n : ℕ) (rest : List Node) → k ≤ n → ((j : ℕ) → k ≤ j → Nested node_level j rest) → Nested node_level n (nodes_of k t ++ rest)
  tree_nested (tree l ts) k n rest h w = (h, trees_nested ts (suc k) (suc k) rest (omega arith) (λ j i. w j (omega arith)))

  trees_nested : (ts : Trees) (k n : ℕ) (rest : List Node) → k ≤ n → ((j : ℕ) → k ≤ j → Nested node_level j rest) → Nested node_level n (nodes_in k ts ++ rest)
  trees_nested none k n rest h w = w n h
  trees_nested (more t ts) k n rest h w =
      rw (mathlib.Core.List.append_assoc (nodes_of k t) (nodes_in k ts) rest)
      (tree_nested t k n (nodes_in k ts ++ rest) h (λ j i. trees_nested ts k j rest i w))

-- the record of a node
level_cleared : (l : ℕ) (x : List ℕ) → 0 ∷ drop 1 (node_record l x) ≡ node_record 0 x
unfolding record_of
level_cleared l x = refl

abbrev Storable : List ℕ → Type 0
Storable r = (length r ≡ 32) × (record_ok 0 11 (0 ∷ drop 1 r) ≡ true)

record_storable : (l : ℕ) (x : List ℕ) → GoodLabel x → same_label x restricted ≡ false → Storable (node_record l x)
record_storable l x g f = (length_node l x g.1, rw (level_cleared l x) (node_ok 0 x g.0 g.1 g.2 f 0 11 (omega arith) (omega arith) (omega arith)))

nodes_nested : (ns : List Node) (n m : ℕ) → held n ≤ m → Nested node_level n ns → Nested level m (node_records ns)
nodes_nested [] n m h w = tt
nodes_nested (node l x ∷ ns) n m h w =
    let i : l ≤ n = w.0 in
    rw (level_made (held l) x _) (omega (arith, i, h), nodes_nested ns (suc l) (suc (held l)) (omega arith) w.1)

nodes_storable : (ns : List Node) → All Labelled ns → some (λ r. same_label (label r) restricted) (node_records ns) ≡ false → All Storable (node_records ns)
unfolding some
nodes_storable [] a e = tt
nodes_storable (node l x ∷ ns) a e =
    let p = or-none (same_label (label (node_record (held l) x)) restricted) (some (λ r. same_label (label r) restricted) (node_records ns)) e in
    let f : same_label x restricted ≡ false = sym (ap (λ (y : List ℕ). same_label y restricted) (label_made (held l) x _)) ∙ p.0 in
    (record_storable (held l) x a.0 f, nodes_storable ns a.1 p.1)

-- the records that a line's tree has
pub tree_records : (line : List ℕ) (ns : List Node) (x : TreePart line ns) → chunks (length ns) (records_of ns) ≡ node_records (nodes_of 0 x.is)
tree_records line ns x = rw x.nodes (tree_chunks x.is x.good)

-- "9 RESTRICTED as a label of .. child, inserted tree": a line's tree that is not refused so may be inserted.
pub tree_ok : (line : List ℕ) (ns : List Node) → TreePart line ns → tree_restricted (length ns) (records_of ns) ≡ false → TreeOk (chunks (length ns) (records_of ns))
unfolding tree_restricted
tree_ok line ns x e =
    let us : List Node = nodes_of 0 x.is in
    let w : Nested node_level 0 us = rw (append-nil us) at (tree_nested x.is 0 0 [] (omega arith) (λ j i. tt)) in
    let f : some (λ r. same_label (label r) restricted) (node_records us) ≡ false = rw (tree_records line ns x) at e in
    rw (tree_records line ns x) (record { nested = nodes_nested us 0 0 (omega arith) w; labels = nodes_storable us (good_labels x.is x.good) f })
