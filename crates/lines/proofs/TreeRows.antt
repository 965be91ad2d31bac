-- Each check of a tree fails exactly if its condition in the paper's words holds: 9, 10 and 11 of a tree that a line writes. Assumes nothing.
use Prim.Native.Nat.{ℕ, zero, suc, ◌+◌, ◌*◌, ◌≤◌, ◌<◌}
use mathlib.Core.Path.{◌≡◌, refl, sym, ap, ◌∙◌}
use mathlib.Core.Bool.{Bool, true, false, not, ◌&&◌, ◌||◌}
use mathlib.Core.List.{List, [], ◌∷◌, ◌++◌, map, map-append, append_assoc, append-nil}
use mathlib.Core.Logic.{◌⊎◌, inl, inr, ⊎_elim, ◌↔◌}
use native.Mathlib.Omega.{arith}
use borrow.Author.Tests.{lt-leb, leb-false, ltb-true, ltb-false, lt-ltb, not-true}
use lib.Dec.{leb, ltb}
use lib.ListN.{length, get_or, take, drop}
use lib.Seq.{take_at, drop_at, take_all, take-nil, get_or-drop}
use Rattle.rights.specs.Labels.{same_label, restricted}
use Rattle.rights.specs.Marks.{mark_count}
use Rattle.rights.specs.Nodes.{Node, node, level_of, label_of}
use Rattle.rights.specs.Policy.{some}
use Rattle.rights.specs.Record.{node_record}
use Rattle.rights.specs.Table.{count, level, label, record_at, records_from, records, record_ok, records_ok, table_ok}
use Rattle.rights.specs.Tree.{Tree, tree, Trees, none, more, nodes_of, nodes_in}
use Rattle.rights.proofs.BoolLaws.{or_split, or_left, or_right}
use Rattle.rights.proofs.ListLaws.{by_case}
use Rattle.rights.proofs.PathTexts.{and_left, and_right}
use Rattle.rights.proofs.RecordOfLaws.{length_node, level_made, label_made}
use Rattle.views.specs.Change.{chunks, lower, deepest, too_deep, free, has_room}
use Rattle.views.specs.declared.insert.Place.{Place}
use Rattle.views.specs.Nodes.{All}
use Rattle.views.proofs.TableKept.{length-records, loosen}
use Rattle.views.proofs.TableLaws.{facts}
use Rattle.forms.specs.Tree.{held, records_of}
use Rattle.forms.specs.TreeText.{GoodLabel, GoodTree, GoodTrees}
use Rattle.lines.specs.UserView.{done_in}
use Rattle.lines.specs.Work.{tree_restricted, root_alone, change_at}
use Rattle.lines.proofs.ChangeLaws.{done_size}
use Rattle.lines.specs.Clause.{size_of, tree_bytes}
use Rattle.lines.specs.Conditions.{Some, IsRestricted, TreeRestricted, DeepAt, DeepPlace}
use Rattle.lines.proofs.ConditionLaws.{clash}

-- The records of a tree

abbrev pub Labelled : Node → Type 0
Labelled (node l x) = GoodLabel x

mutual
  unfolding nodes_of nodes_in GoodTree GoodTrees

  tree_labels : (t : Tree) (k : ℕ) (rest : List Node) → GoodTree t → All Labelled rest → All Labelled (nodes_of k t ++ rest)
  tree_labels (tree l ts) k rest g a = (g.0, trees_labels ts (suc k) rest g.1 a)

  trees_labels : (ts : Trees) (k : ℕ) (rest : List Node) → GoodTrees ts → All Labelled rest → All Labelled (nodes_in k ts ++ rest)
  trees_labels none k rest g a = a
  trees_labels (more t ts) k rest g a =
      rw (append_assoc (nodes_of k t) (nodes_in k ts) rest)
      (tree_labels t k (nodes_in k ts ++ rest) g.0 (trees_labels ts k rest g.1 a))

abbrev pub node_records : List Node → List (List ℕ)
node_records [] = []
node_records (node l x ∷ ns) = node_record (held l) x ∷ node_records ns

chunks_nodes : (ns : List Node) → All Labelled ns → chunks (length ns) (records_of ns) ≡ node_records ns
unfolding chunks records_of
chunks_nodes [] a = refl
chunks_nodes (node l x ∷ ns) a =
    let n = length_node (held l) x a.0.1 in
    rw (take_at (node_record (held l) x) (records_of ns) 32 n, drop_at (node_record (held l) x) (records_of ns) 32 n)
    (ap (λ (rs : List (List ℕ)). node_record (held l) x ∷ rs) (chunks_nodes ns a.1))

pub good_labels : (u : Tree) → GoodTree u → All Labelled (nodes_of 0 u)
good_labels u g = rw (append-nil (nodes_of 0 u)) at (tree_labels u 0 [] g tt)

pub tree_chunks : (u : Tree) → GoodTree u → chunks (size_of u) (tree_bytes u) ≡ node_records (nodes_of 0 u)
tree_chunks u g = chunks_nodes (nodes_of 0 u) (good_labels u g)

-- 9

labels_told : (ns : List Node) → Some (λ n. IsRestricted (label_of n)) ns ↔ (some (λ r. same_label (label r) restricted) (node_records ns) ≡ true)
unfolding some
labels_told [] = (λ x. absurd x, λ e. clash {b = false} e refl)
labels_told (node l x ∷ ns) =
    let ih = labels_told ns in
    let rest : Bool = some (λ r. same_label (label r) restricted) (node_records ns) in
    let q : label (node_record (held l) x) ≡ x = label_made (held l) x _ in
    rw q (
      ⊎_elim (λ e. or_left (same_label x restricted) rest e) (λ h. or_right (same_label x restricted) rest (ih.0 h)),
      λ e. or_split (same_label x restricted) rest e inl (λ b. inr (ih.1 b)),
    )

pub tree_told : (u : Tree) → GoodTree u → TreeRestricted u ↔ (tree_restricted (size_of u) (tree_bytes u) ≡ true)
unfolding tree_restricted
tree_told u g = rw (tree_chunks u g) (labels_told (nodes_of 0 u))

-- 10: the deepest node of a tree that lands at level a

module _ (a : ℕ) where
  deepest-told : (ns : List Node) → ((11 < a) ⊎ Some (λ n. 11 < a + level_of n) ns) ↔ (11 < a + deepest (node_records ns))
  unfolding deepest
  deepest-told [] = (⊎_elim (λ h. omega arith) (λ x. absurd x), λ h. inl (omega arith))
  deepest-told (node l x ∷ ns) =
      let d : ℕ = deepest (node_records ns) in
      let ih = deepest-told ns in
      let q : level (node_record (held l) x) ≡ held l = level_made (held l) x _ in
      rw q (by_case (ltb d (held l))
      (λ e. let k = ltb-true d (held l) e in rw e (
        ⊎_elim (λ h. omega arith) (⊎_elim (λ h. omega arith) (λ h. omega (arith, k, ih.0 (inr h)))),
        λ h. inr (inl (omega arith)),
      ))
      (λ e. let k = ltb-false d (held l) e in rw e (
        ⊎_elim (λ h. omega arith) (⊎_elim (λ h. omega (arith, k)) (λ h. ih.0 (inr h))),
        λ h. ⊎_elim inl (λ y. inr (inr y)) (ih.1 h),
      )))

  abbrev lifted : Node → Node
  lifted (node l x) = node (a + l) x

  mutual
    unfolding nodes_of nodes_in

    lift-tree : (u : Tree) (k : ℕ) → nodes_of (a + k) u ≡ map lifted (nodes_of k u)
    lift-tree (tree l us) k = let z : suc (a + k) ≡ a + suc k = omega arith in rw z (ap (λ ns. node (a + k) l ∷ ns) (lift-trees us (suc k)))

    lift-trees : (us : Trees) (k : ℕ) → nodes_in (a + k) us ≡ map lifted (nodes_in k us)
    lift-trees none k = refl
    lift-trees (more u us) k = rw (lift-tree u k, lift-trees us k) (sym (map-append lifted (nodes_of k u) (nodes_in k us)))

  lift_told : (ns : List Node) → Some (λ n. 11 < level_of n) (map lifted ns) ↔ Some (λ n. 11 < a + level_of n) ns
  lift_told [] = (λ x. x, λ x. x)
  lift_told (node l x ∷ ns) = let ih = lift_told ns in (⊎_elim inl (λ h. inr (ih.0 h)), ⊎_elim inl (λ h. inr (ih.1 h)))

  root_deep : (u : Tree) → 11 < a → Some (λ n. 11 < a + level_of n) (nodes_of 0 u)
  unfolding nodes_of
  root_deep (tree l us) h = inl (omega arith)

  deep_told : (u : Tree) → DeepAt a u ↔ (11 < a + deepest (node_records (nodes_of 0 u)))
  deep_told u =
      let z : a + 0 ≡ a = omega arith in
      let e : nodes_of a u ≡ map lifted (nodes_of 0 u) = sym (ap (λ k. nodes_of k u) z) ∙ lift-tree u 0 in
      rw e (
        λ h. (deepest-told (nodes_of 0 u)).0 (inr ((lift_told (nodes_of 0 u)).0 h)),
        λ h. (lift_told (nodes_of 0 u)).1 (⊎_elim (root_deep u) (λ y. y) ((deepest-told (nodes_of 0 u)).1 h)),
      )

-- the places of a table that are marked
abbrev Marked : ℕ → List Bool → List (List ℕ) → Type 0
Marked d ms rs = (i : ℕ) × (i < length rs) × (get_or ms i false ≡ true) × (11 < level (get_or rs i []) + d)

abbrev deep_here : ℕ → List Bool → List ℕ → Bool
deep_here d ms r = get_or ms 0 false && ltb 11 (level r + d)

places_told : (d : ℕ) (ms : List Bool) (rs : List (List ℕ)) → Marked d ms rs ↔ (too_deep d ms rs ≡ true)
unfolding too_deep
places_told d ms [] = (λ x. absurd (omega (arith, x.1)), λ e. clash {b = false} e refl)
places_told d ms (r ∷ rs) = (left (places_told d (drop 1 ms) rs).0, right (places_told d (drop 1 ms) rs).1)
  where
    left : (Marked d (drop 1 ms) rs → too_deep d (drop 1 ms) rs ≡ true) → Marked d ms (r ∷ rs) → deep_here d ms r || too_deep d (drop 1 ms) rs ≡ true
    left ih (zero, h, m, l) = or_left (deep_here d ms r) (too_deep d (drop 1 ms) rs) (rw (m, lt-ltb 11 (level r + d) l))
    left ih (suc i, h, m, l) =
        let z : 1 + i ≡ suc i = omega arith in
        or_right (deep_here d ms r) (too_deep d (drop 1 ms) rs) (ih (i, omega arith, get_or-drop 1 ms i false ∙ rw z m, l))

    right : (too_deep d (drop 1 ms) rs ≡ true → Marked d (drop 1 ms) rs) → deep_here d ms r || too_deep d (drop 1 ms) rs ≡ true → Marked d ms (r ∷ rs)
    right ih e =
        or_split (deep_here d ms r) (too_deep d (drop 1 ms) rs) e
        (λ q. (0, omega arith, and_left (get_or ms 0 false) (ltb 11 (level r + d)) q, ltb-true 11 (level r + d) (and_right (get_or ms 0 false) (ltb 11 (level r + d)) q)))
        (λ q.
        let x = ih q in
        let z : 1 + x.0 ≡ suc x.0 = omega arith in
        (suc x.0, omega (arith, x.1), rw (← z) (sym (get_or-drop 1 ms x.0 false) ∙ x.2), x.3))

records_at : (t : List ℕ) (n i k : ℕ) → k < n → get_or (records_from t n i) k [] ≡ record_at t (i + k)
unfolding records_from
records_at t zero i k h = absurd (omega arith)
records_at t (suc n) i zero h = let z : i + 0 ≡ i = omega arith in rw z
records_at t (suc n) i (suc k) h = let z : suc i + k ≡ i + suc k = omega arith in records_at t n (suc i) k (omega arith) ∙ ap (record_at t) z

record_at_lem : (t : List ℕ) (i : ℕ) → i < count t → get_or (records t) i [] ≡ record_at t i
record_at_lem t i h = records_at t (count t) 0 i h ∙ (let z : 0 + i ≡ i = omega arith in ap (record_at t) z)

module _ (s t : List ℕ) (u : Tree) (g : GoodTree u) where
  abbrev depth : ℕ
  depth = deepest (chunks (size_of u) (tree_bytes u))

  -- at a place whose record has level l
  deep_there : (l low : ℕ) → DeepAt (low + l) u ↔ (11 < l + (low + depth))
  deep_there l low =
      let x = deep_told (low + l) u in
      rw (tree_chunks u g) (λ h. omega (arith, x.0 h), λ h. x.1 (omega arith))

  pub place_told : (at : Place) (p : List ℕ) → DeepPlace s t at p u ↔ (too_deep (lower at + depth) (done_in (change_at at) s t p) (records t) ≡ true)
  place_told at p =
      let x = places_told (lower at + depth) (done_in (change_at at) s t p) (records t) in (
        λ (i, h, m, q). x.0 (i, omega (arith, h, length-records t), m, rw (record_at_lem t i h) ((deep_there (level (record_at t i)) (lower at)).0 q)),
        λ e.
            let y = x.1 e in
            let k : y.0 < count t = omega (arith, y.1, length-records t) in
            (y.0, k, y.2, (deep_there (level (record_at t y.0)) (lower at)).1 (rw (record_at_lem t y.0 k) at y.3)),
      )

  -- 11
  room_told : (ms : List Bool) (n : ℕ) → mark_count (take (count t) ms) ≡ n → (free t < n * size_of u) ↔ (not (has_room t ms (size_of u)) ≡ true)
  room_told ms n e =
      rw e (
        λ h. rw (lt-leb (n * size_of u) (free t) h),
        λ q. leb-false (n * size_of u) (free t) (not-true (leb (n * size_of u) (free t)) q),
      )

  pub places_room_told : (at : Place) (p : List ℕ) → (free t < mark_count (done_in (change_at at) s t p) * size_of u) ↔ (not (has_room t (done_in (change_at at) s t p) (size_of u)) ≡ true)
  places_room_told at p =
      let ms = done_in (change_at at) s t p in
      room_told ms (mark_count ms) (ap mark_count (take_all (count t) ms (omega (arith, done_size (change_at at) s t p))))

  -- the root, which a child line appends to
  module _ (ok : table_ok t ≡ true) (some : 1 ≤ count t) where
    root_level : level (get_or (records t) 0 []) ≡ 0
    unfolding records_ok
    root_level = go (records t) (facts t ok).nested (length-records t)
      where
        go : (rs : List (List ℕ)) → records_ok 0 0 rs ≡ true → length rs ≡ count t → level (get_or rs 0 []) ≡ 0
        go [] e n = absurd (omega arith)
        go (r ∷ rs) e n = omega (arith, (loosen 0 0 r (and_left (record_ok 0 0 r) (records_ok 1 (level r + 1) rs) e)).1)

    pub child_told : DeepAt 1 u ↔ (too_deep (1 + depth) root_alone (records t) ≡ true)
    child_told =
        let x = places_told (1 + depth) root_alone (records t) in
        let y = deep_there 0 1 in (
          λ h. x.0 (0, omega (arith, length-records t), refl, rw root_level (y.0 h)),
          λ e. go (x.1 e) y.1,
        )
      where
        go : Marked (1 + depth) root_alone (records t) → (11 < 0 + (1 + depth) → DeepAt (1 + 0) u) → DeepAt 1 u
        go (zero, h, m, l) y = y (rw root_level at l)
        go (suc i, h, m, l) y = clash {b = false} m refl

    one-root : (n : ℕ) → 1 ≤ n → mark_count (take n root_alone) ≡ 1
    one-root zero h = absurd (omega arith)
    one-root (suc n) h = rw (take-nil {A = Bool} n)

    pub child_room_told : (free t < size_of u) ↔ (not (has_room t root_alone (size_of u)) ≡ true)
    child_room_told =
        let x = room_told root_alone 1 (one-root (count t) some) in
        let z : 1 * size_of u ≡ size_of u = omega arith in
        rw z at x
