-- A table passes the check exactly if it holds the nodes of a tree that document 01 allows, with windows that card 7 of document 02 allows, and nothing else.
-- Assumes nothing.
use Prim.Native.Nat.{ℕ, ◌+◌, ◌*◌, ◌-◌, ◌≤◌, ◌<◌}
use mathlib.Core.Path.{◌≡◌, refl, sym, ap, ap₂, ◌∙◌}
use mathlib.Core.Bool.{true}
use mathlib.Core.List.{List, [], ◌∷◌, ◌++◌, map, map-map}
use native.Mathlib.Omega.{arith}
use borrow.Author.Tests.{le-leb}
use lib.ListN.{length, get_or, take, drop, replicate, take-append-drop, length-drop, length-map, get_or-map}
use lib.Seq.{drop-drop}
use Rattle.rights.specs.Limits.{days_max}
use Rattle.rights.specs.Nodes.{Node, node, level_of, label_of, Nodes, DatedNode}
use Rattle.rights.specs.Table.{record_at, level, window_ok, record_ok, records_ok, count, records, table_ok}
use Rattle.rights.specs.Allowed.{All, LabelOk, AllowedNodes, AllowedWindow}
use Rattle.rights.specs.Held.{join, table_bytes, dated_bytes, node_in, stored_nodes, dated_in, dated_nodes, HoldsNodes}
use Rattle.rights.proofs.AllLaws.{each_all}
use Rattle.rights.proofs.MarkLaws.{each-length}
use Rattle.rights.proofs.TableLaws.{both, record_levels, table_long, table_held, table_room, table_records, table_clear}
use Rattle.rights.proofs.PlaceLaws.{Wide, zero_replicate, join_of}
use Rattle.rights.proofs.RecordOfLaws.{length_dated, level_made, label_made, first_made, last_made, dated_ok}
use Rattle.rights.proofs.HeldRecordLaws.{node_made, node_label, node_window, record_long, record_lent}
use Rattle.rights.proofs.HeldTableLaws.{records-each, record_at_lem, count-bytes, records_table, table_passes}
use Rattle.rights.proofs.TreeShapeLaws.{Linked, linked_nested, nothing_nested, nested_linked}

abbrev Full : List (List ℕ) → Type 0
Full rs = All (λ r. length r ≡ 32) rs

-- what nodes below the root are known by
record Below (l : ℕ) (rs : List (List ℕ)) : Type 0 where
  linked : Linked l (map node_in rs)
  levels : All (λ x. level_of x ≤ 11) (map node_in rs)
  labels : All (λ x. LabelOk (label_of x)) (map node_in rs)

below : (l : ℕ) (rs : List (List ℕ)) → Full rs → records_ok 1 (l + 1) rs ≡ true → Below l rs
unfolding records_ok
below l [] h e = record { linked = tt; levels = tt; labels = tt }
below l (r ∷ rs) h e =
    let f = both (record_ok 1 (l + 1) r) _ e in
    let v = record_levels 1 (l + 1) r f.0 in
    let b = below (level r) rs h.1 f.1 in
    record {
      linked = (v.0, omega (arith, v.1), b.linked);
      levels = (v.2, b.levels);
      labels = (node_label 1 (l + 1) r h.0 f.0, b.labels);
    }

allowed_records : (rs : List (List ℕ)) → Full rs → records_ok 0 0 rs ≡ true → AllowedNodes (map node_in rs)
unfolding records_ok
allowed_records [] h e = record { shape = nothing_nested; levels = tt; labels = tt }
allowed_records (r ∷ rs) h e =
    let f = both (record_ok 0 0 r) _ e in
    let v = record_levels 0 0 r f.0 in
    let b = below (level r) rs h.1 f.1 in
    record {
      shape = linked_nested (node_in r) (map node_in rs) (omega (arith, v.1)) b.linked;
      levels = (v.2, b.levels);
      labels = (node_label 0 0 r h.0 f.0, b.labels);
    }

windows_allowed : (low high : ℕ) (rs : List (List ℕ)) → records_ok low high rs ≡ true → All AllowedWindow (map dated_in rs)
unfolding records_ok
windows_allowed low high [] e = tt
windows_allowed low high (r ∷ rs) e =
    let f = both (record_ok low high r) _ e in
    (node_window low high r f.0, windows_allowed 1 (level r + 1) rs f.1)

-- records of bytes
abbrev Lent : List (List ℕ) → Type 0
Lent rs = All (λ r. (i : ℕ) → get_or r i 0 < 256) rs

records_made : (low high : ℕ) (rs : List (List ℕ)) → Full rs → Lent rs → records_ok low high rs ≡ true → map dated_bytes (map dated_in rs) ≡ rs
unfolding records_ok
records_made low high [] h b e = refl
records_made low high (r ∷ rs) h b e =
    let f = both (record_ok low high r) _ e in
    ap₂ ◌∷◌ (node_made low high r h.0 f.0 b.0) (records_made 1 (level r + 1) rs h.1 b.1 f.1)

-- and back
window-passes : (x : DatedNode) → AllowedWindow x → window_ok x.first x.last ≡ true
window-passes x w =
    rw (
      le-leb 1 x.first w.some,
      le-leb x.first days_max (omega (arith, w.ordered, w.within)),
      le-leb 1 x.last (omega (arith, w.some, w.ordered)),
      le-leb x.last days_max w.within,
      le-leb x.first x.last w.ordered,
    )

pass_one : (low high : ℕ) (x : DatedNode) → LabelOk (label_of x.node) → AllowedWindow x → low ≤ level_of x.node → level_of x.node ≤ high → level_of x.node ≤ 11
    → record_ok low high (dated_bytes x) ≡ true
pass_one low high x g w a b d =
    dated_ok (level_of x.node) (label_of x.node) g.some g.short g.bytes g.free low high x.first x.last a b d (window-passes x w) w.root

level_back : (x : DatedNode) → level (dated_bytes x) ≡ level_of x.node
level_back x = level_made (level_of x.node) (label_of x.node) _

-- the nodes, without their windows
abbrev nodes_in : List DatedNode → Nodes
nodes_in xs = map (λ x. x.node) xs

pass_below : (l : ℕ) (xs : List DatedNode) → Linked l (nodes_in xs) → All (λ x. level_of x ≤ 11) (nodes_in xs) → All (λ x. LabelOk (label_of x)) (nodes_in xs) → All AllowedWindow xs
    → records_ok 1 (l + 1) (map dated_bytes xs) ≡ true
unfolding records_ok
pass_below l [] k a b w = refl
pass_below l (x ∷ xs) k a b w =
    rw (pass_one 1 (l + 1) x b.0 w.0 k.0 (omega (arith, k.1)) a.0, level_back x)
    (pass_below (level_of x.node) xs k.2 a.1 b.1 w.1)

pass_all : (xs : List DatedNode) → AllowedNodes (nodes_in xs) → All AllowedWindow xs → records_ok 0 0 (map dated_bytes xs) ≡ true
unfolding records_ok
pass_all [] h w = refl
pass_all (x ∷ xs) h w =
    let n = nested_linked x.node (nodes_in xs) h.shape in
    rw (pass_one 0 0 x h.labels.0 w.0 (omega arith) (omega (arith, n.0)) h.levels.0, level_back x)
    (pass_below (level_of x.node) xs n.1 h.levels.1 h.labels.1 w.1)

same_node : (x : Node) → node (level_of x) (label_of x) ≡ x
same_node (node m s) = refl

nodes_back : (xs : List DatedNode) → All (λ x. LabelOk (label_of x)) (nodes_in xs) → map dated_in (map dated_bytes xs) ≡ xs
nodes_back [] g = refl
nodes_back (x ∷ xs) g =
    let m = level_of x.node in
    let s = label_of x.node in
    let one : dated_in (dated_bytes x) ≡ x =
    rw (
      level_made m s _,
      label_made m s _,
      first_made m s g.0.short x.first x.last,
      last_made m s g.0.short x.first x.last,
      same_node x.node,
    ) in
    ap₂ ◌∷◌ one (nodes_back xs g.1)

nodes_wide : (xs : List DatedNode) → All (λ x. LabelOk (label_of x)) (nodes_in xs) → Wide dated_bytes 32 xs
nodes_wide [] h = tt
nodes_wide (x ∷ xs) h = (length_dated (level_of x.node) (label_of x.node) x.first x.last h.0.short, nodes_wide xs h.1)

-- as many nodes as the count says
records_counted : (t : List ℕ) → length (records t) ≡ count t
records_counted t = ap length (records-each t (count t) 0) ∙ each-length (record_at t) 0 (count t)

pub nodes_counted : (t : List ℕ) → length (stored_nodes t) ≡ count t
nodes_counted t = length-map (records t) node_in ∙ records_counted t

pub dated_counted : (t : List ℕ) → length (dated_nodes t) ≡ count t
dated_counted t = length-map (records t) dated_in ∙ records_counted t

-- the nodes with their windows are the nodes
pub dated_stored : (t : List ℕ) → map (λ x. x.node) (dated_nodes t) ≡ stored_nodes t
dated_stored t = map-map (λ x. x.node) dated_in (records t)

-- what is read past the last
abbrev none : DatedNode
none = record { node = node 0 []; first = 0; last = 0 }

module _ (t : List ℕ) (ok : table_ok t ≡ true) where
  of_records : (P : List ℕ → Type 0) → ((k : ℕ) → k < count t → P (record_at t (0 + k))) → All P (records t)
  of_records P f = rw (records-each t (count t) 0) (each_all P (record_at t) 0 (count t) f)

  full : Full (records t)
  full = of_records (λ r. length r ≡ 32) (λ k h. record_long t (4 + (0 + k) * 32) (omega (arith, table_room t ok)))

  -- The nodes of a table that passes are those of an allowed tree.
  pub nodes_allowed : AllowedNodes (stored_nodes t)
  nodes_allowed = allowed_records (records t) full (table_records t ok)

  module _ (b : (i : ℕ) → get_or t i 0 < 256) where
    lent : Lent (records t)
    lent = of_records (λ r. (i : ℕ) → get_or r i 0 < 256) (λ k h. record_lent t (4 + (0 + k) * 32) b)

    whole : map dated_bytes (dated_nodes t) ≡ records t
    whole = records_made 0 0 (records t) full lent (table_records t ok)

    stand : (k : ℕ) → k < length (dated_nodes t) → take 32 (drop (4 + k * 32) t) ≡ dated_bytes (get_or (dated_nodes t) k none)
    stand k h =
        sym (record_at_lem t (count t) k (dated_bytes none) (omega (arith, dated_counted t)))
        ∙ ap (λ (rs : List (List ℕ)). get_or rs k (dated_bytes none)) (sym whole)
        ∙ get_or-map dated_bytes (dated_nodes t) k none

    bytes-are : t ≡ table_bytes (length t) (map dated_bytes (dated_nodes t))
    bytes-are =
        let n : length (map dated_bytes (dated_nodes t)) ≡ count t = length-map (dated_nodes t) dated_bytes ∙ dated_counted t in
        let joined : take (count t * 32) (drop 4 t) ≡ join (map dated_bytes (dated_nodes t)) =
        ap (λ (k : ℕ). take (k * 32) (drop 4 t)) (sym (dated_counted t)) ∙ join_of dated_bytes 32 t none (dated_nodes t) 4 stand in
        let blank : drop (4 + count t * 32) t ≡ replicate (length t - (4 + count t * 32)) 0 =
        zero_replicate (drop (4 + count t * 32) t) (table_clear t ok) ∙ ap (λ (k : ℕ). replicate k 0) (length-drop (4 + count t * 32) t) in
        rw n
        (sym (take-append-drop 4 t)
        ∙ ap₂ ◌++◌ (sym (count-bytes t (table_long t ok) b))
        (sym (take-append-drop (count t * 32) (drop 4 t)) ∙ ap₂ ◌++◌ joined (drop-drop (count t * 32) 4 t ∙ blank)))

-- 13, for a table of lent bytes: what passes holds the nodes of a tree that document 01 allows, each with a window that card 7 allows, and nothing else stands in
-- its bytes.
pub table_allowed : (t : List ℕ) → ((i : ℕ) → get_or t i 0 < 256) → table_ok t ≡ true → HoldsNodes t (dated_nodes t)
table_allowed t b ok = record {
  allowed = rw (dated_stored t) (nodes_allowed t ok);
  windows = windows_allowed 0 0 (records t) (table_records t ok);
  head = table_long t ok;
  room = omega (arith, dated_counted t, table_held t ok);
  bytes = bytes-are t ok b;
}

-- The other way: a table that holds the nodes of an allowed tree passes, and these nodes are read of it.
pub allowed_table : (t : List ℕ) (nodes : List DatedNode) → HoldsNodes t nodes → (table_ok t ≡ true) × (dated_nodes t ≡ nodes)
allowed_table t nodes h =
    let g = h.allowed.labels in
    let w = nodes_wide nodes g in (
      ap table_ok h.bytes ∙ table_passes dated_bytes none (length t) nodes h.head h.room w (pass_all nodes h.allowed h.windows),
      ap dated_nodes h.bytes ∙ ap (map dated_in) (records_table dated_bytes none (length t) nodes h.head h.room w) ∙ nodes_back nodes g,
    )
