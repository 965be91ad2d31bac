-- A tree is taken in place of its lines exactly if these would all be answered `(ok)`, and it leaves what they would leave. Assumes nothing.
use Prim.Native.Nat.{ℕ, suc, ◌+◌, ◌-◌, ◌≤◌, ◌<◌}
use mathlib.Core.Path.{◌≡◌, refl, sym, ap, ap₂, subst, ◌∙◌}
use mathlib.Core.Bool.{Bool, true, false, not, beq, and-eq-true_iff}
use mathlib.Core.List.{List, [], ◌∷◌, ◌++◌, map, map-map, map-append, append_assoc, append-nil}
use mathlib.Core.Logic.{inl, ◌↔◌}
use native.Mathlib.Omega.{arith}
use borrow.Author.Tests.{leb-false, le-leb, ltb-true, ltb-false, lt-leb, le-ltb, not-false}
use lib.Dec.{leb, ltb}
use lib.ListN.{length, length-map, length-append}
use Rattle.rights.specs.Limits.{days_max}
use Rattle.rights.specs.Nodes.{Node, node, Nodes, DatedNode, level_of, label_of, TreeShaped}
use Rattle.rights.specs.Allowed.{All, LabelOk, AllowedNodes, AllowedWindow}
use Rattle.rights.specs.Held.{dated_bytes, node_bytes, table_bytes, stored_nodes, HoldsNodes}
use Rattle.rights.specs.Table.{count, capacity, records, table_ok}
use Rattle.rights.specs.Tree.{Tree, tree, Trees, none, more, nodes_of, nodes_in, size_of}
use Rattle.rights.proofs.AllLaws.{all_with}
use Rattle.rights.proofs.AllowedTableLaws.{dated_stored, allowed_table}
use Rattle.rights.proofs.HeldTableLaws.{length_table, count_table, records_table}
use Rattle.rights.proofs.ListLaws.{by_case}
use Rattle.rights.proofs.PathTexts.{and_right}
use Rattle.rights.proofs.PlaceLaws.{Wide}
use Rattle.rights.proofs.RecordOfLaws.{length_node}
use Rattle.rights.proofs.TableLaws.{table_long}
use Rattle.views.specs.Change.{raise, chunks, deepest, too_deep, free, has_room, changed}
use Rattle.views.proofs.NestedLaws.{all_append}
use Rattle.answers.specs.Answer.{ok_text}
use Rattle.forms.specs.declared.layout.Word.TheVariants as word
use Rattle.forms.specs.Command.{Command, command}
use Rattle.forms.specs.TreeText.{GoodTree, GoodTrees}
use Rattle.lines.specs.Clause.{tree_bytes, clause}
use Rattle.lines.specs.Conditions.{IsRestricted, TreeRestricted, DeepAt}
use Rattle.lines.specs.Effect.{state_after, table_after, guarded, checks_in, performed}
use Rattle.lines.specs.Outcome.{Outcome, says}
use Rattle.lines.specs.Refusal.{Check, Passed}
use Rattle.lines.specs.State.{stage_c, stage, with_stage, state_ok, store_ok}
use Rattle.lines.specs.Work.{tree_restricted, root_alone}
use Rattle.lines.proofs.CheckLaws.{answered-passed}
use Rattle.lines.proofs.ConditionLaws.{clash}
use Rattle.lines.proofs.RefusalLaws.{checked-passed}
use Rattle.lines.proofs.StateLaws.{store_held, store_yes, staged_passes}
use Rattle.lines.proofs.TreeLineLaws.{no_records, child_last}
use Rattle.lines.proofs.TreeRows.{tree_chunks, tree_told, child_told, child_room_told}
use Rattle.store.specs.Line.{in_stage}
use Rattle.store.specs.Load.{child_commands, matching_lines, unlimited_checks, step_unlimited, LinesLeave, loaded_stage, loaded_state, loaded_table, Loadable}
use Rattle.store.proofs.TreeNodesLaws.{LowLevel, StoredLabel, all_back, size_at, relevel, tree_shaped, shaped_front, allowed_front, label-ok, free_labels, labels_free, low_levels, levels_low, raised_tree}

state_passes : (s t : List ℕ) → store_ok s t ≡ true → state_ok s ≡ true
unfolding store_ok
state_passes s t ok = let f = simp (store_ok, and-eq-true_iff) at ok in f.1.0

-- New nodes: their window is the whole year

abbrev new_node : Node → DatedNode
new_node x = record { node = x; first = 1; last = days_max }

nodes_new : (xs : Nodes) → map (λ x. x.node) (map new_node xs) ≡ xs
nodes_new [] = refl
nodes_new (x ∷ xs) = ap (λ (r : Nodes). x ∷ r) (nodes_new xs)

windows_new : (xs : Nodes) → All AllowedWindow (map new_node xs)
windows_new [] = tt
windows_new (x ∷ xs) = (record { some = omega arith; ordered = omega arith; within = omega arith; root = λ e. (refl, refl) }, windows_new xs)

-- A table of n bytes that is made of allowed nodes

module _ (n : ℕ) (head : 4 ≤ n) (xs : Nodes) (allowed : AllowedNodes xs) (fits : length xs ≤ capacity n) where
  abbrev made : List ℕ
  made = table_bytes n (map node_bytes xs)

  wide : Wide node_bytes 32 xs
  wide = all_with StoredLabel (λ x g. length_node (level_of x) (label_of x) g.short) xs allowed.labels

  length_made : length made ≡ n
  length_made = length_table node_bytes (node 0 []) n xs head fits wide

  records_made : records made ≡ map node_bytes xs
  records_made = records_table node_bytes (node 0 []) n xs head fits wide

  count_made : count made ≡ length xs
  count_made = count_table node_bytes (node 0 []) n xs head fits wide ∙ length-map xs node_bytes

  free_made : free made ≡ capacity n - length xs
  free_made = ap₂ (λ (a b : ℕ). capacity a - b) length_made count_made

  made_holds : HoldsNodes made (map new_node xs)
  made_holds = record {
    allowed = rw (nodes_new xs) allowed;
    windows = windows_new xs;
    head = rw length_made head;
    room = rw (length_made, length-map xs new_node) fits;
    bytes = ap (λ (k : ℕ). table_bytes k (map node_bytes xs)) (sym length_made) ∙ ap (table_bytes (length made)) (sym (map-map dated_bytes new_node xs));
  }

  -- 13 lets it pass beside such a state
  made_passes : (s : List ℕ) → state_ok s ≡ true → stage s < 2 → 0 < length xs → (g : ℕ) → 2 ≤ g → g ≤ 3
      → (store_ok (with_stage g s) made ≡ true) × (stored_nodes made ≡ xs) × (records made ≡ map node_bytes xs)
  made_passes s ok early some g low high =
      let x = allowed_table made (map new_node xs) made_holds in (
        store_yes (with_stage g s) made x.0 (staged_passes s g ok (omega (arith, early)) (omega arith) (omega arith)) ∙ rw (le-leb 2 g low, le-leb 1 (count made) (omega (arith, count_made))),
        sym (dated_stored made) ∙ ap (map (λ x. x.node)) x.1 ∙ nodes_new xs,
        records_made,
      )

-- A line's checks, without a length limit: it is answered exactly if they pass

abbrev checks_of : List ℕ → List ℕ → Command → ℕ → List Check
checks_of s t c room = checks_in room (guarded (unlimited_checks c s t) (clause c s t))

answered : (s t : List ℕ) (c : Command) (room : ℕ) (text : List ℕ) → (step_unlimited s t c room).reply ≡ says text → Passed (checks_of s t c room)
unfolding performed
answered s t c room text e = answered-passed (checks_of s t c room) s t _ e

abbrev leaving : List ℕ → List ℕ → List ℕ → Outcome
leaving text s' t' = record { reply = says text; state = s'; table = t' }

carried_out : (s t : List ℕ) (c : Command) (room : ℕ) → Passed (checks_of s t c room)
    → step_unlimited s t c room ≡ leaving (clause c s t).text (state_after (clause c s t).effect s) (table_after (clause c s t).effect t)
unfolding performed
carried_out s t c room p = checked-passed (checks_of s t c room) s t _ p

-- a check passes exactly if its condition does not hold
passes_exactly : {A : Type 0} {b : Bool} → (A ↔ (b ≡ true)) → ((A → ⊥) ↔ (b ≡ false))
passes_exactly {A} {b} h = (λ no-a. by_case b (λ e. absurd (no-a (h.1 e))) (λ e. e), λ e a. clash (h.0 a) e)

-- Lines one after the other: the lines cs follow an outcome; what they leave is one store only

abbrev Follow : ℕ → List Command → List ℕ → List ℕ → Outcome → Type 0
Follow room cs s' t' o = LinesLeave room cs o.state o.table s' t'

lines_one : (room : ℕ) (cs : List Command) (s t s' t' s'' t'' : List ℕ) → LinesLeave room cs s t s' t' → LinesLeave room cs s t s'' t''
    → (s' ≡ s'') × (t' ≡ t'')
lines_one room [] s t s' t' s'' t'' x y = (x.0 ∙ sym y.0, x.1 ∙ sym y.1)
lines_one room (c ∷ cs) s t s' t' s'' t'' x y =
    lines_one room cs (step_unlimited s t c room).state (step_unlimited s t c room).table s' t' s'' t'' x.1 y.1

-- the stage after the lines of these children, from stage g
abbrev stage_behind : ℕ → Trees → ℕ
stage_behind g none = g
stage_behind g (more u us) = 3

stage-kept : (us : Trees) → stage_behind 3 us ≡ 3
stage-kept none = refl
stage-kept (more u us) = refl

stage_loaded : (l : List ℕ) (us : Trees) → stage_behind 2 us ≡ loaded_stage (tree l us)
stage_loaded l none = refl
stage_loaded l (more u us) = refl

stage-behind : (us : Trees) → (2 ≤ stage_behind 2 us) × (stage_behind 2 us ≤ 3)
stage-behind none = (omega arith, omega arith)
stage-behind (more u us) = (omega arith, omega arith)

-- `(root L)`

module _ (room : ℕ) (s t l : List ℕ) where
  abbrev root_checks : List Check
  root_checks = checks_of s t (command word.Root (l, tt)) room

  root_passed : store_ok s t ≡ true → stage s < 2 → (IsRestricted l → ⊥) → 1 ≤ capacity (length t) → 5 ≤ room → Passed root_checks
  root_passed ok early a c r =
      let h : in_stage 2 (stage s) ≡ true = rw (le-leb (stage s) 2 (omega arith), lt-leb 2 (stage s) early) in
      let f : ltb (free t) 1 ≡ false = le-ltb (free t) 1 (omega (arith, no_records s t ok early)) in
      (rw ok, (rw h, ((passes_exactly ((λ e. e), λ e. e)).0 a, (f, (le-ltb room 5 r, tt)))))

  no_root : in_stage 2 (stage s) ≡ true → stage s < 2
  no_root e =
      by_case (leb 2 (stage s))
      (λ q. clash {b = false} (rw q at (and_right (leb (stage s) 2) (beq (ltb 2 2) (leb 2 (stage s))) e)) refl)
      (leb-false 2 (stage s))

  passed_root : Passed root_checks → (store_ok s t ≡ true) × (stage s < 2) × (IsRestricted l → ⊥) × (1 ≤ capacity (length t)) × (5 ≤ room)
  passed_root p = (
    not-false (store_ok s t) p.0,
    no_root (not-false (in_stage 2 (stage s)) p.1.0),
    λ e. clash e p.1.1.0,
    omega (arith, ltb-false (free t) 1 p.1.1.1.0),
    ltb-false room 5 p.1.1.1.1.0,
  )

  root_leaves : Passed root_checks
      → step_unlimited s t (command word.Root (l, tt)) room ≡ leaving ok_text (with_stage 2 s) (table_bytes (length t) (map node_bytes (node 0 l ∷ [])))
  unfolding changed
  root_leaves p = carried_out s t (command word.Root (l, tt)) room p

-- The child lines, on a table of n bytes with the root l; s is the state before the root line

module _ (room n : ℕ) (head : 4 ≤ n) (s : List ℕ) (ok : state_ok s ≡ true) (early : stage s < 2) (l : List ℕ) where
  -- the table with the root and the nodes d below it
  abbrev table_of : Nodes → List ℕ
  table_of d = table_bytes n (map node_bytes (node 0 l ∷ d))

  -- `(child TREE)`
  module _ (g : ℕ) (low : 2 ≤ g) (high : g ≤ 3) (d : Nodes) (allowed : AllowedNodes (node 0 l ∷ d)) (fits : suc (length d) ≤ capacity n)
      (u : Tree) (good : GoodTree u) where
    passes : store_ok (with_stage g s) (table_of d) ≡ true
    passes = (made_passes n head (node 0 l ∷ d) allowed fits s ok early (omega arith) g low high).0

    sound : table_ok (table_of d) ≡ true
    sound = (store_held (with_stage g s) (table_of d) passes).table

    some : 1 ≤ count (table_of d)
    some = omega (arith, count_made n head (node 0 l ∷ d) allowed fits)

    abbrev childChecks : List Check
    childChecks = checks_of (with_stage g s) (table_of d) (command word.Child (u, tt)) room

    restricted-told : (TreeRestricted u → ⊥) ↔ (tree_restricted (size_of u) (tree_bytes u) ≡ false)
    restricted-told = passes_exactly (tree_told u good)

    deep_told : (DeepAt 1 u → ⊥) ↔ (too_deep (1 + deepest (chunks (size_of u) (tree_bytes u))) root_alone (records (table_of d)) ≡ false)
    deep_told = passes_exactly (child_told s (table_of d) u good sound some)

    room_told : (free (table_of d) < size_of u → ⊥) ↔ (not (has_room (table_of d) root_alone (size_of u)) ≡ false)
    room_told = passes_exactly (child_room_told s (table_of d) u good sound some)

    free-now : free (table_of d) ≡ capacity n - suc (length d)
    free-now = free_made n head (node 0 l ∷ d) allowed fits

    child-passed : (TreeRestricted u → ⊥) → (DeepAt 1 u → ⊥) → suc (length d) + size_of u ≤ capacity n → 5 ≤ room → Passed childChecks
    child-passed a b c r =
        let h : in_stage 3 g ≡ true = rw (le-leb g 3 high, le-leb 2 g low) in
        let f = room_told.0 (λ k. omega (arith, free-now)) in
        (rw passes, (rw h, (restricted-told.0 a, (deep_told.0 b, (f, (le-ltb room 5 r, tt))))))

    passed-child : Passed childChecks → (TreeRestricted u → ⊥) × (DeepAt 1 u → ⊥) × (suc (length d) + size_of u ≤ capacity n)
    passed-child p = (
      restricted-told.1 p.1.1.0,
      deep_told.1 p.1.1.1.0,
      by_case (ltb (free (table_of d)) (size_of u))
          (λ e. absurd (room_told.1 p.1.1.1.1.0 (ltb-true (free (table_of d)) (size_of u) e)))
          (λ e. omega (arith, ltb-false (free (table_of d)) (size_of u) e, free-now)),
    )

    child-leaves : Passed childChecks → All LowLevel (nodes_of 1 u)
        → step_unlimited (with_stage g s) (table_of d) (command word.Child (u, tt)) room ≡ leaving ok_text (with_stage 3 s) (table_of (d ++ nodes_of 1 u))
    unfolding changed
    child-leaves p a =
        carried_out (with_stage g s) (table_of d) (command word.Child (u, tt)) room p
        ∙ ap (leaving ok_text (with_stage 3 s))
        (ap₂ table_bytes (length_made n head (node 0 l ∷ d) allowed fits)
        (child_last (table_of d) (tree_bytes u) (size_of u) sound some
        ∙ ap₂ ◌++◌ (records_made n head (node 0 l ∷ d) allowed fits) (ap (raise 1) (tree_chunks u good) ∙ raised_tree u 0 a)
        ∙ sym (map-append node_bytes (node 0 l ∷ d) (nodes_of 1 u))))

  -- the lines of all children that are left, one after the other
  children_leave : (us : Trees) (g : ℕ) (d : Nodes) → 2 ≤ g → g ≤ 3 → GoodTrees us → AllowedNodes (node 0 l ∷ (d ++ nodes_in 1 us))
      → suc (length (d ++ nodes_in 1 us)) ≤ capacity n → 5 ≤ room
      → LinesLeave room (child_commands us) (with_stage g s) (table_of d) (with_stage (stage_behind g us) s) (table_of (d ++ nodes_in 1 us))
  unfolding nodes_in GoodTrees
  children_leave none g d low high good a f r = (refl, ap table_of (append-nil d))
  children_leave (more u us) g d low high good a f r =
      let e : (d ++ nodes_of 1 u) ++ nodes_in 1 us ≡ d ++ (nodes_of 1 u ++ nodes_in 1 us) = append_assoc d (nodes_of 1 u) (nodes_in 1 us) in
      let whole : AllowedNodes (node 0 l ∷ ((d ++ nodes_of 1 u) ++ nodes_in 1 us)) = rw e a in
      let next : AllowedNodes (node 0 l ∷ (d ++ nodes_of 1 u)) = allowed_front (node 0 l) (d ++ nodes_of 1 u) (nodes_in 1 us) whole in
      let now : AllowedNodes (node 0 l ∷ d) = allowed_front (node 0 l) d (nodes_of 1 u) next in
      let levels = all_back LowLevel d (nodes_of 1 u) next.levels.1 in
      let labels = relevel LabelOk 1 0 u (all_back StoredLabel d (nodes_of 1 u) next.labels.1) in
      let m = length-append d (nodes_of 1 u ++ nodes_in 1 us) in
      let k = length-append (nodes_of 1 u) (nodes_in 1 us) in
      let fits : suc (length d) ≤ capacity n = omega arith in
      let size : suc (length d) + size_of u ≤ capacity n = omega (arith, size_at 1 0 u) in
      let p = child-passed g low high d now fits u good.0 (labels_free u labels) (levels_low (nodes_of 1 u) levels) size r in
      let o = child-leaves g low high d now fits u good.0 p levels in
      let ih = children_leave us 3 (d ++ nodes_of 1 u) (omega arith) (omega arith) good.1 whole (rw e f) r in
      let s' = with_stage 3 s in
      let t' = table_of (d ++ (nodes_of 1 u ++ nodes_in 1 us)) in
      (ap (λ (x : Outcome). x.reply) o, subst (Follow room (child_commands us) s' t') (sym o) (rw (stage-kept us, e) at ih))

  -- and back
  children-told : (us : Trees) (g : ℕ) (d : Nodes) → 2 ≤ g → g ≤ 3 → GoodTrees us → TreeShaped (node 0 l ∷ (d ++ nodes_in 1 us))
      → AllowedNodes (node 0 l ∷ d) → suc (length d) ≤ capacity n
      → (s' t' : List ℕ) → LinesLeave room (child_commands us) (with_stage g s) (table_of d) s' t'
      → AllowedNodes (node 0 l ∷ (d ++ nodes_in 1 us)) × (suc (length (d ++ nodes_in 1 us)) ≤ capacity n)
  unfolding nodes_in GoodTrees
  children-told none g d low high good shape now fits s' t' x = rw (append-nil d) (now, fits)
  children-told (more u us) g d low high good shape now fits s' t' x =
      let e : (d ++ nodes_of 1 u) ++ nodes_in 1 us ≡ d ++ (nodes_of 1 u ++ nodes_in 1 us) = append_assoc d (nodes_of 1 u) (nodes_in 1 us) in
      let whole : TreeShaped (node 0 l ∷ ((d ++ nodes_of 1 u) ++ nodes_in 1 us)) = rw e shape in
      let p = answered (with_stage g s) (table_of d) (command word.Child (u, tt)) room ok_text x.0 in
      let k = passed-child g low high d now fits u good.0 p in
      let levels = low_levels (nodes_of 1 u) k.1 in
      let labels = relevel LabelOk 0 1 u (free_labels u good.0 k.0) in
      let next : AllowedNodes (node 0 l ∷ (d ++ nodes_of 1 u)) = record {
        shape = shaped_front (node 0 l) (d ++ nodes_of 1 u) (nodes_in 1 us) whole;
        levels = (now.levels.0, all_append level_of LowLevel d (nodes_of 1 u) now.levels.1 levels);
        labels = (now.labels.0, all_append level_of StoredLabel d (nodes_of 1 u) now.labels.1 labels);
      } in
      let size : suc (length (d ++ nodes_of 1 u)) ≤ capacity n = omega (arith, k.2, size_at 1 0 u, length-append d (nodes_of 1 u)) in
      let o = child-leaves g low high d now fits u good.0 p levels in
      let rest = subst (Follow room (child_commands us) s' t') o x.1 in
      rw (← e) (children-told us 3 (d ++ nodes_of 1 u) (omega arith) (omega arith) good.1 whole next size s' t' rest)

-- The whole tree

loadable_allowed : (room : ℕ) (t : List ℕ) (u : Tree) → GoodTree u → Loadable room t u → AllowedNodes (nodes_of 0 u)
unfolding nodes_of
loadable_allowed room t (tree l us) g h = record {
  shape = tree_shaped l us;
  levels = low_levels (nodes_of 0 (tree l us)) h.levels;
  labels = free_labels (tree l us) g h.labels;
}

module _ (room : ℕ) (s t : List ℕ) where
  loaded : (u : Tree) → GoodTree u → store_ok s t ≡ true → stage s < 2 → Loadable room t u
      → LinesLeave room (matching_lines u) s t (loaded_state u s) (loaded_table u t)
  unfolding nodes_of GoodTree
  loaded (tree l us) g ok early h =
      let a = loadable_allowed room t (tree l us) g h in
      let p = root_passed room s t l ok early (λ e. h.labels (inl e)) (omega (arith, h.size)) h.area in
      let x = children_leave room (length t) (table_long t (store_held s t ok).table) s (state_passes s t ok) early l us 2 []
      (omega arith) (omega arith) g.1 a h.size h.area in
      let o = root_leaves room s t l p in (
        ap (λ (x : Outcome). x.reply) o,
        subst (Follow room (child_commands us) (loaded_state (tree l us) s) (loaded_table (tree l us) t)) (sym o) (rw (stage_loaded l us) at x),
      )

  kept : (u : Tree) → GoodTree u → store_ok s t ≡ true → stage s < 2 → Loadable room t u
      → (store_ok (loaded_state u s) (loaded_table u t) ≡ true) × (stored_nodes (loaded_table u t) ≡ nodes_of 0 u)
      × (records (loaded_table u t) ≡ map node_bytes (nodes_of 0 u))
  unfolding nodes_of
  kept (tree l us) good ok early h =
      let a = loadable_allowed room t (tree l us) good h in
      let g = stage-behind us in
      rw (← stage_loaded l us)
      (made_passes (length t) (table_long t (store_held s t ok).table) (nodes_of 0 (tree l us)) a h.size s (state_passes s t ok) early
      (omega arith) (stage_behind 2 us) g.0 g.1)

  taken : (u : Tree) → GoodTree u → (s' t' : List ℕ) → LinesLeave room (matching_lines u) s t s' t'
      → (store_ok s t ≡ true) × (stage s < 2) × Loadable room t u
  unfolding nodes_of GoodTree
  taken (tree l us) g s' t' x =
      let p = answered s t (command word.Root (l, tt)) room ok_text x.0 in
      let k = passed_root room s t l p in
      let rest = subst (Follow room (child_commands us) s' t') (root_leaves room s t l p) x.1 in
      let now : AllowedNodes (node 0 l ∷ []) = record {
        shape = shaped_front (node 0 l) [] (nodes_in 1 us) (tree_shaped l us);
        levels = (omega arith, tt);
        labels = (label-ok l g.0 p.1.1.0, tt);
      } in
      let y = children-told room (length t) (table_long t (store_held s t k.0).table) s (state_passes s t k.0) k.1 l us 2 []
      (omega arith) (omega arith) g.1 (tree_shaped l us) now k.3 s' t' rest in (
        k.0,
        k.1,
        record {
          labels = labels_free (tree l us) y.0.labels;
          levels = levels_low (nodes_of 0 (tree l us)) y.0.levels;
          size = y.1;
          area = k.4;
        },
      )

module _ (room : ℕ) (s t : List ℕ) (u : Tree) (good : GoodTree u) where
  -- Where no root is there and nothing turns the tree away, its lines leave the state and the table with the tree loaded.
  pub load_lines : store_ok s t ≡ true → stage s < stage_c → Loadable room t u
      → LinesLeave room (matching_lines u) s t (loaded_state u s) (loaded_table u t)
  load_lines = loaded room s t u good

  -- A store that passes 13 still does after it, and its nodes are those of the tree, each in its record.
  pub load_kept : store_ok s t ≡ true → stage s < stage_c → Loadable room t u
      → (store_ok (loaded_state u s) (loaded_table u t) ≡ true) × (stored_nodes (loaded_table u t) ≡ nodes_of 0 u)
      × (records (loaded_table u t) ≡ map node_bytes (nodes_of 0 u))
  load_kept = kept room s t u good

  -- The other way: if its lines are all answered `(ok)`, no root is there, nothing turns the tree away, and this is what they leave.
  pub lines_load : (s' t' : List ℕ) → LinesLeave room (matching_lines u) s t s' t'
      → (store_ok s t ≡ true) × (stage s < stage_c) × Loadable room t u × (s' ≡ loaded_state u s) × (t' ≡ loaded_table u t)
  lines_load s' t' x =
      let k = taken room s t u good s' t' x in
      let y = lines_one room (matching_lines u) s t s' t' (loaded_state u s) (loaded_table u t) x (load_lines k.0 k.1 k.2) in
      (k.0, k.1, k.2, y.0, y.1)

  -- So a tree is taken exactly if its lines would be.
  pub load_exactly : ((s' : List ℕ) × (t' : List ℕ) × LinesLeave room (matching_lines u) s t s' t')
      ↔ ((store_ok s t ≡ true) × (stage s < stage_c) × Loadable room t u)
  load_exactly = (
    λ (s', t', x). taken room s t u good s' t' x,
    λ (ok, early, h). (loaded_state u s, loaded_table u t, load_lines ok early h),
  )
