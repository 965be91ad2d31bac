-- The table after a change passes the check (refusal 13 never comes of a change). Assumes nothing.
use Prim.Native.Nat.{ℕ, zero, suc, ◌+◌, ◌-◌, ◌*◌, ◌≤◌, ◌<◌}
use mathlib.Core.Bool.{Bool, true, false, false≢true}
use mathlib.Core.Path.{◌≡◌, refl, sym, ap, ◌∙◌}
use mathlib.Core.List.{List, [], ◌∷◌, map-id}
use native.Mathlib.Omega.{arith}
use native.Mathlib.Numerals.{add-one}
use native.Mathlib.Nat.{add-zero}
use borrow.Author.Tests.{leb-true, lt-ltb}
use lib.ListN.{length, get_or, take, drop, length-drop}
use lib.Seq.{length-take-le, get_or-drop}
use Rattle.rights.specs.Table.{window_ok, label_part_ok, spare_ok, record_ok, records_ok, level, spare, table_ok, count, capacity, records}
use Rattle.rights.proofs.AllLaws.{all_with}
use Rattle.rights.proofs.TableLaws.{both, record_levels, record_parts, spare-window, spare-zeros}
use Rattle.rights.proofs.ListLaws.{by_case}
use Rattle.rights.proofs.RecordsOkLaws.{record_yes}
use Rattle.rights.proofs.HeldTableLaws.{length_table, count_table, records_table, table_passes}
use Rattle.rights.proofs.RecordOfLaws.{made_ok}
use Rattle.views.specs.declared.insert.Place.{Place}
use Rattle.views.specs.declared.insert.Place.TheVariants.{Append, After, Before}
use Rattle.views.specs.Change.{drop_below, put_behind, remove, insert_behind, insert_in_front, rename, chunks, raise, lower, placed, removed, relabel, renamed, redate, redated, changed, deepest, too_deep, has_room}
use Rattle.rights.specs.Marks.{mark_count}
use Rattle.views.specs.How.Pass.{AtDone, Shallow}
use Rattle.views.specs.Nodes.{Above, Front, All, Nested, TreeOk, LabelOk}
use Rattle.views.proofs.ChunkLaws.{all-chunks, length-chunks, level_first}
use Rattle.views.proofs.TableLaws.{facts}
use Rattle.views.proofs.InsertionLaws.{length-rename}
use Rattle.views.proofs.RelabelLaws.{level-relabel, length-relabel, spare-relabel}
use Rattle.views.proofs.RedateLaws.{level-redate, length-redate, redate-ok}
use Rattle.views.proofs.RecordBytes.{length-raised, above-raise}
use Rattle.views.proofs.WholeInsertionLaws.{placed-length}
use Rattle.views.proofs.DepthLaws.{shallow_places}
use Rattle.views.proofs.NestedLaws.{nested-remove, nested-insert_behind, nested-insert_in_front, nested-rename, all_remove, all-put_behind, all-insert_behind, all-insert_in_front, all-rename, done_from_lem, drop_all, shorter_remove}

abbrev pub Full : List ℕ → Type 0
Full r = length r ≡ 32

-- what is read of the bytes that a change leaves
module _ (t : List ℕ) (rs : List (List ℕ)) (head : 4 ≤ length t) (room : length rs ≤ capacity (length t)) (full : All Full rs) where
  pub length-changed : length (changed t rs) ≡ length t
  unfolding changed
  length-changed = rw (map-id rs) at (length_table (λ (r : List ℕ). r) [] (length t) rs head room full)

  pub count-changed : count (changed t rs) ≡ length rs
  unfolding changed
  count-changed = rw (map-id rs) at (count_table (λ (r : List ℕ). r) [] (length t) rs head room full)

  pub records-changed : records (changed t rs) ≡ rs
  unfolding changed
  records-changed = rw (map-id rs) at (records_table (λ (r : List ℕ). r) [] (length t) rs head room full)

  pub changed-ok : records_ok 0 0 rs ≡ true → table_ok (changed t rs) ≡ true
  unfolding changed
  changed-ok e = rw (map-id rs) at (table_passes (λ (r : List ℕ). r) [] (length t) rs head room full) e

-- a record with other bounds for its level
pub tighten : (low high : ℕ) (r : List ℕ) → low ≤ level r → level r ≤ high → (l h : ℕ) → record_ok l h r ≡ true → record_ok low high r ≡ true
tighten low high r a b l h e =
    let g = record_parts l h r e in
    record_yes low high r a b (record_levels l h r e).2 ∙ rw (g.0, g.1)

pub loosen : (low high : ℕ) (r : List ℕ) → record_ok low high r ≡ true → (low ≤ level r) × (level r ≤ high) × (record_ok 0 11 r ≡ true)
loosen low high r e =
    let f = record_levels low high r e in
    (f.0, f.1, tighten 0 11 r (omega arith) f.2 low high e)

-- a record with another level, below the root: a window of the whole year is a window
pub relevel : (l : ℕ) (xs : List ℕ) → 1 ≤ l → l ≤ 11 → record_ok 0 11 (0 ∷ xs) ≡ true → record_ok 0 11 (l ∷ xs) ≡ true
unfolding label_part_ok spare_ok
relevel l xs i h e =
    let g = record_parts 0 11 (0 ∷ xs) e in
    record_yes 0 11 (l ∷ xs) (omega arith) h h
    ∙ rw (g.0, spare-window (0 ∷ xs) g.1, lt-ltb 0 l i, spare-zeros (0 ∷ xs) g.1)

-- a record below the root
abbrev pub Good : List ℕ → Type 0
Good r = (1 ≤ level r) × (length r ≡ 32) × (record_ok 0 11 r ≡ true)

good_full : (rs : List (List ℕ)) → All Good rs → All Full rs
good_full rs a = all_with Good (λ x g. g.1) rs a

inner_nodes : (n : ℕ) (rs : List (List ℕ)) → records_ok 1 n rs ≡ true → All Full rs → Nested level n rs × All Good rs
unfolding records_ok
inner_nodes n [] e a = (tt, tt)
inner_nodes n (r ∷ rs) e a =
    let f = both (record_ok 1 n r) (records_ok 1 (level r + 1) rs) e in
    let g = loosen 1 n r f.0 in
    let h = inner_nodes (suc (level r)) rs (rw (← add-one (level r)) f.1) a.1 in
    ((g.1, h.0), ((g.0, a.0, g.2), h.1))

nodes_inner : (n : ℕ) (rs : List (List ℕ)) → Nested level n rs → All Good rs → records_ok 1 n rs ≡ true
unfolding records_ok
nodes_inner n [] w a = refl
nodes_inner n (r ∷ rs) w a = rw (tighten 1 n r a.0.0 w.0 0 11 a.0.2, add-one (level r)) (nodes_inner (suc (level r)) rs w.1 a.1)

-- the root and what is below it
root_split : (r : List ℕ) (rs : List (List ℕ)) → records_ok 0 0 (r ∷ rs) ≡ true → All Full rs
    → (level r ≡ 0) × (record_ok 0 11 r ≡ true) × Nested level (suc (level r)) rs × All Good rs
unfolding records_ok
root_split r rs e a =
    let f = both (record_ok 0 0 r) (records_ok 1 (level r + 1) rs) e in
    let g = loosen 0 0 r f.0 in
    let h = inner_nodes (suc (level r)) rs (rw (← add-one (level r)) f.1) a in
    (omega (arith, g.1), g.2, h.0, h.1)

root_join : (r : List ℕ) (rs : List (List ℕ)) → level r ≡ 0 → record_ok 0 11 r ≡ true → Nested level (suc (level r)) rs → All Good rs → records_ok 0 0 (r ∷ rs) ≡ true
unfolding records_ok
root_join r rs z e w a = rw (tighten 0 0 r (omega arith) (omega (arith, z)) 0 11 e, add-one (level r)) (nodes_inner (suc (level r)) rs w a)

-- the records after a change
abbrev pub Ok : List (List ℕ) → Type 0
Ok rs = (records_ok 0 0 rs ≡ true) × All Full rs

remove-kept : (ms : List Bool) (rs : List (List ℕ)) → Ok rs → Ok (remove level ms rs)
unfolding remove records_ok
remove-kept ms [] k = (refl, tt)
remove-kept ms (r ∷ rs) k =
    let s = root_split r rs k.0 k.1.1 in
    let u = remove level (drop 1 ms) rs in
    let w = nested-remove level (suc (level r)) (drop 1 ms) rs s.2 in
    let g = all_remove level Good (drop 1 ms) rs s.3 in
    by_case (get_or ms 0 false)
    (λ d. let z : drop_below level (level r) u ≡ [] = rw s.0 (drop_all level u (all_with Good (λ x h. h.0) u g)) in rw (d, z) (refl, tt))
    (λ d. rw d (root_join r u s.0 s.1 w g, (k.1.0, good_full u g)))

module _ (y : List ℕ → List (List ℕ)) (k : List ℕ → ℕ) (lo : (x : List ℕ) → level x ≤ k x) (hi : (x : List ℕ) → k x ≤ suc (level x))
    (wy : (x : List ℕ) → Nested level (k x) (y x)) (ab : (x : List ℕ) → Above level (k x) (y x)) (fr : (x : List ℕ) → Front level (k x) (y x)) where
  behind-kept : (ms : List Bool) (rs : List (List ℕ)) → Ok rs → AtDone (λ x. All Good (y x)) ms rs → Ok (insert_behind level y ms rs)
  unfolding insert_behind records_ok
  behind-kept ms [] q d = (refl, tt)
  behind-kept ms (r ∷ rs) q d =
      let s = root_split r rs q.0 q.1.1 in
      let u = insert_behind level y (drop 1 ms) rs in
      let w = nested-insert_behind level y k lo hi wy ab fr (level r) ms (r ∷ rs) (omega arith, s.2) in
      let g = all-insert_behind level Good y (drop 1 ms) rs s.3 d.1 in
      by_case (get_or ms 0 false)
      (λ e. let v = (rw e at w).1 in let h = all-put_behind level Good (level r) (y r) u (d.0 e) g in
      rw e (root_join r (put_behind level (level r) (y r) u) s.0 s.1 v h, (q.1.0, good_full (put_behind level (level r) (y r) u) h)))
      (λ e. let v = (rw e at w).1 in rw e (root_join r u s.0 s.1 v g, (q.1.0, good_full u g)))

module _ (y : List ℕ → List (List ℕ)) (wy : (x : List ℕ) → Nested level (level x) (y x)) (ab : (x : List ℕ) → Above level (level x) (y x))
    (fr : (x : List ℕ) → Front level (level x) (y x)) where
  front_kept : (ms : List Bool) (rs : List (List ℕ)) → get_or ms 0 false ≡ false → Ok rs → AtDone (λ x. All Good (y x)) ms rs → Ok (insert_in_front level y ms rs)
  unfolding insert_in_front records_ok
  front_kept ms [] e q d = (refl, tt)
  front_kept ms (r ∷ rs) e q d =
      let s = root_split r rs q.0 q.1.1 in
      let u = insert_in_front level y (drop 1 ms) rs in
      let w = nested-insert_in_front level y wy ab fr (suc (level r)) (drop 1 ms) rs s.2 in
      let g = all-insert_in_front level Good y (drop 1 ms) rs s.3 d.1 in
      rw e (root_join r u s.0 s.1 w g, (q.1.0, good_full u g))

-- what holds of each record that is done
done_of : (P : List ℕ → Type 0) (ms : List Bool) (t : List (List ℕ)) → All P t → AtDone P ms t
done_of P ms [] a = tt
done_of P ms (x ∷ t) a = ((λ e. a.0), done_of P (drop 1 ms) t a.1)

done_with : (P Q R : List ℕ → Type 0) → ((x : List ℕ) → P x → Q x → R x) → (ms : List Bool) (t : List (List ℕ)) → AtDone P ms t → AtDone Q ms t → AtDone R ms t
done_with P Q R h ms [] a b = tt
done_with P Q R h ms (x ∷ t) a b = ((λ e. h x (a.0 e) (b.0 e)), done_with P Q R h (drop 1 ms) t a.1 b.1)

-- where the root is not done, what is done is below it
inner_done : (ms : List Bool) (rs : List (List ℕ)) → get_or ms 0 false ≡ false → Ok rs → AtDone Good ms rs
inner_done ms [] e q = tt
inner_done ms (r ∷ rs) e q = ((λ f. absurd (false≢true (sym e ∙ f))), done_of Good (drop 1 ms) rs (root_split r rs q.0 q.1.1).3)

-- what f keeps of a record of 32 bytes: its level, its length, and, where D holds of it, that it passes the check
pub record Keeps (D : List ℕ → Type 0) (f : List ℕ → List ℕ) : Type 0 where
  pub same-level : (r : List ℕ) → Full r → level (f r) ≡ level r
  pub full : (r : List ℕ) → Full r → Full (f r)
  pub ok : (r : List ℕ) → Full r → D r → record_ok 0 11 r ≡ true → record_ok 0 11 (f r) ≡ true

rename-kept : (D : List ℕ → Type 0) (f : List ℕ → List ℕ) → Keeps D f → (ms : List Bool) (rs : List (List ℕ)) → AtDone D ms rs → Ok rs → Ok (rename level f ms rs)
unfolding rename records_ok
rename-kept D f k ms [] m q = (refl, tt)
rename-kept D f k ms (r ∷ rs) m q =
    let p = root_split r rs q.0 q.1.1 in
    let e = k.same-level r q.1.0 in
    let u = rename level f (drop 1 ms) rs in
    let w = nested-rename level f (suc (level r)) (drop 1 ms) rs (all_with Good (λ x h. k.same-level x h.1) rs p.3) p.2 in
    let a =
    done_with Good D (λ x. Good (f x)) (λ x h d. (rw (k.same-level x h.1) h.0, k.full x h.1, k.ok x h.1 d h.2)) (drop 1 ms) rs
    (done_of Good (drop 1 ms) rs p.3) m.1 in
    let g = all-rename level Good f (drop 1 ms) rs p.3 a in
    by_case (get_or ms 0 false)
    (λ d. rw d (root_join (f r) u (e ∙ p.0) (k.ok r q.1.0 (m.0 d) p.1) (rw e w) g, (k.full r q.1.0, good_full u g)))
    (λ d. rw d (root_join r u p.0 p.1 w g, (q.1.0, good_full u g)))

-- a record with another label: its spare bytes stay
relabel-keeps : (s : List ℕ) → LabelOk s → Keeps Full (relabel s)
relabel-keeps s l = record { same-level = λ r h. level-relabel s r; full = λ r. length-relabel s r l.short; ok = ok }
  where
    ok : (r : List ℕ) → Full r → Full r → record_ok 0 11 r ≡ true → record_ok 0 11 (relabel s r) ≡ true
    ok r h d e =
        let m = (record_levels 0 11 r e).2 in
        let p : spare_ok (relabel s r) ≡ true = spare-relabel s r l.short ∙ (record_parts 0 11 r e).1 in
        made_ok 0 11 (level r) s (spare r) (omega arith) m m l.some l.short l.bytes l.free p

-- a record below the root with another window
redate-keeps : (f l : ℕ) → window_ok f l ≡ true → Keeps Good (redate f l)
redate-keeps f l w = record { same-level = level-redate f l; full = length-redate f l; ok = λ r h g. redate-ok f l r h w g.0 }

-- a tree at its place
nested-raise : (k n : ℕ) (tree : List (List ℕ)) → Nested level n tree → Nested level (k + n) (raise k tree)
unfolding raise
nested-raise k n [] w = tt
nested-raise k n (r ∷ rs) w =
    let z : suc (k + level r) ≡ k + suc (level r) = omega arith in
    (omega (arith, w.0), rw z (nested-raise k (suc (level r)) rs w.1))

tree_nested : (k : ℕ) (tree : List (List ℕ)) → Nested level 0 tree → Nested level k (raise k tree)
tree_nested k tree w = let e = nested-raise k 0 tree w in rw (add-zero k) at e

tree_front : (k : ℕ) (tree : List (List ℕ)) → Nested level 0 tree → Front level k (raise k tree)
unfolding raise
tree_front k [] w = tt
tree_front k (r ∷ rs) w = omega (arith, w.0)

tree_good : (k : ℕ) (tree : List (List ℕ)) → 1 ≤ k → All (λ r. (length r ≡ 32) × (record_ok 0 11 (0 ∷ drop 1 r) ≡ true)) tree → All (λ r. k + level r ≤ 11) tree
    → All Good (raise k tree)
unfolding raise
tree_good k [] h a b = tt
tree_good k (r ∷ rs) h a b =
    ((omega (arith, h), length-raised k r (omega (arith, a.0.0)) ∙ a.0.0, relevel (k + level r) (drop 1 r) (omega (arith, h)) b.0 a.0.1), tree_good k rs h a.1 b.1)

tree_levels : (k m : ℕ) (tree : List ℕ) → ((j : ℕ) → j < m → k + get_or tree (j * 32) 0 < 12) → All (λ r. k + level r ≤ 11) (chunks m tree)
unfolding chunks
tree_levels k zero tree h = tt
tree_levels k (suc m) tree h = (
  omega (arith, h 0 (omega arith), level_first 0 tree),
  tree_levels k m (drop 32 tree) (λ j q. let e : suc j * 32 ≡ 32 + j * 32 = omega arith in rw (get_or-drop 32 tree (j * 32) 0, ← e) (h (suc j) (omega (arith, q)))),
)

module _ (m : ℕ) (tree : List ℕ) (ok : TreeOk (chunks m tree)) where
  lands : (k : ℕ) → 1 ≤ k → ((j : ℕ) → j < m → k + get_or tree (j * 32) 0 < 12) → All Good (raise k (chunks m tree))
  lands k h s = tree_good k (chunks m tree) h ok.labels (tree_levels k m tree s)

  -- beside a node that is not the root
  beside : (ms : List Bool) (rs : List (List ℕ)) → get_or ms 0 false ≡ false → Ok rs → AtDone (λ r. Shallow 0 m tree (level r)) ms rs
      → AtDone (λ r. All Good (raise (level r) (chunks m tree))) ms rs
  beside ms rs e q d =
      done_with Good (λ r. Shallow 0 m tree (level r)) (λ r. All Good (raise (level r) (chunks m tree)))
      (λ x g s. lands (level x) g.0 (λ j h. omega (arith, s j h))) ms rs (inner_done ms rs e q) d

  placed-kept : (place : Place) (ms : List Bool) (rs : List (List ℕ)) → Ok rs → AtDone (λ r. Shallow (lower place) m tree (level r)) ms rs
      → (lower place ≡ 0 → get_or ms 0 false ≡ false) → Ok (placed place m tree ms rs)
  placed-kept Append ms rs q d root =
      behind-kept (λ x. raise (suc (level x)) (chunks m tree)) (λ x. suc (level x)) (λ x. omega arith) (λ x. omega arith)
      (λ x. tree_nested (suc (level x)) (chunks m tree) ok.nested) (λ x. above-raise (suc (level x)) (suc (level x)) (chunks m tree) (omega arith))
      (λ x. tree_front (suc (level x)) (chunks m tree) ok.nested) ms rs q
      (done_from_lem level (λ r. Shallow 1 m tree (level r)) (λ r. All Good (raise (suc (level r)) (chunks m tree)))
      (λ x s. lands (suc (level x)) (omega arith) (λ j h. omega (arith, s j h))) ms rs d)
  placed-kept After ms rs q d root =
      behind-kept (λ x. raise (level x) (chunks m tree)) (λ x. level x) (λ x. omega arith) (λ x. omega arith)
      (λ x. tree_nested (level x) (chunks m tree) ok.nested) (λ x. above-raise (level x) (level x) (chunks m tree) (omega arith))
      (λ x. tree_front (level x) (chunks m tree) ok.nested) ms rs q (beside ms rs (root refl) q d)
  placed-kept Before ms rs q d root =
      front_kept (λ x. raise (level x) (chunks m tree))
      (λ x. tree_nested (level x) (chunks m tree) ok.nested) (λ x. above-raise (level x) (level x) (chunks m tree) (omega arith))
      (λ x. tree_front (level x) (chunks m tree) ok.nested) ms rs (root refl) q (beside ms rs (root refl) q d)

-- the records of a table
pub full_chunks : (n : ℕ) (x : List ℕ) → n * 32 ≤ length x → All Full (chunks n x)
unfolding chunks
full_chunks zero x h = tt
full_chunks (suc n) x h = (length-take-le 32 x (omega arith), full_chunks n (drop 32 x) (rw length-drop (omega arith)))

pub length-records : (t : List ℕ) → length (records t) ≡ count t
length-records t = ap length (all-chunks t) ∙ length-chunks (count t) (drop 4 t)

pub records-kept : (t : List ℕ) → table_ok t ≡ true → Ok (records t)
records-kept t e = let f = facts t e in (f.nested, rw (all-chunks t) (full_chunks (count t) (drop 4 t) (rw length-drop (omega (arith, f.size)))))

pub length-placed : (place : Place) (t : List ℕ) (ms : List Bool) (tree : List ℕ) (m : ℕ) → length (placed place m tree ms (records t)) ≡ count t + mark_count (take (count t) ms) * m
length-placed place t ms tree m = ap (λ (rs : List (List ℕ)). length (placed place m tree ms rs)) (all-chunks t) ∙ placed-length place (count t) m tree ms (drop 4 t)

-- ----------------------------------------------------------------------------
-- The table after a removal, a renaming, another window, an insertion: its length is kept, it passes the check, and its records are those that the change gives.

pub record StoredAs (t : List ℕ) (rs : List (List ℕ)) : Type 0 where
  pub ok : table_ok (changed t rs) ≡ true
  pub same_length : length (changed t rs) ≡ length t
  pub held : records (changed t rs) ≡ rs
  pub counted : count (changed t rs) ≡ length rs

stored : (t : List ℕ) (rs : List (List ℕ)) → 4 ≤ length t → length rs ≤ capacity (length t) → Ok rs → StoredAs t rs
stored t rs h r k = record {
  ok = changed-ok t rs h r k.1 k.0;
  same_length = length-changed t rs h r k.1;
  held = records-changed t rs h r k.1;
  counted = count-changed t rs h r k.1;
}

pub removed-stored : (t : List ℕ) (ms : List Bool) → table_ok t ≡ true → StoredAs t (removed ms (records t))
removed-stored t ms e =
    let f = facts t e in
    let l : length (removed ms (records t)) ≤ count t = omega (arith, shorter_remove level ms (records t), length-records t) in
    stored t (removed ms (records t)) f.head (omega (arith, l, f.held)) (remove-kept ms (records t) (records-kept t e))

rename-stored : (D : List ℕ → Type 0) (f : List ℕ → List ℕ) → Keeps D f → (t : List ℕ) (ms : List Bool) → table_ok t ≡ true → AtDone D ms (records t)
    → StoredAs t (rename level f ms (records t))
rename-stored D f k t ms e d =
    let h = facts t e in
    let n : length (rename level f ms (records t)) ≡ count t = length-rename level f ms (records t) ∙ length-records t in
    stored t (rename level f ms (records t)) h.head (omega (arith, n, h.held)) (rename-kept D f k ms (records t) d (records-kept t e))

pub renamed-stored : (t : List ℕ) (ms : List Bool) (s : List ℕ) → table_ok t ≡ true → LabelOk s → StoredAs t (renamed s ms (records t))
renamed-stored t ms s e l = rename-stored Full (relabel s) (relabel-keeps s l) t ms e (done_of Full ms (records t) (records-kept t e).1)

-- another window, where the root is not done
pub redated-stored : (t : List ℕ) (ms : List Bool) (f l : ℕ) → table_ok t ≡ true → window_ok f l ≡ true → get_or ms 0 false ≡ false → StoredAs t (redated f l ms (records t))
redated-stored t ms f l e w root = rename-stored Good (redate f l) (redate-keeps f l w) t ms e (inner_done ms (records t) root (records-kept t e))

pub placed-stored : (place : Place) (t : List ℕ) (ms : List Bool) (tree : List ℕ) (m : ℕ) → table_ok t ≡ true → TreeOk (chunks m tree)
    → too_deep (lower place + deepest (chunks m tree)) ms (records t) ≡ false → has_room t ms m ≡ true → (lower place ≡ 0 → get_or ms 0 false ≡ false)
    → StoredAs t (placed place m tree ms (records t))
placed-stored place t ms tree m e ok deep room root =
    let f = facts t e in
    let n = length-placed place t ms tree m in
    let r : mark_count (take (count t) ms) * m ≤ capacity (length t) - count t = leb-true _ _ room in
    stored t (placed place m tree ms (records t)) f.head (omega (arith, n, r, f.held))
    (placed-kept m tree ok place ms (records t) (records-kept t e) (shallow_places (lower place) m tree ms (records t) deep) root)
