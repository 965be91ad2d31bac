-- Levels at the places that are done: refusals 10 and 11, and what their absence gives to an insertion. Assumes nothing.
use mathlib.Core.Path.{◌≡◌, refl, ap, sym, ◌∙◌}
use mathlib.Core.List.{List, [], ◌∷◌}
use mathlib.Core.Bool.{Bool, true, false, cond, not, ◌&&◌, ◌||◌, false≢true}
use Prim.Native.Nat.{ℕ, zero, suc, ◌+◌, ◌-◌, ◌*◌, ◌^◌, ◌≤◌, ◌<◌}
use native.Mathlib.Omega.{arith}
use lib.ListN.{length, get_or, take, drop}
use lib.Seq.{get_or-drop, drop-drop}
use lib.Dec.{eqb, leb, ltb}
use borrow.Author.Tests.{ltb-true, ltb-false, leb-true, lt-ltb, le-ltb}
use Rattle.std.proofs.Common.{Ordering, Less, Equal, Greater}
use Rattle.std.specs.Ordering.{MatchOrdering, is_lt, nat_cmp, ord_max}
use Rattle.std.specs.Cmp.{ranks}
use Rattle.rights.specs.Table.{level, count, capacity, records, table_ok}
use Rattle.rights.specs.Limits.{records_max}
use Rattle.rights.proofs.ListLaws.{by_case}
use Rattle.rights.proofs.TableLaws.{capacity_exact}
use Rattle.views.specs.declared.insert.Place.{Place}
use Rattle.views.specs.Change.{chunks, lower, placed, deepest, too_deep, has_room}
use Rattle.rights.specs.Marks.{marks_of, mark_count}
use Rattle.views.specs.How.Pass.{AtDone, Shallow, Fixed}
use Rattle.views.specs.Nodes.{Under}
use Rattle.views.proofs.ChunkLaws.{chunks_cons, level_first, marks_drop, all-chunks}
use Rattle.views.proofs.TableLaws.{facts}
use Rattle.views.proofs.WholeInsertionLaws.{placed-length, product_bound}

-- the deepest so far
pub deepest-none : (m : ℕ) (tree : List ℕ) → 0 ≡ deepest (chunks (m - m) (drop (m * 32) tree))
unfolding chunks deepest
deepest-none m tree = let z : m - m ≡ 0 = omega arith in rw z

pub deepest_more : (m i j d l : ℕ) (tree : List ℕ) → j ≡ suc i → j ≤ m → d ≡ deepest (chunks (m - j) (drop (j * 32) tree)) → l ≡ get_or tree (i * 32) 0
    → cond (ltb d l) l d ≡ deepest (chunks (m - i) (drop (i * 32) tree))
unfolding chunks deepest
deepest_more m i j d l tree ej h ed el =
    let s : m - i ≡ suc (m - j) = omega arith in
    let k : j * 32 ≡ i * 32 + 32 = omega arith in
    let e : d ≡ deepest (chunks (m - j) (drop 32 (drop (i * 32) tree))) = rw (k, ← drop-drop 32 (i * 32) tree) at ed in
    rw (s, level_first (i * 32) tree, ← el, ← e)

-- std's `max` of two levels is the deeper of them
pub greater : (a b : ℕ) (o : Ordering) → MatchOrdering o (b < a) (b ≡ a) (a < b) → cond (is_lt o) a b ≡ cond (ltb a b) b a
greater a b Less h = rw (le-ltb a b (omega arith))
greater a b Equal h = rw (le-ltb a b (omega arith)) h
greater a b Greater h = rw (lt-ltb a b h)

pub max_deeper : (a b : ℕ) → ord_max nat_cmp a b ≡ cond (ltb a b) b a
max_deeper a b = greater a b (nat_cmp b a) (ranks b a)

-- no record is deeper than the deepest
pub under-deepest : (m j : ℕ) (tree : List ℕ) → j < m → get_or tree (j * 32) 0 ≤ deepest (chunks m tree)
unfolding chunks deepest
under-deepest zero j tree h = absurd (omega arith)
under-deepest (suc m) zero tree h =
    let z : 0 * 32 ≡ 0 = omega arith in
    let e : level (take 32 tree) ≡ get_or tree (0 * 32) 0 = rw z (level_first 0 tree) in
    by_case (ltb (deepest (chunks m (drop 32 tree))) (level (take 32 tree)))
    (λ q. rw q (omega (arith, e)))
    (λ q. let k : level (take 32 tree) ≤ deepest (chunks m (drop 32 tree)) = ltb-false (deepest (chunks m (drop 32 tree))) (level (take 32 tree)) q in rw q (omega (arith, e, k)))
under-deepest (suc m) (suc j) tree h =
    let s : suc j * 32 ≡ 32 + j * 32 = omega arith in
    let ih : get_or tree (32 + j * 32) 0 ≤ deepest (chunks m (drop 32 tree)) = rw (← get_or-drop 32 tree (j * 32) 0) (under-deepest m j (drop 32 tree) (omega arith)) in
    rw s (by_case (ltb (deepest (chunks m (drop 32 tree))) (level (take 32 tree)))
    (λ q. let k : deepest (chunks m (drop 32 tree)) < level (take 32 tree) = ltb-true (deepest (chunks m (drop 32 tree))) (level (take 32 tree)) q in rw q (omega (arith, ih, k)))
    (λ q. rw q ih))

-- a loop over the places
module _ (deep n i : ℕ) (t ms : List ℕ) (inside : i < n) (many : n ≤ length ms) where
  place_step : too_deep deep (marks_of (drop i ms)) (chunks (n - i) (drop (4 + i * 32) t))
      ≡ ((not (eqb (get_or ms i 0) 0) && ltb 11 (get_or t (4 + i * 32) 0 + deep)) || too_deep deep (marks_of (drop (i + 1) ms)) (chunks (n - (i + 1)) (drop (4 + (i + 1) * 32) t)))
  unfolding too_deep
  place_step = let h : i < length ms = omega arith in rw (chunks_cons n i t inside, marks_drop ms i h, level_first (4 + i * 32) t)

  pub deep_stop : (not (eqb (get_or ms i 0) 0) && ltb 11 (get_or t (4 + i * 32) 0 + deep)) ≡ true → true ≡ too_deep deep (marks_of (drop i ms)) (chunks (n - i) (drop (4 + i * 32) t))
  deep_stop e = rw (place_step, e)

  pub deep_step : (not (eqb (get_or ms i 0) 0) && ltb 11 (get_or t (4 + i * 32) 0 + deep)) ≡ false
      → too_deep deep (marks_of (drop i ms)) (chunks (n - i) (drop (4 + i * 32) t)) ≡ too_deep deep (marks_of (drop (i + 1) ms)) (chunks (n - (i + 1)) (drop (4 + (i + 1) * 32) t))
  deep_step e = rw (place_step, e)

pub deep_none : (deep n i : ℕ) (t ms : List ℕ) → n ≤ i → too_deep deep (marks_of (drop i ms)) (chunks (n - i) (drop (4 + i * 32) t)) ≡ false
unfolding chunks too_deep
deep_none deep n i t ms h = let z : n - i ≡ 0 = omega arith in rw z

-- of all places, from what is known of each
module _ (deep n : ℕ) (t ms : List ℕ) (many : n ≤ length ms) where
  abbrev deep_at : ℕ → Bool
  deep_at k = not (eqb (get_or ms k 0) 0) && ltb 11 (get_or t (4 + k * 32) 0 + deep)

  none_deep : (r i : ℕ) → i + r ≡ n → ((k : ℕ) → k < n → deep_at k ≡ false) → too_deep deep (marks_of (drop i ms)) (chunks (n - i) (drop (4 + i * 32) t)) ≡ false
  none_deep zero i e h = deep_none deep n i t ms (omega arith)
  none_deep (suc r) i e h = deep_step deep n i t ms (omega arith) many (h i (omega arith)) ∙ none_deep r (i + 1) (omega arith) h

  some_deep : (r i k : ℕ) → i + r ≡ k → k < n → deep_at k ≡ true → true ≡ too_deep deep (marks_of (drop i ms)) (chunks (n - i) (drop (4 + i * 32) t))
  some_deep zero i k e l h = let z : i ≡ k = omega arith in deep_stop deep n i t ms (omega arith) many (rw z h)
  some_deep (suc r) i k e l h =
      by_case (deep_at i)
      (λ q. deep_stop deep n i t ms (omega arith) many q)
      (λ q. some_deep r (i + 1) k (omega arith) l h ∙ sym (deep_step deep n i t ms (omega arith) many q))

  pub any_deep : (v : Bool) → ((k : ℕ) → k < n → v ≡ false → deep_at k ≡ false) → (v ≡ true → (k : ℕ) × (k < n) × (deep_at k ≡ true)) → v ≡ too_deep deep (marks_of ms) (chunks n (drop 4 t))
  any_deep true never once = let y = once refl in let z : n - 0 ≡ n = omega arith in rw z at (some_deep y.0 0 y.0 (omega arith) y.1 y.2)
  any_deep false never once = let z : n - 0 ≡ n = omega arith in sym (rw z at (none_deep n 0 (omega arith) (λ k l. never k l refl)))

-- no level above 11 comes at a place that is done
or-false : (a b : Bool) → a || b ≡ false → (a ≡ false) × (b ≡ false)
or-false true b e = absurd (false≢true (sym e))
or-false false b e = (refl, e)

pub shallow_places : (up m : ℕ) (tree : List ℕ) (ms : List Bool) (rs : List (List ℕ)) → too_deep (up + deepest (chunks m tree)) ms rs ≡ false
    → AtDone (λ r. Shallow up m tree (level r)) ms rs
unfolding too_deep
shallow_places up m tree ms [] e = tt
shallow_places up m tree ms (r ∷ rs) e =
    let f = or-false (get_or ms 0 false && ltb 11 (level r + (up + deepest (chunks m tree)))) (too_deep (up + deepest (chunks m tree)) (drop 1 ms) rs) e in
    ((λ d j h. let k : level r + (up + deepest (chunks m tree)) ≤ 11 = ltb-false _ _ (rw d at f.0) in omega (arith, k, under-deepest m j tree h)), shallow_places up m tree (drop 1 ms) rs f.1)

-- the pass fits
module _ (place : Place) (n k m : ℕ) (t ms tree : List ℕ) (ok : table_ok t ≡ true) (many : count t ≤ length ms) (whole : m * 32 ≤ length tree)
    (shallow : too_deep (lower place + deepest (chunks m tree)) (marks_of ms) (records t) ≡ false) (room : has_room t (marks_of ms) m ≡ true) (en : n ≡ count t) (ek : k ≡ mark_count (take n (marks_of ms))) where
  product : k * m ≡ mark_count (take (count t) (marks_of ms)) * m
  product = ap (λ (z : ℕ). z * m) (ek ∙ ap (λ (z : ℕ). mark_count (take z (marks_of ms))) en)

  fits : (4 + (n + k * m) * 32 ≤ length t) × (n + k * m ≤ records_max)
  fits =
      let r : mark_count (take (count t) (marks_of ms)) * m ≤ capacity (length t) - count t = leb-true _ _ room in
      let f = facts t ok in
      (capacity_exact (length t) (n + k * m) f.head).0 (omega (arith, product, en, r, f.held))

  pub gap_fits : k * m < 2 ^ 64
  gap_fits = omega (arith, fits.1)

  pub fill_asks : Fixed n (k * m) m t ms tree
      × ((n + k * m < 2 ^ 32) × (Under level 12 (chunks n (drop 4 t))) × (AtDone (λ r. Shallow (lower place) m tree (level r)) (marks_of ms) (chunks n (drop 4 t)))
      × (length (placed place m tree (marks_of ms) (chunks n (drop 4 t))) ≡ n + k * m))
  fill_asks =
      let f = facts t ok in
      let s = shallow_places (lower place) m tree (marks_of ms) (records t) shallow in (
        record { size = omega (arith, fits.0); marks = omega (arith, en); whole = whole },
        (omega (arith, fits.1), rw en f.low, rw (en, ← all-chunks t) s, rw ek (placed-length place n m tree (marks_of ms) (drop 4 t))),
      )

-- whether there is room
module _ (n c k m : ℕ) (t ms : List ℕ) (ok : table_ok t ≡ true) (en : n ≡ count t) (ec : c ≡ capacity (length t)) (ek : k ≡ mark_count (take n (marks_of ms))) (few : k ≤ n) (short : m ≤ 16384) where
  pub held_fits : n ≤ c
  held_fits = let f = facts t ok in omega (arith, en, ec, f.held)

  pub product_fits : k * m < 2 ^ 64
  product_fits = let f = facts t ok in omega (arith, product_bound k m (omega (arith, few, en, f.few)) short)

  pub room_is : leb (k * m) (c - n) ≡ has_room t (marks_of ms) m
  room_is = rw (ek, en, ec)
