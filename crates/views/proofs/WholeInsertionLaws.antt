-- A whole insertion: its start and end, the number of marks, and the table at the end. Assumes nothing.
use mathlib.Core.Path.{◌≡◌, refl, ap, sym, ◌∙◌}
use mathlib.Core.List.{List, ◌++◌, append-nil}
use mathlib.Core.Bool.{Bool}
use Prim.Native.Nat.{ℕ, suc, ◌+◌, ◌-◌, ◌*◌, ◌≤◌}
use native.Mathlib.Omega.{arith}
use native.Mathlib.Nat.{mul-le-mul_right}
use lib.ListN.{length, take, drop, replicate, length-drop}
use lib.Seq.{drop_at, take_at, length-take-le}
use Rattle.views.proofs.ChunkLaws.{length-chunks, same-chunks, is-changed}
use Rattle.views.specs.declared.insert.Place.{Place}
use Rattle.views.specs.declared.insert.Place.TheVariants.{Append, After, Before}
use Rattle.views.proofs.InsertionLaws.{insert_same, length-insert_behind, length-insert_in_front}
use Rattle.views.proofs.RecordBytes.{length-raise, rest-none}
use Rattle.rights.specs.Table.{level}
use Rattle.views.specs.Change.{insert_behind, insert_in_front, chunks, raise, lower, placed, le4, changed}
use Rattle.rights.specs.Marks.{mark_count, marks_of}
use Rattle.views.specs.How.Pass.{shifted, due, AtDone, tree_at, Shallow, behind, in_front, stack, rest, passing, passing_front, Fixed, Between}
use Rattle.views.specs.Nodes.{Under}

-- a pass begins
module _ (n gap up m : ℕ) (tree ms t st : List ℕ) where
  pub starts : passing n gap up m tree ms 0 0 0 t st ≡ behind up m tree ms (rest n gap 0 t)
  unfolding chunks stack due
  starts = refl

  pub starts_between : Under level 12 (rest n gap 0 t) → AtDone (λ r. Shallow up m tree (level r)) (marks_of ms) (rest n gap 0 t) → length st ≡ 12
      → Between n gap up m 0 0 tree ms t st
  unfolding stack
  starts_between u a r = record { place = omega arith; below = tt; falls = tt; fits = tt; low = u; done = a; room = r }

  -- and ends
  pub ends : (i w d : ℕ) (rs : List (List ℕ)) → i ≤ n → n + d ≤ i → passing n gap up m tree ms i w d t st ≡ rs → length rs ≡ n + gap → chunks (n + gap) (drop 4 t) ≡ rs
  unfolding stack due insert_behind
  ends i w d rs h k e f =
      let z : d ≡ 0 = omega arith in
      let l : n ≤ i = omega arith in
      let g : chunks w (drop 4 t) ≡ rs = sym (append-nil _) ∙ (rw (z, rest-none n gap i t l) at e) in
      let q : w ≡ n + gap = sym (length-chunks w (drop 4 t)) ∙ ap length g ∙ f in
      rw (← q) g

pub starts_front : (n gap m : ℕ) (tree ms t : List ℕ) → passing_front n gap m tree ms 0 0 t ≡ in_front m tree ms (rest n gap 0 t)
unfolding chunks
starts_front n gap m tree ms t = refl

pub ends_front : (n gap m : ℕ) (tree ms t : List ℕ) (i w : ℕ) (rs : List (List ℕ)) → n ≤ i → passing_front n gap m tree ms i w t ≡ rs → length rs ≡ n + gap → chunks (n + gap) (drop 4 t) ≡ rs
unfolding insert_in_front
ends_front n gap m tree ms t i w rs l e f =
    let g : chunks w (drop 4 t) ≡ rs = sym (append-nil _) ∙ (rw (rest-none n gap i t l) at e) in
    let q : w ≡ n + gap = sym (length-chunks w (drop 4 t)) ∙ ap length g ∙ f in
    rw (← q) g

-- the records moved up
pub moved_up : (n gap : ℕ) (t p : List ℕ) → 4 + (n + gap) * 32 ≤ length t → p ≡ shifted t 4 (4 + n * 32) (gap * 32) → rest n gap 0 p ≡ chunks n (drop 4 t)
moved_up n gap t p h e =
    let a : 4 + (gap + 0) * 32 ≡ 4 + gap * 32 = omega arith in
    let b : 4 + n * 32 - 4 ≡ n * 32 = omega arith in
    let z : n - 0 ≡ n = omega arith in
    let l : length (take (4 + gap * 32) t) ≡ 4 + gap * 32 = length-take-le (4 + gap * 32) t (omega arith) in
    let f : drop (4 + gap * 32) p ≡ take (n * 32) (drop 4 t) ++ drop (4 + n * 32 + gap * 32) t =
    ap (drop (4 + gap * 32)) e ∙ rw b (drop_at (take (4 + gap * 32) t) _ (4 + gap * 32) l) in
    let k : length (take (n * 32) (drop 4 t)) ≡ n * 32 = length-take-le (n * 32) (drop 4 t) (rw length-drop (omega arith)) in
    rw (a, z) (same-chunks n (drop (4 + gap * 32) p) (drop 4 t) (ap (take (n * 32)) f ∙ take_at (take (n * 32) (drop 4 t)) _ (n * 32) k))

pub fixed_same : (n gap m : ℕ) (t p ms tree : List ℕ) → length p ≡ length t → Fixed n gap m t ms tree → Fixed n gap m p ms tree
fixed_same n gap m t p ms tree e f = record { size = omega (arith, f.size); marks = f.marks; whole = f.whole }

-- a tree lower by one, or not at all, is what a pass writes
pub raise_up : (up l k m : ℕ) (tree : List ℕ) → k ≡ up + l → tree_at up m tree l ≡ raise k (chunks m tree)
raise_up up l k m tree e = ap (λ (z : ℕ). raise z (chunks m tree)) (sym e)

pub is-append : (m : ℕ) (tree ms : List ℕ) (rs : List (List ℕ)) → behind 1 m tree ms rs ≡ placed Append m tree (marks_of ms) rs
is-append m tree ms rs =
    insert_same level (λ r. tree_at 1 m tree (level r)) (λ r. raise (suc (level r)) (chunks m tree)) (λ r. raise_up 1 (level r) (suc (level r)) m tree (omega arith)) (marks_of ms) rs

pub is-after : (m : ℕ) (tree ms : List ℕ) (rs : List (List ℕ)) → behind 0 m tree ms rs ≡ placed After m tree (marks_of ms) rs
is-after m tree ms rs =
    insert_same level (λ r. tree_at 0 m tree (level r)) (λ r. raise (level r) (chunks m tree)) (λ r. raise_up 0 (level r) (level r) m tree (omega arith)) (marks_of ms) rs

pub placed-length : (place : Place) (n m : ℕ) (tree : List ℕ) (ms : List Bool) (x : List ℕ) → length (placed place m tree ms (chunks n x)) ≡ n + mark_count (take n ms) * m
placed-length Append n m tree ms x =
    length-insert_behind level (λ r. raise (suc (level r)) (chunks m tree)) m (λ r. length-raise (suc (level r)) (chunks m tree) ∙ length-chunks m tree) ms (chunks n x) ∙ rw (length-chunks n x)
placed-length After n m tree ms x =
    length-insert_behind level (λ r. raise (level r) (chunks m tree)) m (λ r. length-raise (level r) (chunks m tree) ∙ length-chunks m tree) ms (chunks n x) ∙ rw (length-chunks n x)
placed-length Before n m tree ms x =
    length-insert_in_front level (λ r. raise (level r) (chunks m tree)) m (λ r. length-raise (level r) (chunks m tree) ∙ length-chunks m tree) ms (chunks n x) ∙ rw (length-chunks n x)

-- the pass may start
module _ (place : Place) (n gap m : ℕ) (t p ms tree : List ℕ) (fx : Fixed n gap m t ms tree) (e : p ≡ shifted t 4 (4 + n * 32) (gap * 32)) where
  pub lifted : rest n gap 0 p ≡ chunks n (drop 4 t)
  lifted = moved_up n gap t p fx.size e

  pub place_asks : length p ≡ length t → Under level 12 (chunks n (drop 4 t)) → AtDone (λ r. Shallow (lower place) m tree (level r)) (marks_of ms) (chunks n (drop 4 t))
      → length (placed place m tree (marks_of ms) (chunks n (drop 4 t))) ≡ n + gap
      → Fixed n gap m p ms tree
      × ((Under level 12 (rest n gap 0 p)) × (AtDone (λ r. Shallow (lower place) m tree (level r)) (marks_of ms) (rest n gap 0 p)) × (length (placed place m tree (marks_of ms) (rest n gap 0 p)) ≡ n + gap))
  place_asks l u a k = (fixed_same n gap m t p ms tree l fx, (rw lifted u, rw lifted a, rw lifted k))

  pub filled : (q z r : List ℕ) → length q ≡ length t → chunks (n + gap) (drop 4 q) ≡ placed place m tree (marks_of ms) (rest n gap 0 p)
      → z ≡ take (4 + (n + gap) * 32) q ++ replicate (length q - (4 + (n + gap) * 32)) 0 → r ≡ le4 (n + gap) ++ drop 4 z
      → r ≡ changed t (placed place m tree (marks_of ms) (chunks n (drop 4 t)))
  filled q z r l k ez er =
      is-changed (n + gap) t q z r (placed place m tree (marks_of ms) (chunks n (drop 4 t))) l (omega (arith, fx.size)) (k ∙ ap (placed place m tree (marks_of ms)) lifted) ez er

-- a product of two bounded numbers
pub product_bound : (k m : ℕ) → k ≤ 16384 → m ≤ 16384 → k * m ≤ 268435456
product_bound k m h l = omega (arith, mul-le-mul_right m h)
