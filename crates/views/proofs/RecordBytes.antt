-- Laws of the records that a pass has still to take, of a tree raised to its place, and of the waiting levels. Assumes nothing.
use mathlib.Core.Path.{◌≡◌, refl, ap, sym, ◌∙◌}
use mathlib.Core.List.{List, [], ◌∷◌, ◌++◌, append_assoc, append-nil}
use mathlib.Core.Bool.{true, not}
use Prim.Native.Nat.{ℕ, zero, suc, ◌+◌, ◌-◌, ◌*◌, ◌≤◌, ◌<◌}
use native.Mathlib.Omega.{arith}
use native.Mathlib.Numerals.{add-one}
use native.Mathlib.Nat.{add-zero}
use lib.ListN.{length, get_or, take, drop, set, length-append, length-drop}
use lib.Seq.{take_at, drop_at, set_at, drop-drop, length-take-le, paste}
use lib.Dec.{eqb}
use Rattle.views.proofs.ChunkLaws.{length-chunks, chunks_suc, one_more, level_first, marks_drop}
use Rattle.views.proofs.CopyLaws.{drop_more}
use Rattle.rights.specs.Table.{level}
use Rattle.views.specs.Change.{chunks, raised, raise}
use Rattle.rights.specs.Marks.{marks_of}
use Rattle.views.specs.How.Pass.{front, AtDone, tree_at, stack, rest}
use Rattle.views.specs.Nodes.{Above, Under}

pub length-raised : (k : ℕ) (r : List ℕ) → 0 < length r → length (raised k r) ≡ length r
length-raised k [] h = absurd (omega arith)
length-raised k (x ∷ r) h = refl

set-raised : (a r b : List ℕ) (n v : ℕ) → length a ≡ n → 0 < length r → set ((a ++ r) ++ b) n v ≡ (a ++ (v ∷ drop 1 r)) ++ b
set-raised a [] b n v e h = absurd (omega arith)
set-raised a (x ∷ r) b n v e h = rw (append_assoc, append_assoc) (set_at a x (r ++ b) v n e)

-- a record stored with a greater level
module _ (t p tree : List ℕ) (to from k : ℕ) (room : to + 32 ≤ length t) (full : from + 32 ≤ length tree)
    (e : p ≡ set (paste t to (drop from tree) 32) to (k + get_or tree from 0)) where
  new : List ℕ
  new = take 32 (drop from tree)

  length-new : length new ≡ 32
  unfolding new
  length-new = length-take-le 32 (drop from tree) (rw length-drop (omega arith))

  length_before : length (take to t) ≡ to
  length_before = length-take-le to t (omega arith)

  stored : p ≡ (take to t ++ raised k (take 32 (drop from tree))) ++ drop (to + 32) t
  unfolding new
  stored = e ∙ rw (← level_first from tree) (set-raised (take to t) (take 32 (drop from tree)) (drop (to + 32) t) to _ length_before (omega (arith, length-new)))

  length_head : length (take to t ++ raised k (take 32 (drop from tree))) ≡ to + 32
  unfolding new
  length_head =
      let l : 0 < length (take 32 (drop from tree)) = omega (arith, length-new) in
      rw (length-append, length_before, length-raised k (take 32 (drop from tree)) l) (omega (arith, length-new))

  pub put_front : take (to + 32) p ≡ take to t ++ raised k (take 32 (drop from tree))
  put_front = ap (take (to + 32)) stored ∙ take_at _ (drop (to + 32) t) (to + 32) length_head

  pub put_back : drop (to + 32) p ≡ drop (to + 32) t
  put_back = ap (drop (to + 32)) stored ∙ drop_at (take to t ++ raised k (take 32 (drop from tree))) (drop (to + 32) t) (to + 32) length_head

-- trees
pub raise-append : (k : ℕ) (a b : List (List ℕ)) → raise k (a ++ b) ≡ raise k a ++ raise k b
unfolding raise
raise-append k [] b = refl
raise-append k (r ∷ a) b = ap (λ z. raised k r ∷ z) (raise-append k a b)

pub length-raise : (k : ℕ) (a : List (List ℕ)) → length (raise k a) ≡ length a
unfolding raise
length-raise k [] = refl
length-raise k (r ∷ a) = ap suc (length-raise k a)

pub above-raise : (l k : ℕ) (a : List (List ℕ)) → l ≤ k → Above level l (raise k a)
unfolding raise
above-raise l k [] h = tt
above-raise l k (r ∷ a) h = (omega arith, above-raise l k a h)

pub length-tree_at : (up m : ℕ) (tree : List ℕ) (l : ℕ) → length (tree_at up m tree l) ≡ m
length-tree_at up m tree l = length-raise (up + l) (chunks m tree) ∙ length-chunks m tree

-- the tree put so far
pub tree_none : (w k : ℕ) (t tree : List ℕ) → chunks (w + 0) (drop 4 t) ≡ chunks w (drop 4 t) ++ raise k (chunks 0 tree)
unfolding chunks raise
tree_none w k t tree = rw (add-zero, append-nil)

pub tree_more : (w k j : ℕ) (t₀ t p tree : List ℕ) → 4 + (w + j) * 32 ≤ length t
    → chunks (w + j) (drop 4 t) ≡ chunks w (drop 4 t₀) ++ raise k (chunks j tree)
    → take (4 + (w + j) * 32 + 32) p ≡ take (4 + (w + j) * 32) t ++ raised k (take 32 (drop (j * 32) tree))
    → chunks (w + (j + 1)) (drop 4 p) ≡ chunks w (drop 4 t₀) ++ raise k (chunks (j + 1) tree)
unfolding raise
tree_more w k j t₀ t p tree h e f =
    let s : w + (j + 1) ≡ w + j + 1 = omega arith in
    rw (s, one_more (w + j) t p _ h f, e, add-one j, chunks_suc j tree, raise-append, append_assoc)

-- the records still to be taken
module _ (n gap i : ℕ) (t : List ℕ) (inside : i < n) where
  pub rest_cons : rest n gap i t ≡ take 32 (drop (4 + (gap + i) * 32) t) ∷ rest n gap (i + 1) t
  unfolding chunks
  rest_cons =
      let s : n - i ≡ suc (n - (i + 1)) = omega arith in
      let d : 4 + (gap + (i + 1)) * 32 ≡ 4 + (gap + i) * 32 + 32 = omega arith in
      rw (s, d, ← drop-drop 32 (4 + (gap + i) * 32) t)

  pub rest-front : get_or t (4 + (gap + i) * 32) 0 ≡ front level (rest n gap i t)
  rest-front = rw rest_cons (sym (level_first (4 + (gap + i) * 32) t))

  pub rest_low : Under level 12 (rest n gap i t) → (get_or t (4 + (gap + i) * 32) 0 < 12) × Under level 12 (rest n gap (i + 1) t)
  rest_low u = let v = rw rest_cons at u in (rw (← level_first (4 + (gap + i) * 32) t) v.0, v.1)

  pub rest_done : (P : ℕ → Type 0) (ms : List ℕ) → i < length ms → AtDone (λ r. P (level r)) (marks_of (drop i ms)) (rest n gap i t)
      → (not (eqb (get_or ms i 0) 0) ≡ true → P (get_or t (4 + (gap + i) * 32) 0)) × AtDone (λ r. P (level r)) (marks_of (drop (i + 1) ms)) (rest n gap (i + 1) t)
  rest_done P ms h a = let v = rw (rest_cons, marks_drop ms i h) at a in (rw (← level_first (4 + (gap + i) * 32) t) v.0, v.1)

pub rest-none : (n gap i : ℕ) (t : List ℕ) → n ≤ i → rest n gap i t ≡ []
unfolding chunks
rest-none n gap i t h = let z : n - i ≡ 0 = omega arith in rw z

pub rest-same : (n gap i at : ℕ) (t p : List ℕ) → at ≤ 4 + (gap + i) * 32 → drop at p ≡ drop at t → rest n gap i p ≡ rest n gap i t
rest-same n gap i at t p h e = ap (chunks (n - i)) (drop_more at (4 + (gap + i) * 32 - at) p t (4 + (gap + i) * 32) (omega arith) e)

-- the waiting levels
pub stack_pop : (d : ℕ) (st : List ℕ) → 0 < d → stack d st ≡ get_or st (d - 1) 0 ∷ stack (d - 1) st
unfolding stack
stack_pop zero st h = absurd (omega arith)
stack_pop (suc d) st h = let z : suc d - 1 ≡ d = omega arith in rw z

pub stack_set : (d i v : ℕ) (st : List ℕ) → d ≤ i → stack d (set st i v) ≡ stack d st
unfolding stack
stack_set zero i v st h = refl
stack_set (suc d) i v st h = rw (stack_set d i v st (omega arith), lib.Seq.get_or-set_other st i d v 0 (λ e. omega arith))

pub stack_push : (d v : ℕ) (st : List ℕ) → d < length st → stack (d + 1) (set st d v) ≡ v ∷ stack d st
unfolding stack
stack_push d v st h = rw (add-one d, stack_set d d v st (omega arith), lib.Seq.get_or-set_same st d v 0 h)

pub length-stack : (d : ℕ) (st : List ℕ) → length (stack d st) ≡ d
unfolding stack
length-stack zero st = refl
length-stack (suc d) st = ap suc (length-stack d st)
