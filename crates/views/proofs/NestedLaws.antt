-- The changes keep the levels good: no node is more than one level deeper than the one before it. And what holds of each node. Assumes nothing.
use mathlib.Core.Path.{◌≡◌, refl}
use mathlib.Core.List.{List, [], ◌∷◌, ◌++◌}
use mathlib.Core.Bool.{Bool, false}
use Prim.Native.Nat.{ℕ, suc, ◌≤◌, ◌<◌}
use native.Mathlib.Omega.{arith}
use lib.ListN.{length, drop, get_or}
use lib.Dec.{ltb}
use borrow.Author.Tests.{ltb-true, ltb-false, lt-ltb}
use Rattle.rights.proofs.ListLaws.{by_case}
use Rattle.views.specs.Change.{drop_below, put_behind, remove, insert_behind, insert_in_front, rename}
use Rattle.views.specs.How.Pass.{AtDone}
use Rattle.views.specs.Nodes.{Above, Front, All, Nested}

module _ {E : Type 0} (lev : E → ℕ) where
  -- the changes keep the levels good
  nested-front : (k n m : ℕ) (u : List E) → k ≤ n → Front lev k u → Nested lev m u → Nested lev n u
  nested-front k n m [] h f w = tt
  nested-front k n m (x ∷ u) h f w = (omega arith, w.1)

  nested-drop_below : (l n m : ℕ) (u : List E) → l ≤ n → Nested lev m u → Nested lev n (drop_below lev l u)
  unfolding drop_below
  nested-drop_below l n m [] h w = tt
  nested-drop_below l n m (x ∷ u) h w = by_case (ltb l (lev x))
      (λ e. rw e (nested-drop_below l n (suc (lev x)) u h w.1))
      (λ e. let k : lev x ≤ l = ltb-false _ _ e in rw e (omega arith, w.1))

  pub nested-remove : (n : ℕ) (ms : List Bool) (t : List E) → Nested lev n t → Nested lev n (remove lev ms t)
  unfolding remove
  nested-remove n ms [] w = tt
  nested-remove n ms (x ∷ t) w = let ih = nested-remove (suc (lev x)) (drop 1 ms) t w.1 in by_case (get_or ms 0 false)
      (λ d. rw d (nested-drop_below (lev x) n (suc (lev x)) (remove lev (drop 1 ms) t) w.0 ih))
      (λ d. rw d (w.0, ih))

  nested_app : (k n m : ℕ) (y u : List E) → k ≤ n → Nested lev n y → Above lev k y → Front lev k u → Nested lev m u → Nested lev n (y ++ u)
  nested_app k n m [] u h w a f v = nested-front k n m u h f v
  nested_app k n m (x ∷ y) u h w a f v = (w.0, nested_app k (suc (lev x)) m y u (omega arith) w.1 a.1 f v)

  nested-put_behind : (l k n : ℕ) (y u : List E) → l ≤ k → k ≤ suc l → k ≤ n → Nested lev k y → Above lev k y → Front lev k y → Nested lev n u → Nested lev n (put_behind lev l y u)
  unfolding put_behind
  nested-put_behind l k n y [] p q h w a f v = nested-front k n k y h f w
  nested-put_behind l k n y (x ∷ u) p q h w a f v = by_case (ltb l (lev x))
      (λ e. let m : l < lev x = ltb-true _ _ e in rw e (v.0, nested-put_behind l k (suc (lev x)) y u p q (omega arith) w a f v.1))
      (λ e. let m : lev x ≤ l = ltb-false _ _ e in rw e (nested_app k n n y (x ∷ u) h (nested-front k n k y h f w) a (omega arith) v))

  pub nested-insert_behind : (y : E → List E) (k : E → ℕ) → ((x : E) → lev x ≤ k x) → ((x : E) → k x ≤ suc (lev x)) → ((x : E) → Nested lev (k x) (y x))
      → ((x : E) → Above lev (k x) (y x)) → ((x : E) → Front lev (k x) (y x)) → (n : ℕ) (ms : List Bool) (t : List E) → Nested lev n t → Nested lev n (insert_behind lev y ms t)
  unfolding insert_behind
  nested-insert_behind y k lo hi wy a f n ms [] w = tt
  nested-insert_behind y k lo hi wy a f n ms (x ∷ t) w = let ih = nested-insert_behind y k lo hi wy a f (suc (lev x)) (drop 1 ms) t w.1 in by_case (get_or ms 0 false)
      (λ d. rw d (w.0, nested-put_behind (lev x) (k x) (suc (lev x)) (y x) (insert_behind lev y (drop 1 ms) t) (lo x) (hi x) (hi x) (wy x) (a x) (f x) ih))
      (λ d. rw d (w.0, ih))

  pub nested-insert_in_front : (y : E → List E) → ((x : E) → Nested lev (lev x) (y x)) → ((x : E) → Above lev (lev x) (y x)) → ((x : E) → Front lev (lev x) (y x))
      → (n : ℕ) (ms : List Bool) (t : List E) → Nested lev n t → Nested lev n (insert_in_front lev y ms t)
  unfolding insert_in_front
  nested-insert_in_front y wy a f n ms [] w = tt
  nested-insert_in_front y wy a f n ms (x ∷ t) w = let ih = nested-insert_in_front y wy a f (suc (lev x)) (drop 1 ms) t w.1 in by_case (get_or ms 0 false)
      (λ d. rw d (nested_app (lev x) n n (y x) (x ∷ insert_in_front lev y (drop 1 ms) t) w.0 (nested-front (lev x) n (lev x) (y x) w.0 (f x) (wy x)) (a x) (omega arith) (w.0, ih)))
      (λ d. rw d (w.0, ih))

  pub nested-rename : (f : E → E) (n : ℕ) (ms : List Bool) (t : List E) → All (λ x. lev (f x) ≡ lev x) t → Nested lev n t → Nested lev n (rename lev f ms t)
  unfolding rename
  nested-rename f n ms [] a w = tt
  nested-rename f n ms (x ∷ t) a w = let ih = nested-rename f (suc (lev x)) (drop 1 ms) t a.1 w.1 in by_case (get_or ms 0 false)
      (λ d. rw (d, a.0) (w.0, ih))
      (λ d. rw d (w.0, ih))

  -- what holds of each node
  module _ (P : E → Type 0) where
    all-dropBelow : (l : ℕ) (t : List E) → All P t → All P (drop_below lev l t)
    unfolding drop_below
    all-dropBelow l [] a = tt
    all-dropBelow l (x ∷ t) a = by_case (ltb l (lev x)) (λ e. rw e (all-dropBelow l t a.1)) (λ e. rw e a)

    pub all_remove : (ms : List Bool) (t : List E) → All P t → All P (remove lev ms t)
    unfolding remove
    all_remove ms [] a = tt
    all_remove ms (x ∷ t) a = let ih = all_remove (drop 1 ms) t a.1 in by_case (get_or ms 0 false)
        (λ e. rw e (all-dropBelow (lev x) (remove lev (drop 1 ms) t) ih))
        (λ e. rw e (a.0, ih))

    pub all_append : (s t : List E) → All P s → All P t → All P (s ++ t)
    all_append [] t a b = b
    all_append (x ∷ s) t a b = (a.0, all_append s t a.1 b)

    pub all-put_behind : (l : ℕ) (y t : List E) → All P y → All P t → All P (put_behind lev l y t)
    unfolding put_behind
    all-put_behind l y [] a b = a
    all-put_behind l y (x ∷ t) a b = by_case (ltb l (lev x))
        (λ e. rw e (b.0, all-put_behind l y t a b.1))
        (λ e. rw e (all_append y (x ∷ t) a b))

    pub all-insert_behind : (y : E → List E) (ms : List Bool) (t : List E) → All P t → AtDone (λ x. All P (y x)) ms t → All P (insert_behind lev y ms t)
    unfolding insert_behind
    all-insert_behind y ms [] a d = tt
    all-insert_behind y ms (x ∷ t) a d = let ih = all-insert_behind y (drop 1 ms) t a.1 d.1 in by_case (get_or ms 0 false)
        (λ e. rw e (a.0, all-put_behind (lev x) (y x) (insert_behind lev y (drop 1 ms) t) (d.0 e) ih))
        (λ e. rw e (a.0, ih))

    pub all-insert_in_front : (y : E → List E) (ms : List Bool) (t : List E) → All P t → AtDone (λ x. All P (y x)) ms t → All P (insert_in_front lev y ms t)
    unfolding insert_in_front
    all-insert_in_front y ms [] a d = tt
    all-insert_in_front y ms (x ∷ t) a d = let ih = all-insert_in_front y (drop 1 ms) t a.1 d.1 in by_case (get_or ms 0 false)
        (λ e. rw e (all_append (y x) (x ∷ insert_in_front lev y (drop 1 ms) t) (d.0 e) (a.0, ih)))
        (λ e. rw e (a.0, ih))

    pub all-rename : (f : E → E) (ms : List Bool) (t : List E) → All P t → AtDone (λ x. P (f x)) ms t → All P (rename lev f ms t)
    unfolding rename
    all-rename f ms [] a d = tt
    all-rename f ms (x ∷ t) a d = let ih = all-rename f (drop 1 ms) t a.1 d.1 in by_case (get_or ms 0 false)
        (λ e. rw e (d.0 e, ih))
        (λ e. rw e (a.0, ih))

  -- P of each node, and what P gives
  pub done_from_lem : (P Q : E → Type 0) → ((x : E) → P x → Q x) → (ms : List Bool) (t : List E) → AtDone P ms t → AtDone Q ms t
  done_from_lem P Q h ms [] a = tt
  done_from_lem P Q h ms (x ∷ t) a = ((λ e. h x (a.0 e)), done_from_lem P Q h (drop 1 ms) t a.1)

  -- nothing is left below a node at level 0 but deeper nodes
  pub drop_all : (t : List E) → All (λ x. 1 ≤ lev x) t → drop_below lev 0 t ≡ []
  unfolding drop_below
  drop_all [] a = refl
  drop_all (x ∷ t) a = rw (lt-ltb 0 (lev x) a.0) (drop_all t a.1)

  -- a removal does not lengthen
  shorter_drop_below : (l : ℕ) (t : List E) → length (drop_below lev l t) ≤ length t
  unfolding drop_below
  shorter_drop_below l [] = omega arith
  shorter_drop_below l (x ∷ t) = by_case (ltb l (lev x)) (λ e. rw e (omega (arith, shorter_drop_below l t))) (λ e. rw e (omega arith))

  pub shorter_remove : (ms : List Bool) (t : List E) → length (remove lev ms t) ≤ length t
  unfolding remove
  shorter_remove ms [] = omega arith
  shorter_remove ms (x ∷ t) = let ih = shorter_remove (drop 1 ms) t in by_case (get_or ms 0 false)
      (λ e. rw e (omega (arith, ih, shorter_drop_below (lev x) (remove lev (drop 1 ms) t))))
      (λ e. rw e (omega (arith, ih)))
