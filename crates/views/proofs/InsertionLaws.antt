-- Laws of insertion on lists of anything with a level: what one turn of a pass from left to right does; lengths. Assumes nothing.
use mathlib.Core.Path.{◌≡◌, refl, ap, sym}
use mathlib.Core.List.{List, [], ◌∷◌, ◌++◌, append-nil}
use mathlib.Core.Bool.{Bool, true, false, cond}
use Prim.Native.Nat.{ℕ, suc, ◌+◌, ◌*◌, ◌≤◌, ◌<◌}
use native.Mathlib.Omega.{arith}
use lib.ListN.{length, take, length-append, drop, get_or}
use lib.Seq.{take-nil}
use lib.Dec.{ltb}
use Rattle.rights.proofs.ListLaws.{by_case}
use borrow.Author.Tests.{leb-false, lt-ltb, le-ltb}
use Rattle.views.specs.Change.{put_behind, insert_behind, insert_in_front, rename}
use Rattle.rights.specs.Marks.{mark_count}
use Rattle.views.specs.How.Pass.{Below, Falls, is_due, front, due}
use Rattle.views.specs.Nodes.{Above, Front}

-- n levels that fall from below k are at most k
pub falls_length : (k : ℕ) (ks : List ℕ) → Below k ks → Falls ks → length ks ≤ k
falls_length k [] b f = omega arith
falls_length k (j ∷ ks) b f = omega (arith, falls_length j ks f.0 f.1, b.0)

pub below_more : (j k : ℕ) (ks : List ℕ) → j ≤ k → Below j ks → Below k ks
below_more j k [] h b = tt
below_more j k (i ∷ ks) h b = (omega (arith, b.0), below_more j k ks h b.1)

-- not due: all that waits is less deep
pub not-due : (l : ℕ) (ks : List ℕ) → Falls ks → is_due l ks ≡ false → Below l ks
not-due l [] f e = tt
not-due l (k ∷ ks) f e = let h : k < l = leb-false _ _ e in (h, below_more k l ks (omega arith) f.0)

module _ {E : Type 0} (lev : E → ℕ) where
  pub length-put_behind : (l : ℕ) (y u : List E) → length (put_behind lev l y u) ≡ length y + length u
  unfolding put_behind
  length-put_behind l y [] = omega arith
  length-put_behind l y (x ∷ u) = by_case (ltb l (lev x))
      (λ e. rw e (omega (arith, length-put_behind l y u)))
      (λ e. rw (e, length-append))

  pub skip_one : (l : ℕ) (z y u : List E) → Above lev (suc l) y → put_behind lev l z (y ++ u) ≡ y ++ put_behind lev l z u
  unfolding put_behind
  skip_one l z [] u a = refl
  skip_one l z (x ∷ y) u a = rw (lt-ltb l (lev x) (omega (arith, a.0))) (ap (λ r. x ∷ r) (skip_one l z y u a.1))

  pub above_less : (j k : ℕ) (y : List E) → j ≤ k → Above lev k y → Above lev j y
  above_less j k [] h a = tt
  above_less j k (x ∷ y) h a = (omega (arith, a.0), above_less j k y h a.1)

  pub in_front_lem : (k : ℕ) (y u : List E) → Front lev k u → put_behind lev k y u ≡ y ++ u
  unfolding put_behind
  in_front_lem k y [] f = sym (append-nil y)
  in_front_lem k y (x ∷ u) f = rw (le-ltb k (lev x) f)

  module _ (y : ℕ → List E) where
    skip : (j : ℕ) (ks : List ℕ) (z u : List E) → Below j ks → Above lev j z → due lev y ks (z ++ u) ≡ z ++ due lev y ks u
    unfolding due
    skip j [] z u b a = refl
    skip j (k ∷ ks) z u b a = rw (skip_one k (y k) z u (above_less (suc k) j z b.0 a)) (skip j ks z (put_behind lev k (y k) u) b.1 a)

    -- what is due is written
    pub due_pop : (k : ℕ) (ks : List ℕ) (u : List E) → Below k ks → Above lev k (y k) → Front lev k u → due lev y (k ∷ ks) u ≡ y k ++ due lev y ks u
    unfolding due
    due_pop k ks u b a f = rw (in_front_lem k (y k) u f) (skip k ks (y k) u b a)

    pub length-due : (ks : List ℕ) (u : List E) → length u ≤ length (due lev y ks u)
    unfolding due
    length-due [] u = omega arith
    length-due (k ∷ ks) u = omega (arith, length-due ks (put_behind lev k (y k) u), length-put_behind k (y k) u)

    -- the next node is taken
    pub due-take : (ks : List ℕ) (x : E) (ms : List Bool) (t : List E) → Below (lev x) ks
        → due lev y ks (insert_behind lev (λ z. y (lev z)) ms (x ∷ t)) ≡ x ∷ due lev y (cond (get_or ms 0 false) (lev x ∷ ks) ks) (insert_behind lev (λ z. y (lev z)) (drop 1 ms) t)
    unfolding insert_behind due
    due-take ks x ms t b = by_case (get_or ms 0 false)
        (λ e. rw e (skip (lev x) ks (x ∷ []) _ b (omega arith, tt)))
        (λ e. rw e (skip (lev x) ks (x ∷ []) _ b (omega arith, tt)))

    front-insertBehind : (k : ℕ) (ms : List Bool) (t : List E) → front lev t ≤ k → Front lev k (insert_behind lev (λ z. y (lev z)) ms t)
    unfolding insert_behind
    front-insertBehind k ms [] h = tt
    front-insertBehind k ms (x ∷ t) h = h

    pub due_first : (k : ℕ) (ks : List ℕ) (ms : List Bool) (t : List E) → Below k ks → Above lev k (y k) → front lev t ≤ k
        → due lev y (k ∷ ks) (insert_behind lev (λ z. y (lev z)) ms t) ≡ y k ++ due lev y ks (insert_behind lev (λ z. y (lev z)) ms t)
    due_first k ks ms t b a h = due_pop k ks _ b a (front-insertBehind k ms t h)

  -- lengths
  pub insert_behind-longer : (y : E → List E) (ms : List Bool) (t : List E) → length t ≤ length (insert_behind lev y ms t)
  unfolding insert_behind
  insert_behind-longer y ms [] = omega arith
  insert_behind-longer y ms (x ∷ t) = let ih = insert_behind-longer y (drop 1 ms) t in by_case (get_or ms 0 false)
      (λ e. rw e (omega (arith, length-put_behind (lev x) (y x) (insert_behind lev y (drop 1 ms) t))))
      (λ e. rw e (omega arith))

  pub insert_in_front-longer : (y : E → List E) (ms : List Bool) (t : List E) → length t ≤ length (insert_in_front lev y ms t)
  unfolding insert_in_front
  insert_in_front-longer y ms [] = omega arith
  insert_in_front-longer y ms (x ∷ t) = let ih = insert_in_front-longer y (drop 1 ms) t in by_case (get_or ms 0 false)
      (λ e. rw (e, length-append) (omega arith))
      (λ e. rw e (omega arith))

  mark_count_tail : (n : ℕ) (ms : List Bool) → mark_count (take (suc n) ms) ≡ cond (get_or ms 0 false) 1 0 + mark_count (take n (drop 1 ms))
  mark_count_tail n [] = rw take-nil
  mark_count_tail n (true ∷ ms) = omega arith
  mark_count_tail n (false ∷ ms) = omega arith

  pub length-insert_behind : (y : E → List E) (m : ℕ) → ((x : E) → length (y x) ≡ m) → (ms : List Bool) (t : List E)
      → length (insert_behind lev y ms t) ≡ length t + mark_count (take (length t) ms) * m
  unfolding insert_behind
  length-insert_behind y m h ms [] = omega arith
  length-insert_behind y m h ms (x ∷ t) = let ih = length-insert_behind y m h (drop 1 ms) t in by_case (get_or ms 0 false)
      (λ e. rw (mark_count_tail (length t) ms, e, length-put_behind (lev x) (y x) (insert_behind lev y (drop 1 ms) t)) (omega (arith, h x)))
      (λ e. rw (mark_count_tail (length t) ms, e) (omega arith))

  pub length-insert_in_front : (y : E → List E) (m : ℕ) → ((x : E) → length (y x) ≡ m) → (ms : List Bool) (t : List E)
      → length (insert_in_front lev y ms t) ≡ length t + mark_count (take (length t) ms) * m
  unfolding insert_in_front
  length-insert_in_front y m h ms [] = omega arith
  length-insert_in_front y m h ms (x ∷ t) = let ih = length-insert_in_front y m h (drop 1 ms) t in by_case (get_or ms 0 false)
      (λ e. rw (mark_count_tail (length t) ms, e, length-append) (omega (arith, h x)))
      (λ e. rw (mark_count_tail (length t) ms, e) (omega arith))

  -- what is inserted, written in another way
  pub insert_same : (y z : E → List E) → ((x : E) → y x ≡ z x) → (ms : List Bool) (t : List E) → insert_behind lev y ms t ≡ insert_behind lev z ms t
  unfolding insert_behind
  insert_same y z e ms [] = refl
  insert_same y z e ms (x ∷ t) = rw (e x, insert_same y z e (drop 1 ms) t)

  pub length-rename : (f : E → E) (ms : List Bool) (t : List E) → length (rename lev f ms t) ≡ length t
  unfolding rename
  length-rename f ms [] = refl
  length-rename f ms (x ∷ t) = ap suc (length-rename f (drop 1 ms) t)
