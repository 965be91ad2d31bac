-- What one turn of a removal does, and what is left. Assumes nothing.
use Prim.Native.Nat.{ℕ, ◌+◌, ◌-◌, ◌*◌, ◌≤◌, ◌<◌, min}
use mathlib.Core.Path.{◌≡◌, refl, sym, ap, ◌∙◌}
use mathlib.Core.Bool.{Bool, true, false, not}
use mathlib.Core.List.{List, [], ◌∷◌, ◌++◌, append_assoc, append-nil}
use native.Mathlib.Omega.{arith}
use lib.Dec.{ltb, eqb}
use lib.ListN.{length, get_or, take, drop}
use borrow.Author.Tests.{lt-ltb, le-ltb, ltb-true, ltb-false, eq-eqb, ne_eqb}
use Rattle.rights.specs.Table.{level}
use Rattle.rights.proofs.ListLaws.{by_case}
use Rattle.views.specs.Change.{drop_below, remove, chunks}
use Rattle.rights.specs.Marks.{marks_of}
use Rattle.views.specs.How.Pass.{going}
use Rattle.views.specs.Nodes.{Under}
use Rattle.views.proofs.ChunkLaws.{chunks_cons, level_first, marks_drop, one_more}

module _ {E : Type 0} (lev : E → ℕ) where
  -- what is below two nodes, one after the other
  pub drop_twice : (b l : ℕ) (u : List E) → drop_below lev b (drop_below lev l u) ≡ drop_below lev (min b l) u
  unfolding drop_below
  drop_twice b l [] = refl
  drop_twice b l (x ∷ u) = by_case (ltb l (lev x))
      (λ e. let k : l < lev x = ltb-true _ _ e in rw (e, lt-ltb (min b l) (lev x) (omega arith)) (drop_twice b l u))
      (λ e. let k : lev x ≤ l = ltb-false _ _ e in by_case (ltb b (lev x))
      (λ q. let m : b < lev x = ltb-true _ _ q in let z : min b l ≡ b = omega arith in rw (e, q, lt-ltb (min b l) (lev x) (omega arith)) (ap (λ (k : ℕ). drop_below lev k u) (sym z)))
      (λ q. let m : lev x ≤ b = ltb-false _ _ q in rw (e, q, le-ltb (min b l) (lev x) (omega arith))))

  -- nothing is deeper than all
  under-drop_below : (k l : ℕ) (u : List E) → Under lev k u → Under lev k (drop_below lev l u)
  unfolding drop_below
  under-drop_below k l [] h = tt
  under-drop_below k l (x ∷ u) h = by_case (ltb l (lev x)) (λ e. rw e (under-drop_below k l u h.1)) (λ e. rw e h)

  pub under-remove : (k : ℕ) (ms : List Bool) (t : List E) → Under lev k t → Under lev k (remove lev ms t)
  unfolding remove
  under-remove k ms [] h = tt
  under-remove k ms (x ∷ t) h = by_case (get_or ms 0 false)
      (λ d. rw d (under-drop_below k (lev x) (remove lev (drop 1 ms) t) (under-remove k (drop 1 ms) t h.1)))
      (λ d. rw d (h.0, under-remove k (drop 1 ms) t h.1))

  pub drop-none : (k : ℕ) (u : List E) → Under lev k u → drop_below lev k u ≡ u
  unfolding drop_below
  drop-none k [] h = refl
  drop-none k (x ∷ u) h = rw (le-ltb k (lev x) (omega (arith, h.0)))

  -- one node of a pass from the left, while what is deeper than `cut` goes
  module _ (cut : ℕ) (x : E) (ms : List Bool) (t : List E) where
    pub pass_below : cut < lev x → drop_below lev cut (remove lev ms (x ∷ t)) ≡ drop_below lev cut (remove lev (drop 1 ms) t)
    unfolding remove drop_below
    pass_below h = by_case (get_or ms 0 false)
        (λ d. let z : min cut (lev x) ≡ cut = omega arith in rw d (drop_twice cut (lev x) (remove lev (drop 1 ms) t) ∙ ap (λ (l : ℕ). drop_below lev l (remove lev (drop 1 ms) t)) z))
        (λ d. rw (d, lt-ltb cut (lev x) h))

    pub pass_done : lev x ≤ cut → get_or ms 0 false ≡ true → drop_below lev cut (remove lev ms (x ∷ t)) ≡ drop_below lev (lev x) (remove lev (drop 1 ms) t)
    unfolding remove
    pass_done h d =
        let z : min cut (lev x) ≡ lev x = omega arith in
        rw d (drop_twice cut (lev x) (remove lev (drop 1 ms) t) ∙ ap (λ (l : ℕ). drop_below lev l (remove lev (drop 1 ms) t)) z)

    pub pass_kept : (k : ℕ) → lev x ≤ cut → get_or ms 0 false ≡ false → Under lev k t → drop_below lev cut (remove lev ms (x ∷ t)) ≡ x ∷ drop_below lev k (remove lev (drop 1 ms) t)
    unfolding remove drop_below
    pass_kept k h d u = rw (d, le-ltb cut (lev x) h, drop-none k (remove lev (drop 1 ms) t) (under-remove k (drop 1 ms) t u))

-- the first of the records that are left is at a level below 12
pub first_low : (n i : ℕ) (t : List ℕ) → i < n → Under level 12 (chunks (n - i) (drop (4 + i * 32) t)) → get_or t (4 + i * 32) 0 < 12
first_low n i t inside u = rw (← level_first (4 + i * 32) t) (rw (chunks_cons n i t inside) at u).0

-- what one record does
module _ (n i cut w : ℕ) (t ms : List ℕ) (inside : i < n) (many : n ≤ length ms) where
  low_next : Under level 12 (chunks (n - i) (drop (4 + i * 32) t)) → Under level 12 (chunks (n - (i + 1)) (drop (4 + (i + 1) * 32) t))
  low_next u = (rw (chunks_cons n i t inside) at u).1

  pub step-below : cut < get_or t (4 + i * 32) 0 → Under level 12 (chunks (n - i) (drop (4 + i * 32) t))
      → Under level 12 (chunks (n - (i + 1)) (drop (4 + (i + 1) * 32) t)) × (going n (i + 1) w cut t ms ≡ going n i w cut t ms)
  step-below h u =
      let r : List ℕ = take 32 (drop (4 + i * 32) t) in
      let k : i < length ms = omega arith in (
        low_next u,
        rw (chunks_cons n i t inside, marks_drop ms i k)
            (ap (λ (z : List (List ℕ)). chunks w (drop 4 t) ++ z)
            (sym (pass_below level cut r (not (eqb (get_or ms i 0) 0) ∷ marks_of (drop (i + 1) ms)) (chunks (n - (i + 1)) (drop (4 + (i + 1) * 32) t)) (rw (level_first (4 + i * 32) t) h)))),
      )

  pub step_marked : get_or t (4 + i * 32) 0 ≤ cut → (get_or ms i 0 ≡ 0 → ⊥) → Under level 12 (chunks (n - i) (drop (4 + i * 32) t))
      → Under level 12 (chunks (n - (i + 1)) (drop (4 + (i + 1) * 32) t)) × (going n (i + 1) w (get_or t (4 + i * 32) 0) t ms ≡ going n i w cut t ms)
  step_marked h m u =
      let r : List ℕ = take 32 (drop (4 + i * 32) t) in
      let k : i < length ms = omega arith in (
        low_next u,
        rw (chunks_cons n i t inside, marks_drop ms i k, ← level_first (4 + i * 32) t)
            (ap (λ (z : List (List ℕ)). chunks w (drop 4 t) ++ z)
            (sym (pass_done level cut r (not (eqb (get_or ms i 0) 0) ∷ marks_of (drop (i + 1) ms)) (chunks (n - (i + 1)) (drop (4 + (i + 1) * 32) t)) (rw (level_first (4 + i * 32) t) h) (rw (ne_eqb (get_or ms i 0) 0 m))))),
      )

  module _ (t' : List ℕ) (before : w ≤ i) (fits : 4 + n * 32 ≤ length t)
      (front : take (4 + w * 32 + 32) t' ≡ take (4 + w * 32) t ++ take 32 (drop (4 + i * 32) t))
      (back : drop (4 + i * 32 + 32) t' ≡ drop (4 + i * 32 + 32) t) where
    pub step_kept : get_or t (4 + i * 32) 0 ≤ cut → get_or ms i 0 ≡ 0 → Under level 12 (chunks (n - i) (drop (4 + i * 32) t))
        → Under level 12 (chunks (n - (i + 1)) (drop (4 + (i + 1) * 32) t')) × (going n (i + 1) (w + 1) 12 t' ms ≡ going n i w cut t ms)
    step_kept h m u =
        let r : List ℕ = take 32 (drop (4 + i * 32) t) in
        let k : i < length ms = omega arith in
        let d : 4 + (i + 1) * 32 ≡ 4 + i * 32 + 32 = omega arith in
        let b : drop (4 + (i + 1) * 32) t' ≡ drop (4 + (i + 1) * 32) t = rw d back in
        let v = low_next u in (
          rw b v,
          rw (chunks_cons n i t inside, marks_drop ms i k, b, one_more w t t' r (omega arith) front)
              (append_assoc (chunks w (drop 4 t)) (r ∷ []) _
              ∙ ap (λ (z : List (List ℕ)). chunks w (drop 4 t) ++ z)
              (sym (pass_kept level cut r (not (eqb (get_or ms i 0) 0) ∷ marks_of (drop (i + 1) ms)) (chunks (n - (i + 1)) (drop (4 + (i + 1) * 32) t)) 12 (rw (level_first (4 + i * 32) t) h) (rw (eq-eqb (get_or ms i 0) 0 m)) v))),
        )

-- all records taken
pub done_all : (n w cut : ℕ) (t ms : List ℕ) (k : ℕ) → k ≡ n → going n k w cut t ms ≡ chunks w (drop 4 t)
unfolding chunks remove drop_below
done_all n w cut t ms k e =
    let z : n - k ≡ 0 = omega arith in
    rw (z, append-nil)

pub none_yet : (n : ℕ) (t ms : List ℕ) → Under level 12 (chunks n (drop 4 t)) → going n 0 0 12 t ms ≡ remove level (marks_of ms) (chunks n (drop 4 t))
unfolding chunks
none_yet n t ms u =
    let z : n - 0 ≡ n = omega arith in
    rw z (drop-none level 12 (remove level (marks_of ms) (chunks n (drop 4 t))) (under-remove level 12 (marks_of ms) (chunks n (drop 4 t)) u))
