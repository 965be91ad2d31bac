-- The changes, node by node, in document 01's words. Assumes nothing.
-- `remove-only`, `goes_ancestor`, `ancestor_goes`: a node stays exactly if neither it nor an ancestor is done, and those that stay keep their order.
-- `rename_node`: only nodes that are done change. `lands_behind`, `lands_in_front`: where an inserted tree stands.
use Prim.Native.Nat.{ℕ, zero, suc, ◌≤◌, ◌<◌}
use mathlib.Core.Path.{◌≡◌, refl, sym, ap, ◌∙◌, fun_ext}
use mathlib.Core.Bool.{Bool, true, false, cond, not, ◌&&◌, ◌||◌, false≢true}
use mathlib.Core.List.{List, [], ◌∷◌, ◌++◌, append_assoc, append-nil}
use mathlib.Core.Logic.{◌⊎◌, inl, inr, ⊎_elim}
use native.Mathlib.Omega.{arith}
use lib.ListN.{length, get_or, drop}
use lib.Dec.{ltb}
use borrow.Author.Tests.{ltb-true, ltb-false, lt-ltb}
use Rattle.rights.specs.Marks.{each_from, keep}
use Rattle.rights.proofs.ListLaws.{by_case}
use Rattle.views.specs.Change.{drop_below, put_behind, remove, insert_behind, insert_in_front, rename}
use Rattle.views.specs.Nodes.{Above, Front, is_below, is_ancestor, goes, Goes, only, StandsBehind}
use Rattle.views.proofs.RemovalLaws.{pass_below, pass_done}
use Rattle.views.proofs.InsertionLaws.{skip_one, above_less}

each_shift : (p : ℕ → Bool) (i n : ℕ) → each_from p (suc i) n ≡ each_from (λ k. p (suc k)) i n
unfolding each_from
each_shift p i zero = refl
each_shift p i (suc n) = ap (λ l. p (suc i) ∷ l) (each_shift p (suc i) n)

only_none : {E : Type 0} (p : ℕ → Bool) → only {E = E} p [] ≡ []
unfolding keep each_from
only_none p = refl

only_first : {E : Type 0} (p : ℕ → Bool) (x : E) (t : List E) → only p (x ∷ t) ≡ cond (p 0) (x ∷ only (λ i. p (suc i)) t) (only (λ i. p (suc i)) t)
unfolding keep each_from
only_first p x t = rw (each_shift p 0 (length t))

only_same : {E : Type 0} (p q : ℕ → Bool) (t : List E) → ((i : ℕ) → p i ≡ q i) → only p t ≡ only q t
only_same p q t h = ap (λ f. only f t) (fun_ext h)

-- a test that another one covers
covered : (d b c g : Bool) → (c ≡ true → b ≡ true) → not (b || g) ≡ not (b || ((d && c) || g))
covered d true c g h = refl
covered false false c g h = refl
covered true false false g h = refl
covered true false true g h = absurd (false≢true (h refl))

record Cut {E : Type 0} (lev : E → ℕ) (l : ℕ) (y w : List E) : Type 0 where
  below : List E
  after : List E
  is : w ≡ below ++ (y ++ after)
  deeper : Above lev (suc l) below
  next : Front lev l after

or-true : (b : Bool) → b || true ≡ true
or-true true = refl
or-true false = refl

module _ {E : Type 0} (lev : E → ℕ) where
  below-lower : (l k : ℕ) (t : List E) (i : ℕ) → l ≤ k → is_below lev k t i ≡ true → is_below lev l t i ≡ true
  unfolding is_below
  below-lower l k [] i h e = e
  below-lower l k (x ∷ t) zero h e = lt-ltb l (lev x) (omega (arith, h, ltb-true k (lev x) e))
  below-lower l k (x ∷ t) (suc i) h e = by_case (ltb k (lev x))
      (λ q. let f : is_below lev k t i ≡ true = rw q at e in rw (lt-ltb l (lev x) (omega (arith, h, ltb-true k (lev x) q))) (below-lower l k t i h f))
      (λ q. absurd (false≢true (rw q at e)))

  kept-only : (t : List E) (ms : List Bool) → (remove lev ms t ≡ only (λ i. not (goes lev ms t i)) t)
      × ((l : ℕ) → drop_below lev l (remove lev ms t) ≡ only (λ i. not (is_below lev l t i || goes lev ms t i)) t)
  unfolding remove drop_below goes is_below
  kept-only [] ms = (sym (only_none (λ i. not (goes lev ms [] i))), λ l. sym (only_none (λ i. not (is_below lev l [] i || goes lev ms [] i))))
  kept-only (x ∷ t) ms =
      let ih = kept-only t (drop 1 ms) in
      let first = only_first (λ i. not (goes lev ms (x ∷ t) i)) x t in (
        by_case (get_or ms 0 false)
            (λ d. rw (first, d) (ih.1 (lev x)))
            (λ d. rw (first, d) (ap (λ (r : List E). x ∷ r) ih.0)),
        λ l. let second = only_first (λ i. not (is_below lev l (x ∷ t) i || goes lev ms (x ∷ t) i)) x t in
            by_case (ltb l (lev x))
            (λ e. let h : l < lev x = ltb-true l (lev x) e in
            pass_below lev l x ms t h ∙ ih.1 l ∙ rw (second, e)
            (only_same (λ i. not (is_below lev l t i || goes lev (drop 1 ms) t i)) (λ i. not (is_below lev l t i || ((get_or ms 0 false && is_below lev (lev x) t i) || goes lev (drop 1 ms) t i))) t
            (λ i. covered (get_or ms 0 false) (is_below lev l t i) (is_below lev (lev x) t i) (goes lev (drop 1 ms) t i) (below-lower l (lev x) t i (omega (arith, h))))))
            (λ e. let h : lev x ≤ l = ltb-false l (lev x) e in by_case (get_or ms 0 false)
            (λ d. pass_done lev l x ms t h d ∙ ih.1 (lev x) ∙ rw (second, e, d))
            (λ d. rw (second, d, e) (ap (λ (r : List E). x ∷ r) ih.0))),
      )

  -- What a removal leaves: the nodes that do not go, in order.
  pub remove-only : (ms : List Bool) (t : List E) → remove lev ms t ≡ only (λ i. not (goes lev ms t i)) t
  remove-only ms t = (kept-only t ms).0

  mark_later : (ms : List Bool) (i : ℕ) → get_or ms (suc i) false ≡ get_or (drop 1 ms) i false
  mark_later [] i = refl
  mark_later (b ∷ bs) i = refl

  or_case : (a b : Bool) → a || b ≡ true → (a ≡ true) ⊎ (b ≡ true)
  or_case true b e = inl refl
  or_case false b e = inr e

  and_case : (a b : Bool) → a && b ≡ true → (a ≡ true) × (b ≡ true)
  and_case true b e = (refl, e)
  and_case false b e = absurd (false≢true e)

  -- A node that goes is done, or an ancestor of it is.
  pub goes_ancestor : (ms : List Bool) (t : List E) (i : ℕ) → goes lev ms t i ≡ true → Goes lev ms t i
  unfolding goes is_ancestor
  goes_ancestor ms [] i e = absurd (false≢true e)
  goes_ancestor ms (x ∷ t) zero e = record { node = 0; done = e; over = inr refl }
  goes_ancestor ms (x ∷ t) (suc i) e = ⊎_elim
      (λ f. let g = and_case (get_or ms 0 false) (is_below lev (lev x) t i) f in record { node = 0; done = g.0; over = inl g.1 })
      (λ f. let g = goes_ancestor (drop 1 ms) t i f in
      record { node = suc g.node; done = mark_later ms g.node ∙ g.done; over = ⊎_elim (λ a. inl a) (λ a. inr (ap suc a)) g.over })
      (or_case (get_or ms 0 false && is_below lev (lev x) t i) (goes lev (drop 1 ms) t i) e)

  -- And a node of the list that is done, or has an ancestor that is, goes.
  pub ancestor_goes : (ms : List Bool) (t : List E) (i j : ℕ) → i < length t → get_or ms j false ≡ true → (is_ancestor lev t j i ≡ true) ⊎ (j ≡ i) → goes lev ms t i ≡ true
  unfolding goes is_ancestor
  ancestor_goes ms [] i j h m o = absurd (omega arith)
  ancestor_goes ms (x ∷ t) zero zero h m o = m
  ancestor_goes ms (x ∷ t) zero (suc j) h m (inl a) = absurd (false≢true a)
  ancestor_goes ms (x ∷ t) zero (suc j) h m (inr a) = absurd (omega (arith, a))
  ancestor_goes ms (x ∷ t) (suc i) zero h m (inl a) = rw (m, a)
  ancestor_goes ms (x ∷ t) (suc i) zero h m (inr a) = absurd (omega (arith, a))
  ancestor_goes ms (x ∷ t) (suc i) (suc j) h m (inl a) =
      rw (ancestor_goes (drop 1 ms) t i j (omega arith) (sym (mark_later ms j) ∙ m) (inl a)) (or-true (get_or ms 0 false && is_below lev (lev x) t i))
  ancestor_goes ms (x ∷ t) (suc i) (suc j) h m (inr a) =
      rw (ancestor_goes (drop 1 ms) t i j (omega arith) (sym (mark_later ms j) ∙ m) (inr (omega (arith, a)))) (or-true (get_or ms 0 false && is_below lev (lev x) t i))

  -- Only nodes that are done change; every other stays, at its place.
  pub rename_node : (f : E → E) (ms : List Bool) (t : List E) (i : ℕ) (z : E) → i < length t → get_or (rename lev f ms t) i z ≡ cond (get_or ms i false) (f (get_or t i z)) (get_or t i z)
  unfolding rename
  rename_node f ms [] i z h = absurd (omega arith)
  rename_node f ms (x ∷ t) zero z h = refl
  rename_node f ms (x ∷ t) (suc i) z h = rw (mark_later ms i) (rename_node f (drop 1 ms) t i z (omega arith))

  -- "directly beside it": the tree stands in front of its node, whatever else is inserted.
  pub lands_in_front : (y : E → List E) (a : List E) (x : E) (b : List E) (ma mb : List Bool) → length ma ≡ length a
      → insert_in_front lev y (ma ++ (true ∷ mb)) (a ++ (x ∷ b)) ≡ insert_in_front lev y ma a ++ (y x ++ (x ∷ insert_in_front lev y mb b))
  unfolding insert_in_front
  lands_in_front y [] x b [] mb e = refl
  lands_in_front y [] x b (m ∷ ma) mb e = absurd (omega (arith, e))
  lands_in_front y (z ∷ a) x b [] mb e = absurd (omega (arith, e))
  lands_in_front y (z ∷ a) x b (m ∷ ma) mb e =
      rw (lands_in_front y a x b ma mb (omega (arith, e))) (sym (append_assoc (cond m (y z) []) (z ∷ insert_in_front lev y ma a) (y x ++ (x ∷ insert_in_front lev y mb b))))

  -- a list cut where the first node that is not deeper than l stands
  split_list : (l : ℕ) (y u : List E) → Cut lev l y (put_behind lev l y u)
  unfolding put_behind
  split_list l y [] = record { below = []; after = []; is = sym (append-nil y); deeper = tt; next = tt }
  split_list l y (z ∷ u) = by_case (ltb l (lev z))
      (λ e. let s = split_list l y u in
      record { below = z ∷ s.below; after = s.after; is = rw e (ap (λ (r : List E). z ∷ r) s.is); deeper = (omega (arith, ltb-true l (lev z) e), s.deeper); next = s.next })
      (λ e. record { below = []; after = z ∷ u; is = rw e; deeper = tt; next = ltb-false l (lev z) e })

  pub front_less : (j k : ℕ) (t : List E) → j ≤ k → Front lev j t → Front lev k t
  front_less j k [] h f = tt
  front_less j k (x ∷ t) h f = omega (arith, h, f)

  front_app : (k : ℕ) (s t : List E) → Front lev k s → Front lev k t → Front lev k (s ++ t)
  front_app k [] t f g = g
  front_app k (x ∷ s) t f g = f

  front-put : (l k : ℕ) (w q : List E) → l < k → Front lev (suc l) w → Front lev k q → Front lev k (put_behind lev l w q)
  unfolding put_behind
  front-put l k w [] h f g = front_less (suc l) k w (omega (arith, h)) f
  front-put l k w (x ∷ q) h f g = by_case (ltb l (lev x))
      (λ e. rw e g)
      (λ e. rw e (front_app k w (x ∷ q) (front_less (suc l) k w (omega (arith, h)) f) g))

  -- another insertion, at a node before, leaves the tree where it stands
  put_keeps : (l : ℕ) (w : List E) (x : E) (v : List E) → Front lev (suc l) w → Above lev (lev x) v → (p d q : List E) → Above lev (suc (lev x)) d → Front lev (lev x) q
      → StandsBehind lev x v (put_behind lev l w (p ++ (x ∷ (d ++ (v ++ q)))))
  unfolding put_behind
  put_keeps l w x v f a [] d q b g = by_case (ltb l (lev x))
      (λ e. let h : l < lev x = ltb-true l (lev x) e in
      record {
        before = [];
        below = d;
        after = put_behind lev l w q;
        is = rw (e, skip_one lev l w d (v ++ q) (above_less lev (suc l) (suc (lev x)) d (omega (arith, h)) b), skip_one lev l w v q (above_less lev (suc l) (lev x) v h a));
        deeper = b;
        next = front-put l (lev x) w q h f g;
      })
      (λ e. record { before = w; below = d; after = q; is = rw e; deeper = b; next = g })
  put_keeps l w x v f a (c ∷ p) d q b g = by_case (ltb l (lev c))
      (λ e. let k = put_keeps l w x v f a p d q b g in
      record { before = c ∷ k.before; below = k.below; after = k.after; is = rw e (ap (λ (r : List E). c ∷ r) k.is); deeper = k.deeper; next = k.next })
      (λ e. record { before = w ++ (c ∷ p); below = d; after = q; is = rw e (sym (append_assoc w (c ∷ p) (x ∷ (d ++ (v ++ q))))); deeper = b; next = g })

  -- StandsBehind a node and all below it.
  splits : (x : E) (l : ℕ) (y u : List E) → l ≡ lev x → StandsBehind lev x y (x ∷ put_behind lev l y u)
  unfolding put_behind
  splits x l y [] h = record { before = []; below = []; after = []; is = ap (λ (r : List E). x ∷ r) (sym (append-nil y)); deeper = tt; next = tt }
  splits x l y (z ∷ u) h = by_case (ltb l (lev z))
      (λ e. let s = split_list l y u in record {
        before = [];
        below = z ∷ s.below;
        after = s.after;
        is = rw e (ap (λ (r : List E). x ∷ (z ∷ r)) s.is);
        deeper = (omega (arith, h, ltb-true l (lev z) e), above_less lev (suc (lev x)) (suc l) s.below (omega (arith, h)) s.deeper);
        next = front_less l (lev x) s.after (omega (arith, h)) s.next;
      })
      (λ e. record { before = []; below = []; after = z ∷ u; is = rw e; deeper = tt; next = omega (arith, h, ltb-false l (lev z) e) })

  -- "as last child in the stored tree", "directly beside it": the tree stands behind its node and all below it, whatever else is inserted, and what follows it is
  -- not below the node. So an appended tree, whose root is one level deeper, is the last child; a tree put after the node is its next sibling.
  module _ (y : E → List E) (above : (x : E) → Above lev (lev x) (y x)) (front : (x : E) → Front lev (suc (lev x)) (y x)) where
    pub lands_behind : (a : List E) (x : E) (b : List E) (ma mb : List Bool) → length ma ≡ length a
        → StandsBehind lev x (y x) (insert_behind lev y (ma ++ (true ∷ mb)) (a ++ (x ∷ b)))
    unfolding insert_behind
    lands_behind [] x b [] mb e = splits x (lev x) (y x) (insert_behind lev y mb b) refl
    lands_behind [] x b (m ∷ ma) mb e = absurd (omega (arith, e))
    lands_behind (z ∷ a) x b [] mb e = absurd (omega (arith, e))
    lands_behind (z ∷ a) x b (false ∷ ma) mb e =
        let g = lands_behind a x b ma mb (omega (arith, e)) in
        record { before = z ∷ g.before; below = g.below; after = g.after; is = ap (λ (r : List E). z ∷ r) g.is; deeper = g.deeper; next = g.next }
    lands_behind (z ∷ a) x b (true ∷ ma) mb e =
        let g = lands_behind a x b ma mb (omega (arith, e)) in
        let k = put_keeps (lev z) (y z) x (y x) (front z) (above x) g.before g.below g.after g.deeper g.next in
        record { before = z ∷ k.before; below = k.below; after = k.after; is = ap (λ (r : List E). z ∷ r) (ap (put_behind lev (lev z) (y z)) g.is ∙ k.is); deeper = k.deeper; next = k.next }
