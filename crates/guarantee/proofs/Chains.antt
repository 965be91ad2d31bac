-- Each node with its key chain: the keys of the nodes from the root down to it. A change of the nodes is the same change of the nodes with their chains.
-- Assumes nothing.
use Prim.Native.Nat.{ℕ, suc, ◌≤◌, ◌<◌, min}
use mathlib.Core.Path.{◌≡◌, refl, ap, ap₂, sym, ◌∙◌}
use mathlib.Core.Bool.{Bool, false}
use mathlib.Core.List.{List, [], ◌∷◌, ◌++◌, map}
use native.Mathlib.Omega.{arith}
use native.Mathlib.Numerals.{add-one}
use lib.ListN.{length, take, length-append, length-take, drop, get_or}
use lib.Seq.{take-append-le, take-take}
use lib.Dec.{ltb}
use borrow.Author.Tests.{ltb-true, ltb-false}
use Rattle.rights.proofs.ListLaws.{by_case}
use Rattle.views.specs.Change.{drop_below, put_behind, remove, insert_behind, insert_in_front, rename}
use Rattle.views.specs.Nodes.{Nested, Above, Front}
use Rattle.views.specs.How.Pass.{AtDone}

module _ {E K : Type 0} (lev : E → ℕ) (key : E → K) where
  -- a node and its key chain
  abbrev pub Cell : Type 0
  Cell = E × List K

  abbrev pub cell_level : Cell → ℕ
  cell_level p = lev p.0

  -- the chain of x, where c is the chain of the node before it
  unfoldable pub chain : List K → E → List K
  chain c x = take (lev x) c ++ (key x ∷ [])

  -- the nodes, each with its chain
  unfoldable pub cells : List K → List E → List Cell
  cells c [] = []
  cells c (x ∷ t) = (x, chain c x) ∷ cells (chain c x) t

  pub cells_nodes : (c : List K) (t : List E) → map (λ p. p.0) (cells c t) ≡ t
  unfolding cells
  cells_nodes c [] = refl
  cells_nodes c (x ∷ t) = ap (λ r. x ∷ r) (cells_nodes (chain c x) t)

  pub cells_nested : (n : ℕ) (c : List K) (t : List E) → Nested lev n t → Nested cell_level n (cells c t)
  unfolding cells
  cells_nested n c [] w = tt
  cells_nested n c (x ∷ t) w = (w.0, cells_nested (suc (lev x)) (chain c x) t w.1)

  pub cells_done : (P : E → Type 0) (c : List K) (ms : List Bool) (t : List E) → AtDone P ms t → AtDone (λ p. P p.0) ms (cells c t)
  unfolding cells
  cells_done P c ms [] a = tt
  cells_done P c ms (x ∷ t) a = (a.0, cells_done P (chain c x) (drop 1 ms) t a.1)

  pub length_chain : (c : List K) (x : E) → length (chain c x) ≡ suc (min (lev x) (length c))
  unfolding chain
  length_chain c x = simp (length-append, length-take) (add-one _)

  pub take_chain : (l : ℕ) (c : List K) (x : E) → l ≤ lev x → l ≤ length c → take l (chain c x) ≡ take l c
  unfolding chain
  take_chain l c x h k = take-append-le l (take (lev x) c) _ (rw length-take (omega arith)) ∙ take-take l (lev x) c h

  -- the chain of a node at level l or less deep is the same after chains that agree up to l
  pub chain_cut : (l : ℕ) (c c2 : List K) (x : E) → take l c ≡ take l c2 → lev x ≤ l → chain c x ≡ chain c2 x
  unfolding chain
  chain_cut l c c2 x e h = ap (λ r. r ++ (key x ∷ [])) (sym (take-take (lev x) l c h) ∙ ap (take (lev x)) e ∙ take-take (lev x) l c2 h)

  pub cells_front : (l : ℕ) (c c2 : List K) (u : List E) → take l c ≡ take l c2 → Front lev l u → cells c u ≡ cells c2 u
  unfolding cells
  cells_front l c c2 [] e f = refl
  cells_front l c c2 (x ∷ u) e f = ap (λ r. (x, r) ∷ cells r u) (chain_cut l c c2 x e f)

  cells_drop_below : (l : ℕ) (c c2 : List K) (u : List E) → take l c ≡ take l c2 → l ≤ length c2
      → cells c (drop_below lev l u) ≡ drop_below cell_level l (cells c2 u)
  unfolding cells drop_below
  cells_drop_below l c c2 [] e h = refl
  cells_drop_below l c c2 (x ∷ u) e h = by_case (ltb l (lev x))
      (λ q. let k : l < lev x = ltb-true _ _ q in
      rw q (cells_drop_below l c (chain c2 x) u (e ∙ sym (take_chain l c2 x (omega arith) h)) (omega (arith, length_chain c2 x))))
      (λ q. rw q (cells_front l c c2 (x ∷ u) e (ltb-false _ _ q)))

  pub nested_chain : (c : List K) (x : E) (t : List E) → Nested lev (length c) (x ∷ t) → Nested lev (length (chain c x)) t
  nested_chain c x t w = let e : length (chain c x) ≡ suc (lev x) = omega (arith, length_chain c x, w.0) in rw e w.1

  take_chain_self : (c : List K) (x : E) → lev x ≤ length c → take (lev x) c ≡ take (lev x) (chain c x)
  take_chain_self c x h = sym (take_chain (lev x) c x (omega arith) h)

  pub cells_remove : (c : List K) (ms : List Bool) (t : List E) → Nested lev (length c) t → cells c (remove lev ms t) ≡ remove cell_level ms (cells c t)
  unfolding cells remove
  cells_remove c ms [] w = refl
  cells_remove c ms (x ∷ t) w = let ih = cells_remove (chain c x) (drop 1 ms) t (nested_chain c x t w) in by_case (get_or ms 0 false)
      (λ d. rw d (cells_drop_below (lev x) c (chain c x) (remove lev (drop 1 ms) t) (take_chain_self c x w.0) (omega (arith, length_chain c x, w.0))
      ∙ ap (drop_below cell_level (lev x)) ih))
      (λ d. rw d (ap (λ r. (x, chain c x) ∷ r) ih))

  pub cells_append : (k : ℕ) (c c2 : List K) (y u : List E) → take k c ≡ take k c2 → k ≤ length c → Above lev k y → Front lev k u
      → cells c (y ++ u) ≡ cells c y ++ cells c2 u
  unfolding cells
  cells_append k c c2 [] u e h a f = cells_front k c c2 u e f
  cells_append k c c2 (x ∷ y) u e h a f = ap (λ r. (x, chain c x) ∷ r)
      (cells_append k (chain c x) c2 y u (take_chain k c x a.0 h ∙ e) (omega (arith, length_chain c x)) a.1 f)

  cells_put_behind : (l k : ℕ) (c c2 : List K) (y u : List E) → l ≤ k → k ≤ suc l → take k c2 ≡ take k c → k ≤ length c2 → Above lev k y → Front lev k y
      → cells c2 (put_behind lev l y u) ≡ put_behind cell_level l (cells c y) (cells c2 u)
  unfolding cells put_behind
  cells_put_behind l k c c2 y [] p q e h a f = cells_front k c2 c y e f
  cells_put_behind l k c c2 y (x ∷ u) p q e h a f = by_case (ltb l (lev x))
      (λ z. let m : l < lev x = ltb-true _ _ z in
      rw z (ap (λ r. (x, chain c2 x) ∷ r) (cells_put_behind l k c (chain c2 x) y u p q (take_chain k c2 x (omega arith) h ∙ e) (omega (arith, length_chain c2 x)) a f)))
      (λ z. let m : lev x ≤ l = ltb-false _ _ z in
      rw z (cells_append k c2 c2 y (x ∷ u) refl h a (omega arith) ∙ ap (λ r. r ++ cells c2 (x ∷ u)) (cells_front k c2 c y e f)))

  module _ (y : E → List E) (k : E → ℕ) (lo : (x : E) → lev x ≤ k x) (hi : (x : E) → k x ≤ suc (lev x))
      (above : (x : E) → Above lev (k x) (y x)) (front : (x : E) → Front lev (k x) (y x)) where
    pub cells_insert_behind : (c : List K) (ms : List Bool) (t : List E) → Nested lev (length c) t
        → cells c (insert_behind lev y ms t) ≡ insert_behind cell_level (λ p. cells p.1 (y p.0)) ms (cells c t)
    unfolding cells insert_behind
    cells_insert_behind c ms [] w = refl
    cells_insert_behind c ms (x ∷ t) w = let ih = cells_insert_behind (chain c x) (drop 1 ms) t (nested_chain c x t w) in by_case (get_or ms 0 false)
        (λ d. rw d (ap (λ r. (x, chain c x) ∷ r)
        (cells_put_behind (lev x) (k x) (chain c x) (chain c x) (y x) _ (lo x) (hi x) refl (omega (arith, length_chain c x, w.0, hi x)) (above x) (front x)
        ∙ ap (put_behind cell_level (lev x) (cells (chain c x) (y x))) ih)))
        (λ d. rw d (ap (λ r. (x, chain c x) ∷ r) ih))

  module _ (y : E → List E) (above : (x : E) → Above lev (lev x) (y x)) (front : (x : E) → Front lev (lev x) (y x)) where
    pub cells_insert_in_front : (c : List K) (ms : List Bool) (t : List E) → Nested lev (length c) t
        → cells c (insert_in_front lev y ms t) ≡ insert_in_front cell_level (λ p. cells p.1 (y p.0)) ms (cells c t)
    unfolding cells insert_in_front
    cells_insert_in_front c ms [] w = refl
    cells_insert_in_front c ms (x ∷ t) w = let ih = cells_insert_in_front (chain c x) (drop 1 ms) t (nested_chain c x t w) in by_case (get_or ms 0 false)
        (λ d. rw d (cells_append (lev x) c c (y x) (x ∷ _) refl w.0 (above x) (omega arith)
        ∙ ap₂ ◌++◌ (cells_front (lev x) c (chain c x) (y x) (take_chain_self c x w.0) (front x)) (ap (λ r. (x, chain c x) ∷ r) ih)))
        (λ d. rw d (ap (λ r. (x, chain c x) ∷ r) ih))

  -- level and key stay under f
  abbrev pub Keeps : (E → E) → E → Type 0
  Keeps f x = (lev (f x) ≡ lev x) × (key (f x) ≡ key x)

  chain_keeps : (f : E → E) (c : List K) (x : E) → Keeps f x → chain c (f x) ≡ chain c x
  unfolding chain
  chain_keeps f c x k = rw (k.0, k.1)

  pub cells_rename : (f : E → E) (c : List K) (ms : List Bool) (t : List E) → AtDone (Keeps f) ms t
      → cells c (rename lev f ms t) ≡ rename cell_level (λ p. (f p.0, p.1)) ms (cells c t)
  unfolding cells rename
  cells_rename f c ms [] a = refl
  cells_rename f c ms (x ∷ t) a = let ih = cells_rename f (chain c x) (drop 1 ms) t a.1 in by_case (get_or ms 0 false)
      (λ d. rw (d, chain_keeps f c x (a.0 d)) (ap (λ r. (f x, chain c x) ∷ r) ih))
      (λ d. rw d (ap (λ r. (x, chain c x) ∷ r) ih))
