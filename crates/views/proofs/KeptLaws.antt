-- Kept nodes: a change keeps every node that it does not remove, and kept nodes keep their order; inserted nodes are new. A node's identity is a tag that it carries
-- (`h`: none for a new node). Assumes nothing.
use mathlib.Core.Path.{◌≡◌, refl, ap, ap₂, ◌∙◌}
use mathlib.Core.List.Sublistᴰ
use mathlib.Core.List.{List, [], ◌∷◌, ◌++◌, Sublistᴰ}
use mathlib.Core.Option.{Option, none, some}
use mathlib.Core.Bool.{Bool, false}
use Prim.Native.Nat.{ℕ}
use lib.Dec.{ltb}
use lib.ListN.{drop, get_or}
use Rattle.rights.proofs.ListLaws.{by_case}
use Rattle.views.specs.Change.{drop_below, put_behind, remove, insert_behind, insert_in_front, rename}
use Rattle.views.specs.Nodes.{put, tags}

module _ {X : Type 0} where
  put_app : (o : Option X) (r s : List X) → put o (r ++ s) ≡ put o r ++ s
  put_app none r s = refl
  put_app (some x) r s = refl

  put_sub : (o : Option X) {r s : List X} → Sublistᴰ r s → Sublistᴰ (put o r) (put o s)
  put_sub none d = d
  put_sub (some x) d = Sublistᴰ.cons-cons refl d

  put_skip : (o : Option X) (r : List X) → Sublistᴰ r (put o r)
  put_skip none r = Sublistᴰ.refl r
  put_skip (some x) r = Sublistᴰ.cons (Sublistᴰ.refl r)

module _ {E X : Type 0} (lev : E → ℕ) (h : E → Option X) where
  tags_app : (s t : List E) → tags h (s ++ t) ≡ tags h s ++ tags h t
  unfolding tags
  tags_app [] t = refl
  tags_app (x ∷ s) t = ap (put (h x)) (tags_app s t) ∙ put_app (h x) (tags h s) (tags h t)

  tags-drop_below : (l : ℕ) (t : List E) → Sublistᴰ (tags h (drop_below lev l t)) (tags h t)
  unfolding tags drop_below
  tags-drop_below l [] = Sublistᴰ.slnil
  tags-drop_below l (x ∷ t) = by_case (ltb l (lev x)) (λ e. rw e (Sublistᴰ.trans (tags-drop_below l t) (put_skip (h x) (tags h t)))) (λ e. rw e (Sublistᴰ.refl _))

  pub tags-remove : (ms : List Bool) (t : List E) → Sublistᴰ (tags h (remove lev ms t)) (tags h t)
  unfolding tags remove
  tags-remove ms [] = Sublistᴰ.slnil
  tags-remove ms (x ∷ t) = by_case (get_or ms 0 false)
      (λ d. rw d (Sublistᴰ.trans (tags-drop_below (lev x) (remove lev (drop 1 ms) t)) (Sublistᴰ.trans (tags-remove (drop 1 ms) t) (put_skip (h x) (tags h t)))))
      (λ d. rw d (put_sub (h x) (tags-remove (drop 1 ms) t)))

  tags-put_behind : (l : ℕ) (y t : List E) → tags h y ≡ [] → tags h (put_behind lev l y t) ≡ tags h t
  unfolding tags put_behind
  tags-put_behind l y [] n = n
  tags-put_behind l y (x ∷ t) n = by_case (ltb l (lev x)) (λ e. rw e (ap (put (h x)) (tags-put_behind l y t n))) (λ e. rw e (tags_app y (x ∷ t) ∙ ap (λ r. r ++ tags h (x ∷ t)) n))

  module _ (y : E → List E) (new : (x : E) → tags h (y x) ≡ []) where
    pub tags-insert_behind : (ms : List Bool) (t : List E) → tags h (insert_behind lev y ms t) ≡ tags h t
    unfolding tags insert_behind
    tags-insert_behind ms [] = refl
    tags-insert_behind ms (x ∷ t) = by_case (get_or ms 0 false)
        (λ d. rw d (ap (put (h x)) (tags-put_behind (lev x) (y x) _ (new x) ∙ tags-insert_behind (drop 1 ms) t)))
        (λ d. rw d (ap (put (h x)) (tags-insert_behind (drop 1 ms) t)))

    pub tags-insert_in_front : (ms : List Bool) (t : List E) → tags h (insert_in_front lev y ms t) ≡ tags h t
    unfolding tags insert_in_front
    tags-insert_in_front ms [] = refl
    tags-insert_in_front ms (x ∷ t) = by_case (get_or ms 0 false)
        (λ d. rw d (tags_app (y x) _ ∙ ap₂ ◌++◌ (new x) (ap (put (h x)) (tags-insert_in_front (drop 1 ms) t))))
        (λ d. rw d (ap (put (h x)) (tags-insert_in_front (drop 1 ms) t)))

  pub tags-rename : (f : E → E) → ((x : E) → h (f x) ≡ h x) → (ms : List Bool) (t : List E) → tags h (rename lev f ms t) ≡ tags h t
  unfolding tags rename
  tags-rename f e ms [] = refl
  tags-rename f e ms (x ∷ t) = by_case (get_or ms 0 false)
      (λ d. rw (d, e) (ap (put (h x)) (tags-rename f e (drop 1 ms) t)))
      (λ d. rw d (ap (put (h x)) (tags-rename f e (drop 1 ms) t)))
