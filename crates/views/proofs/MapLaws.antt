-- A change of the nodes and the same change of what they stand for: a change commutes with every function that keeps levels. Assumes nothing.
use mathlib.Core.Path.{◌≡◌, refl, ap, ap₂, ◌∙◌}
use mathlib.Core.List.{List, [], ◌∷◌, ◌++◌, map}
use mathlib.Core.Bool.{Bool, false}
use Prim.Native.Nat.{ℕ}
use lib.Dec.{ltb}
use lib.ListN.{drop, get_or}
use Rattle.rights.proofs.ListLaws.{by_case}
use Rattle.views.specs.Change.{drop_below, put_behind, remove, insert_behind, insert_in_front, rename}

map-append : {A B : Type 0} (f : A → B) (a b : List A) → map f (a ++ b) ≡ map f a ++ map f b
map-append f [] b = refl
map-append f (x ∷ a) b = ap (λ r. f x ∷ r) (map-append f a b)

module _ {E N : Type 0} (lev : E → ℕ) (lvl : N → ℕ) (f : E → N) (same : (x : E) → lvl (f x) ≡ lev x) where
  map-put_behind : (l : ℕ) (y u : List E) → map f (put_behind lev l y u) ≡ put_behind lvl l (map f y) (map f u)
  unfolding put_behind
  map-put_behind l y [] = refl
  map-put_behind l y (x ∷ u) = by_case (ltb l (lev x))
      (λ e. rw (same x, e) (ap (λ r. f x ∷ r) (map-put_behind l y u)))
      (λ e. rw (same x, e) (map-append f y (x ∷ u)))

  module _ (y : E → List E) (z : N → List N) (both : (x : E) → map f (y x) ≡ z (f x)) where
    pub map-insert_behind : (ms : List Bool) (t : List E) → map f (insert_behind lev y ms t) ≡ insert_behind lvl z ms (map f t)
    unfolding insert_behind
    map-insert_behind ms [] = refl
    map-insert_behind ms (x ∷ t) = by_case (get_or ms 0 false)
        (λ e. rw (e, same x, ← both x, ← map-insert_behind (drop 1 ms) t) (ap (λ r. f x ∷ r) (map-put_behind (lev x) (y x) (insert_behind lev y (drop 1 ms) t))))
        (λ e. rw e (ap (λ r. f x ∷ r) (map-insert_behind (drop 1 ms) t)))

    pub map-insert_in_front : (ms : List Bool) (t : List E) → map f (insert_in_front lev y ms t) ≡ insert_in_front lvl z ms (map f t)
    unfolding insert_in_front
    map-insert_in_front ms [] = refl
    map-insert_in_front ms (x ∷ t) = by_case (get_or ms 0 false)
        (λ e. rw e (map-append f (y x) (x ∷ insert_in_front lev y (drop 1 ms) t) ∙ ap₂ ◌++◌ (both x) (ap (λ r. f x ∷ r) (map-insert_in_front (drop 1 ms) t))))
        (λ e. rw e (ap (λ r. f x ∷ r) (map-insert_in_front (drop 1 ms) t)))

  pub map-rename : (g : E → E) (h : N → N) → ((x : E) → f (g x) ≡ h (f x)) → (ms : List Bool) (t : List E) → map f (rename lev g ms t) ≡ rename lvl h ms (map f t)
  unfolding rename
  map-rename g h e ms [] = refl
  map-rename g h e ms (x ∷ t) = by_case (get_or ms 0 false)
      (λ q. rw q (ap₂ ◌∷◌ (e x) (map-rename g h e (drop 1 ms) t)))
      (λ q. rw q (ap (λ r. f x ∷ r) (map-rename g h e (drop 1 ms) t)))

  map-drop_below : (l : ℕ) (u : List E) → map f (drop_below lev l u) ≡ drop_below lvl l (map f u)
  unfolding drop_below
  map-drop_below l [] = refl
  map-drop_below l (x ∷ u) = by_case (ltb l (lev x))
      (λ e. rw (same x, e) (map-drop_below l u))
      (λ e. rw (same x, e))

  pub map-remove : (ms : List Bool) (t : List E) → map f (remove lev ms t) ≡ remove lvl ms (map f t)
  unfolding remove
  map-remove ms [] = refl
  map-remove ms (x ∷ t) = by_case (get_or ms 0 false)
      (λ e. rw (e, same x, ← map-remove (drop 1 ms) t) (map-drop_below (lev x) (remove lev (drop 1 ms) t)))
      (λ e. rw e (ap (λ r. f x ∷ r) (map-remove (drop 1 ms) t)))
