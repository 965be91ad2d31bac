-- The shown nodes by one scan over a list of nodes with levels, and the changes on them: a change whose marks are spread from those of the shown nodes acts
-- on the shown nodes as that change with their marks. `seen-shown` and `spread_shown` tie the scan to the view (views/specs/Shown.antt). Assumes nothing.
use Prim.Native.Nat.{ℕ, suc, ◌≤◌, ◌<◌, min}
use mathlib.Core.Path.{◌≡◌, refl, ap, ap₂, sym, ◌∙◌}
use mathlib.Core.Bool.{Bool, true, false, cond, true≢false, and-false}
use mathlib.Core.List.{List, [], ◌∷◌, ◌++◌, append-nil, map}
use native.Mathlib.Omega.{arith}
use native.Mathlib.Numerals.{add-one}
use lib.ListN.{length, drop, get_or}
use lib.Dec.{leb, ltb}
use borrow.Author.Tests.{leb-true, leb-false, ltb-true, ltb-false, le-ltb, le-leb, lt-leb}
use Rattle.rights.specs.Marks.{keep}
use Rattle.rights.proofs.TableLaws.{both}
use Rattle.rights.proofs.ListLaws.{by_case}
use Rattle.views.specs.Change.{drop_below, put_behind, remove, insert_behind, insert_in_front, rename}
use Rattle.views.specs.Done.{in_table}
use Rattle.views.specs.Nodes.{Nested, Above, Front}
use Rattle.views.specs.How.Pass.{AtDone}
use Rattle.views.specs.Shown.{shown_by}
use Rattle.views.specs.How.Numbers.{is_shown_at, shown_from}
use Rattle.views.proofs.ShownLaws.{Steps, shown_by_depth}

-- what holds of every node holds of each that is done
pub done_every : {E : Type 0} (P : E → Type 0) → ((x : E) → P x) → (ms : List Bool) (t : List E) → AtDone P ms t
done_every P h ms [] = tt
done_every P h ms (x ∷ t) = ((λ e. h x), done_every P h (drop 1 ms) t)

min-same : (b b2 l : ℕ) → l ≤ b → l ≤ b2 → min b2 l ≡ min b l
min-same b b2 l h h2 = omega arith

module _ {E : Type 0} (lev : E → ℕ) (g : E → Bool) where
  -- the shown nodes, below a shown chain of depth b
  unfoldable pub seen : ℕ → List E → List E
  seen b [] = []
  seen b (x ∷ t) = cond (is_shown_at lev g b x) (x ∷ seen (suc (lev x)) t) (seen (min b (lev x)) t)

  -- the marks of the shown nodes, at their places in the whole list; no other node is marked
  unfoldable pub spread : ℕ → List Bool → List E → List Bool
  spread b ds [] = []
  spread b ds (x ∷ t) = cond (is_shown_at lev g b x) (get_or ds 0 false ∷ spread (suc (lev x)) (drop 1 ds) t) (false ∷ spread (min b (lev x)) ds t)

  pub shown-level : (b : ℕ) (x : E) → is_shown_at lev g b x ≡ true → lev x ≤ b
  shown-level b x e = leb-true _ _ (both (g x) (leb (lev x) b) e).1

  not-shown : (b : ℕ) (x : E) → b < lev x → is_shown_at lev g b x ≡ false
  not-shown b x h = rw (lt-leb (lev x) b h) (and-false (g x))

  shown_at : (b : ℕ) (x : E) → g x ≡ true → lev x ≤ b → is_shown_at lev g b x ≡ true
  shown_at b x e h = rw (e, le-leb (lev x) b h)

  -- what is not shown below a chain is not below a shorter one
  shown_less : (b c : ℕ) (x : E) → b ≤ c → is_shown_at lev g c x ≡ false → is_shown_at lev g b x ≡ false
  shown_less b c x h e = by_case (is_shown_at lev g b x)
      (λ v. let p = both (g x) (leb (lev x) b) v in
      let k : lev x ≤ c = omega (arith, leb-true (lev x) b p.1) in
      absurd (true≢false (sym (shown_at c x p.0 k) ∙ e)))
      (λ v. v)

  -- a chain that is cut at or below a node's level shows it or not as before
  shown-min : (b l : ℕ) (x : E) → lev x ≤ l → is_shown_at lev g (min b l) x ≡ is_shown_at lev g b x
  shown-min b l x h = by_case (leb (lev x) b)
      (λ e. let k : lev x ≤ b = leb-true _ _ e in rw (e, le-leb (lev x) (min b l) (omega arith)))
      (λ e. let k : b < lev x = leb-false _ _ e in rw (e, lt-leb (lev x) (min b l) (omega arith)))

  shown-same : (b b2 : ℕ) (x : E) → lev x ≤ b → lev x ≤ b2 → is_shown_at lev g b2 x ≡ is_shown_at lev g b x
  shown-same b b2 x h h2 = rw (le-leb (lev x) b h, le-leb (lev x) b2 h2)

  -- The scan and the view

  pub seen-keep : (b : ℕ) (t : List E) → seen b t ≡ keep (shown_from lev g b t) t
  unfolding seen keep shown_from
  seen-keep b [] = refl
  seen-keep b (x ∷ t) = by_case (is_shown_at lev g b x)
      (λ v. rw (v, add-one (lev x)) (ap (λ r. x ∷ r) (seen-keep (suc (lev x)) t)))
      (λ v. rw v (seen-keep (min b (lev x)) t))

  pub spread_in_table : (b : ℕ) (ds : List Bool) (t : List E) → spread b ds t ≡ in_table (shown_from lev g b t) ds
  unfolding spread in_table shown_from
  spread_in_table b ds [] = refl
  spread_in_table b ds (x ∷ t) = by_case (is_shown_at lev g b x)
      (λ v. rw (v, add-one (lev x)) (ap (λ r. get_or ds 0 false ∷ r) (spread_in_table (suc (lev x)) (drop 1 ds) t)))
      (λ v. rw v (ap (λ r. false ∷ r) (spread_in_table (min b (lev x)) ds t)))

  pub nested-steps : (n : ℕ) (t : List E) → Nested lev n t → Steps lev g n t
  nested-steps n [] w = tt
  nested-steps n (x ∷ t) w = (w.0, rw (add-one (lev x)) (nested-steps (suc (lev x)) t w.1))

  pub seen-shown : (t : List E) → Nested lev 0 t → seen 0 t ≡ keep (shown_by lev g t) t
  seen-shown t w = seen-keep 0 t ∙ ap (λ bs. keep bs t) (sym (shown_by_depth lev g t (nested-steps 0 t w)))

  pub spread_shown : (ds : List Bool) (t : List E) → Nested lev 0 t → spread 0 ds t ≡ in_table (shown_by lev g t) ds
  spread_shown ds t w = spread_in_table 0 ds t ∙ ap (λ bs. in_table bs ds) (sym (shown_by_depth lev g t (nested-steps 0 t w)))

  pub length_spread : (b : ℕ) (ds : List Bool) (t : List E) → length (spread b ds t) ≡ length t
  unfolding spread
  length_spread b ds [] = refl
  length_spread b ds (x ∷ t) = by_case (is_shown_at lev g b x)
      (λ v. rw v (ap suc (length_spread (suc (lev x)) (drop 1 ds) t)))
      (λ v. rw v (ap suc (length_spread (min b (lev x)) ds t)))

  -- Removal

  drop_below-seen : (l b : ℕ) (u : List E) → b ≤ l → drop_below lev l (seen b u) ≡ seen b u
  unfolding drop_below seen
  drop_below-seen l b [] h = refl
  drop_below-seen l b (x ∷ u) h = by_case (is_shown_at lev g b x)
      (λ e. let k : lev x ≤ b = shown-level b x e in rw (e, le-ltb l (lev x) (omega arith)))
      (λ e. rw e (drop_below-seen l (min b (lev x)) u (omega arith)))

  seen-drop_below : (l b b2 : ℕ) (u : List E) → l ≤ b → l ≤ b2 → seen b (drop_below lev l u) ≡ drop_below lev l (seen b2 u)
  unfolding drop_below seen
  seen-drop_below l b b2 [] h h2 = refl
  seen-drop_below l b b2 (x ∷ u) h h2 = by_case (ltb l (lev x))
      (λ e. let k : l < lev x = ltb-true _ _ e in by_case (is_shown_at lev g b2 x)
      (λ v. rw (v, e) (seen-drop_below l b (suc (lev x)) u h (omega arith)))
      (λ v. rw (v, e) (seen-drop_below l b (min b2 (lev x)) u h (omega arith))))
      (λ e. let k : lev x ≤ l = ltb-false _ _ e in by_case (is_shown_at lev g b x)
      (λ v. rw (e, shown-same b b2 x (omega arith) (omega arith), v, e))
      (λ v. rw (e, shown-same b b2 x (omega arith) (omega arith), v, min-same b b2 (lev x) (omega arith) (omega arith))
      (sym (drop_below-seen l (min b (lev x)) u (omega arith)))))

  pub seen-remove : (b : ℕ) (ds : List Bool) (t : List E) → seen b (remove lev (spread b ds t) t) ≡ remove lev ds (seen b t)
  unfolding remove seen spread
  seen-remove b ds [] = refl
  seen-remove b ds (x ∷ t) = by_case (is_shown_at lev g b x)
      (λ v. let k : lev x ≤ b = shown-level b x v in by_case (get_or ds 0 false)
      (λ d. rw (v, d) (seen-drop_below (lev x) b (suc (lev x)) _ k (omega arith) ∙ ap (drop_below lev (lev x)) (seen-remove (suc (lev x)) (drop 1 ds) t)))
      (λ d. rw (v, d, v) (ap (λ r. x ∷ r) (seen-remove (suc (lev x)) (drop 1 ds) t))))
      (λ v. rw (v, v) (seen-remove (min b (lev x)) ds t))

  -- Insertion: all of y at level k or deeper, the first node of u at most at k

  seen_front : (k b b2 : ℕ) (u : List E) → k ≤ b → k ≤ b2 → Front lev k u → seen b u ≡ seen b2 u
  unfolding seen
  seen_front k b b2 [] h h2 f = refl
  seen_front k b b2 (x ∷ u) h h2 f = rw (shown-same b b2 x (omega arith) (omega arith), min-same b b2 (lev x) (omega arith) (omega arith))

  seen-append : (k b b2 : ℕ) (y u : List E) → k ≤ b → k ≤ b2 → Above lev k y → Front lev k u → seen b (y ++ u) ≡ seen b y ++ seen b2 u
  unfolding seen
  seen-append k b b2 [] u h h2 a f = seen_front k b b2 u h h2 f
  seen-append k b b2 (x ∷ y) u h h2 a f = by_case (is_shown_at lev g b x)
      (λ v. rw v (ap (λ r. x ∷ r) (seen-append k (suc (lev x)) b2 y u (omega arith) h2 a.1 f)))
      (λ v. rw v (seen-append k (min b (lev x)) b2 y u (omega arith) h2 a.1 f))

  put_behind-seen : (l b : ℕ) (y u : List E) → b ≤ l → put_behind lev l y (seen b u) ≡ y ++ seen b u
  unfolding put_behind seen
  put_behind-seen l b y [] h = sym (append-nil y)
  put_behind-seen l b y (x ∷ u) h = by_case (is_shown_at lev g b x)
      (λ e. let k : lev x ≤ b = shown-level b x e in rw (e, le-ltb l (lev x) (omega arith)))
      (λ e. rw e (put_behind-seen l (min b (lev x)) y u (omega arith)))

  seen-put_behind : (l k b : ℕ) (y u : List E) → l ≤ k → k ≤ suc l → k ≤ b → Above lev k y → Front lev k y
      → seen b (put_behind lev l y u) ≡ put_behind lev l (seen k y) (seen b u)
  unfolding put_behind seen
  seen-put_behind l k b y [] p q h a f = seen_front k b k y h (omega arith) f
  seen-put_behind l k b y (x ∷ u) p q h a f = by_case (ltb l (lev x))
      (λ e. let m : l < lev x = ltb-true _ _ e in by_case (is_shown_at lev g b x)
      (λ v. rw (e, v, e) (ap (λ r. x ∷ r) (seen-put_behind l k (suc (lev x)) y u p q (omega arith) a f)))
      (λ v. rw (e, v) (seen-put_behind l k (min b (lev x)) y u p q (omega arith) a f)))
      (λ e. let m : lev x ≤ l = ltb-false _ _ e in
      rw e (seen-append k b b y (x ∷ u) h h a (omega arith) ∙ ap (λ r. r ++ seen b (x ∷ u)) (seen_front k b k y h (omega arith) f) ∙ by_case (is_shown_at lev g b x)
      (λ v. rw (v, e))
      (λ v. rw v (sym (put_behind-seen l (min b (lev x)) (seen k y) u (omega arith))))))

  module _ (y : E → List E) (k : E → ℕ) (lo : (x : E) → lev x ≤ k x) (hi : (x : E) → k x ≤ suc (lev x))
      (above : (x : E) → Above lev (k x) (y x)) (front : (x : E) → Front lev (k x) (y x)) where
    pub seen-insert_behind : (b : ℕ) (ds : List Bool) (t : List E)
        → seen b (insert_behind lev y (spread b ds t) t) ≡ insert_behind lev (λ x. seen (k x) (y x)) ds (seen b t)
    unfolding insert_behind seen spread
    seen-insert_behind b ds [] = refl
    seen-insert_behind b ds (x ∷ t) = by_case (is_shown_at lev g b x)
        (λ v. by_case (get_or ds 0 false)
        (λ d. rw (v, d) (ap (λ r. x ∷ r)
        (seen-put_behind (lev x) (k x) (suc (lev x)) (y x) _ (lo x) (hi x) (hi x) (above x) (front x)
        ∙ ap (put_behind lev (lev x) (seen (k x) (y x))) (seen-insert_behind (suc (lev x)) (drop 1 ds) t))))
        (λ d. rw (v, d) (ap (λ r. x ∷ r) (seen-insert_behind (suc (lev x)) (drop 1 ds) t))))
        (λ v. rw v (seen-insert_behind (min b (lev x)) ds t))

  module _ (y : E → List E) (above : (x : E) → Above lev (lev x) (y x)) (front : (x : E) → Front lev (lev x) (y x)) where
    pub seen-insert_in_front : (b : ℕ) (ds : List Bool) (t : List E)
        → seen b (insert_in_front lev y (spread b ds t) t) ≡ insert_in_front lev (λ x. seen (lev x) (y x)) ds (seen b t)
    unfolding insert_in_front seen spread
    seen-insert_in_front b ds [] = refl
    seen-insert_in_front b ds (x ∷ t) = by_case (is_shown_at lev g b x)
        (λ v. let m : lev x ≤ b = shown-level b x v in by_case (get_or ds 0 false)
        (λ d. rw (v, d) (seen-append (lev x) b b (y x) (x ∷ _) m m (above x) (omega arith)
        ∙ ap₂ ◌++◌ (seen_front (lev x) b (lev x) (y x) m (omega arith) (front x)) (rw v (ap (λ r. x ∷ r) (seen-insert_in_front (suc (lev x)) (drop 1 ds) t)))))
        (λ d. rw (v, d, v) (ap (λ r. x ∷ r) (seen-insert_in_front (suc (lev x)) (drop 1 ds) t))))
        (λ v. rw (v, v) (seen-insert_in_front (min b (lev x)) ds t))

  -- Renaming: level and grant of each node that is done stay

  abbrev pub KeepsGrant : (E → E) → E → Type 0
  KeepsGrant f x = (lev (f x) ≡ lev x) × (g (f x) ≡ g x)

  shown-keeps : (f : E → E) (b : ℕ) (x : E) → KeepsGrant f x → is_shown_at lev g b (f x) ≡ is_shown_at lev g b x
  shown-keeps f b x k = rw (k.0, k.1)

  pub seen-rename : (f : E → E) (b : ℕ) (ds : List Bool) (t : List E) → AtDone (KeepsGrant f) (spread b ds t) t
      → seen b (rename lev f (spread b ds t) t) ≡ rename lev f ds (seen b t)
  unfolding rename seen spread
  seen-rename f b ds [] a = refl
  seen-rename f b ds (x ∷ t) a = by_case (is_shown_at lev g b x)
      (λ v. let w : (get_or ds 0 false ≡ true → KeepsGrant f x) × AtDone (KeepsGrant f) (spread (suc (lev x)) (drop 1 ds) t) t = rw v at a in by_case (get_or ds 0 false)
      (λ d. rw (v, d, shown-keeps f b x (w.0 d), v, (w.0 d).0) (ap (λ r. f x ∷ r) (seen-rename f (suc (lev x)) (drop 1 ds) t w.1)))
      (λ d. rw (v, d, v) (ap (λ r. x ∷ r) (seen-rename f (suc (lev x)) (drop 1 ds) t w.1))))
      (λ v. let w : (false ≡ true → KeepsGrant f x) × AtDone (KeepsGrant f) (spread (min b (lev x)) ds t) t = rw v at a in
      rw (v, v) (seen-rename f (min b (lev x)) ds t w.1))

  -- Closing: what is done keeps its level and is no longer granted. Nothing below it is shown any more, as if it were removed. The marks are those of a scan that
  -- goes at least as deep.

  abbrev pub Closes : (E → E) → E → Type 0
  Closes f x = (lev (f x) ≡ lev x) × (g (f x) ≡ false)

  -- what is dropped below level l is not seen below a chain of that depth
  seen_cut : (l b : ℕ) (u : List E) → seen (min b l) u ≡ seen b (drop_below lev l u)
  unfolding seen drop_below
  seen_cut l b [] = refl
  seen_cut l b (x ∷ u) = by_case (ltb l (lev x))
      (λ e. let k : l < lev x = ltb-true _ _ e in
      let n : is_shown_at lev g (min b l) x ≡ false = not-shown (min b l) x (omega arith) in
      let m : min (min b l) (lev x) ≡ min b l = omega arith in
      rw (e, n, m) (seen_cut l b u))
      (λ e. let k : lev x ≤ l = ltb-false _ _ e in
      let n : is_shown_at lev g (min b l) x ≡ is_shown_at lev g b x = shown-min b l x k in
      let m : min (min b l) (lev x) ≡ min b (lev x) = omega arith in
      rw (e, n, m))

  pub seen_close : (f : E → E) (b c : ℕ) (ds : List Bool) (t : List E) → b ≤ c → AtDone (Closes f) (spread c ds t) t
      → seen b (rename lev f (spread c ds t) t) ≡ seen b (remove lev (spread c ds t) t)
  unfolding seen rename remove spread
  seen_close f b c ds [] h a = refl
  seen_close f b c ds (x ∷ t) h a = by_case (is_shown_at lev g c x)
      (λ v. let w : (get_or ds 0 false ≡ true → Closes f x) × AtDone (Closes f) (spread (suc (lev x)) (drop 1 ds) t) t = rw v at a in by_case (get_or ds 0 false)
      (λ d. let q = w.0 d in
      rw (v, d, q.1, q.0) (seen_close f (min b (lev x)) (suc (lev x)) (drop 1 ds) t (omega arith) w.1 ∙ seen_cut (lev x) b _))
      (λ d. rw (v, d) (by_case (is_shown_at lev g b x)
      (λ z. rw z (ap (λ r. x ∷ r) (seen_close f (suc (lev x)) (suc (lev x)) (drop 1 ds) t (omega arith) w.1)))
      (λ z. rw z (seen_close f (min b (lev x)) (suc (lev x)) (drop 1 ds) t (omega arith) w.1)))))
      (λ v. let w : (false ≡ true → Closes f x) × AtDone (Closes f) (spread (min c (lev x)) ds t) t = rw v at a in
      let n : is_shown_at lev g b x ≡ false = shown_less b c x h v in
      rw (v, n) (seen_close f (min b (lev x)) (min c (lev x)) ds t (omega arith) w.1))

-- the scan goes by level and grant alone
pub map-seen : {E F : Type 0} (lev : E → ℕ) (lvl : F → ℕ) (g : E → Bool) (h : F → Bool) (f : E → F) → ((x : E) → lvl (f x) ≡ lev x) → ((x : E) → h (f x) ≡ g x)
    → (b : ℕ) (t : List E) → map f (seen lev g b t) ≡ seen lvl h b (map f t)
unfolding seen
map-seen lev lvl g h f same grant b [] = refl
map-seen lev lvl g h f same grant b (x ∷ t) = by_case (is_shown_at lev g b x)
    (λ v. rw (v, same x, grant x, v) (ap (λ r. f x ∷ r) (map-seen lev lvl g h f same grant (suc (lev x)) t)))
    (λ v. rw (v, same x, grant x, v) (map-seen lev lvl g h f same grant (min b (lev x)) t))

pub spread_map : {E F : Type 0} (lev : E → ℕ) (lvl : F → ℕ) (g : E → Bool) (h : F → Bool) (f : E → F) → ((x : E) → lvl (f x) ≡ lev x) → ((x : E) → h (f x) ≡ g x)
    → (b : ℕ) (ds : List Bool) (t : List E) → spread lvl h b ds (map f t) ≡ spread lev g b ds t
unfolding spread
spread_map lev lvl g h f same grant b ds [] = refl
spread_map lev lvl g h f same grant b ds (x ∷ t) = by_case (is_shown_at lev g b x)
    (λ v. rw (same x, grant x, v) (ap (λ r. get_or ds 0 false ∷ r) (spread_map lev lvl g h f same grant (suc (lev x)) (drop 1 ds) t)))
    (λ v. rw (same x, grant x, v) (ap (λ r. false ∷ r) (spread_map lev lvl g h f same grant (min b (lev x)) ds t)))
