-- What is shown, node by node, in the document's words: nothing below a hidden node is shown; and that one number, the depth of the shown chain, decides it. Assumes
-- nothing.
use Prim.Native.Nat.{ℕ, zero, suc, ◌+◌, ◌≤◌, ◌<◌, min}
use mathlib.Core.Bool.{Bool, true, false, ◌&&◌, and-false, false≢true}
use mathlib.Core.Path.{◌≡◌, refl, sym, ap, ap₂, ◌∙◌}
use mathlib.Core.List.{List, [], ◌∷◌, ◌++◌, append-nil}
use native.Mathlib.Omega.{arith}
use borrow.Author.Tests.{leb-true, leb-false, ltb-true, ltb-false, le-leb, lt-leb, lt-ltb}
use lib.Dec.{leb, ltb}
use lib.ListN.{length, get_or}
use Rattle.rights.proofs.ListLaws.{by_case}
use Rattle.rights.proofs.TableLaws.{both}
use Rattle.views.specs.Shown.{at_parent, nearest_first, is_shown, shown_after, shown_by}
use Rattle.views.specs.Nodes.{is_below, is_ancestor}
use Rattle.views.specs.How.Numbers.{depth_after, is_shown_at, shown_from}

-- the nodes before, one further on
nearest_shift : {A : Type 0} (f : ℕ → A) (i : ℕ) (b : List A) → nearest_first f (suc i) ++ b ≡ nearest_first (λ k. f (suc k)) i ++ (f 0 ∷ b)
unfolding nearest_first
nearest_shift f zero b = refl
nearest_shift f (suc i) b = ap (λ l. f (suc i) ∷ l) (nearest_shift f i b)

pub nearest_same : {A : Type 0} (f g : ℕ → A) (i : ℕ) → ((k : ℕ) → k < i → f k ≡ g k) → nearest_first f i ≡ nearest_first g i
unfolding nearest_first
nearest_same f g zero e = refl
nearest_same f g (suc i) e = ap₂ ◌∷◌ (e i (omega arith)) (nearest_same f g i (λ k h. e k (omega arith)))

-- whatever is deeper than level l has a hidden parent
abbrev Dark : ℕ → List (ℕ × Bool) → Type 0
Dark l before = (k : ℕ) → l < k → at_parent true before k ≡ false

dark_first : (l : ℕ) (b : Bool) (before : List (ℕ × Bool)) → b ≡ false → Dark l ((l, b) ∷ before)
unfolding at_parent
dark_first l b before e k h = rw (lt-ltb l k h, e)

dark_more : (l m : ℕ) (b : Bool) (before : List (ℕ × Bool)) → b ≡ false → Dark l before → Dark l ((m, b) ∷ before)
unfolding at_parent
dark_more l m b before e d k h = by_case (ltb m k) (λ q. rw (q, e)) (λ q. rw q (d k h))

module _ {E : Type 0} (lev : E → ℕ) (gr : E → Bool) where
  after_at : (o : E) (before : List (ℕ × Bool)) (xs : List E) (i : ℕ) → i < length xs
      → get_or (shown_after lev gr before xs) i false
      ≡ is_shown lev gr (nearest_first (λ k. (lev (get_or xs k o), get_or (shown_after lev gr before xs) k false)) i ++ before) (get_or xs i o)
  unfolding shown_after nearest_first
  after_at o before [] i h = absurd (omega arith)
  after_at o before (x ∷ xs) zero h = refl
  after_at o before (x ∷ xs) (suc i) h =
      after_at o ((lev x, is_shown lev gr before x) ∷ before) xs i (omega arith)
      ∙ ap (λ b. is_shown lev gr b (get_or xs i o))
      (sym (nearest_shift (λ k. (lev (get_or (x ∷ xs) k o), get_or (shown_after lev gr before (x ∷ xs)) k false)) i before))

  -- "A node is shown if the user has read or position on it and its parent is shown (the root's counts as shown)": of node i.
  pub shown_at : (o : E) (xs : List E) (i : ℕ) → i < length xs
      → get_or (shown_by lev gr xs) i false
      ≡ (gr (get_or xs i o)
      && at_parent true (nearest_first (λ k. (lev (get_or xs k o), get_or (shown_by lev gr xs) k false)) i) (lev (get_or xs i o)))
  shown_at o xs i h =
      after_at o [] xs i h
      ∙ ap (λ b. is_shown lev gr b (get_or xs i o))
      (append-nil (nearest_first (λ k. (lev (get_or xs k o), get_or (shown_by lev gr xs) k false)) i))

  -- below a hidden node
  dark_below : (l : ℕ) (before : List (ℕ × Bool)) (xs : List E) (i : ℕ) → Dark l before → is_below lev l xs i ≡ true
      → get_or (shown_after lev gr before xs) i false ≡ false
  unfolding shown_after is_below
  dark_below l before [] i d e = refl
  dark_below l before (x ∷ xs) zero d e = rw (d (lev x) (ltb-true l (lev x) e)) (and-false (gr x))
  dark_below l before (x ∷ xs) (suc i) d e =
      let f = both (ltb l (lev x)) (is_below lev l xs i) e in
      let hidden : is_shown lev gr before x ≡ false = rw (d (lev x) (ltb-true l (lev x) f.0)) (and-false (gr x)) in
      dark_below l ((lev x, is_shown lev gr before x) ∷ before) xs i (dark_more l (lev x) (is_shown lev gr before x) before hidden d) f.1

  hidden_after : (before : List (ℕ × Bool)) (xs : List E) (j i : ℕ) → is_ancestor lev xs j i ≡ true → get_or (shown_after lev gr before xs) j false ≡ false
      → get_or (shown_after lev gr before xs) i false ≡ false
  unfolding shown_after is_ancestor
  hidden_after before [] j i a e = refl
  hidden_after before (x ∷ xs) zero zero a e = e
  hidden_after before (x ∷ xs) zero (suc i) a e = dark_below (lev x) ((lev x, is_shown lev gr before x) ∷ before) xs i (dark_first (lev x) (is_shown lev gr before x) before e) a
  hidden_after before (x ∷ xs) (suc j) zero a e = absurd (false≢true a)
  hidden_after before (x ∷ xs) (suc j) (suc i) a e = hidden_after ((lev x, is_shown lev gr before x) ∷ before) xs j i a e

  -- Nothing below a node that is not shown is shown.
  pub hidden_below : (xs : List E) (j i : ℕ) → is_ancestor lev xs j i ≡ true → get_or (shown_by lev gr xs) j false ≡ false → get_or (shown_by lev gr xs) i false ≡ false
  hidden_below xs j i a e = hidden_after [] xs j i a e

-- By one number

-- before tells of every level up to h what the depth d tells
abbrev Tells : ℕ → ℕ → List (ℕ × Bool) → Type 0
Tells h d before = (l : ℕ) → l ≤ h → at_parent true before l ≡ leb l d

deeper : (d k l : ℕ) (b : Bool) → k < l → l ≤ k + 1 → b ≡ leb l (depth_after d k b)
deeper d k l true h e = sym (le-leb l (k + 1) e)
deeper d k l false h e = sym (lt-leb l (min d k) (omega arith))

higher : (d k l : ℕ) (b : Bool) → (b ≡ true → k ≤ d) → l ≤ k → leb l d ≡ leb l (depth_after d k b)
higher d k l true up e = let u : k ≤ d = up refl in le-leb l d (omega arith) ∙ sym (le-leb l (k + 1) (omega arith))
higher d k l false up e =
    by_case (leb l d)
    (λ q. let w = leb-true l d q in q ∙ sym (le-leb l (min d k) (omega arith)))
    (λ q. let w = leb-false l d q in q ∙ sym (lt-leb l (min d k) (omega arith)))

tells_more : (h d k : ℕ) (before : List (ℕ × Bool)) (b : Bool) → (b ≡ true → k ≤ d) → k ≤ h → Tells h d before → Tells (k + 1) (depth_after d k b) ((k, b) ∷ before)
unfolding at_parent
tells_more h d k before b up e t l q =
    by_case (ltb k l)
    (λ w. rw w (deeper d k l b (ltb-true k l w) q))
    (λ w. rw w (let z : l ≤ k = ltb-false k l w in t l (omega arith) ∙ higher d k l b up z))

module _ {E : Type 0} (lev : E → ℕ) (gr : E → Bool) where
  -- the first level is at most h, each later one at most one more than the one before
  abbrev pub Steps : ℕ → List E → Type 0
  Steps h [] = Unit {0}
  Steps h (x ∷ xs) = (lev x ≤ h) × Steps (lev x + 1) xs

  after_by_depth : (h d : ℕ) (before : List (ℕ × Bool)) (xs : List E) → Tells h d before → Steps h xs
      → shown_after lev gr before xs ≡ shown_from lev gr d xs
  unfolding shown_after shown_from
  after_by_depth h d before [] t s = refl
  after_by_depth h d before (x ∷ xs) t s =
      rw (t (lev x) s.0)
      (ap (λ l. is_shown_at lev gr d x ∷ l)
      (after_by_depth (lev x + 1) _ _ xs
      (tells_more h d (lev x) before (is_shown_at lev gr d x) (λ e. leb-true _ _ (both (gr x) (leb (lev x) d) e).1) s.0 t)
      s.1))

  -- one number decides what is shown
  pub shown_by_depth : (xs : List E) → Steps 0 xs → shown_by lev gr xs ≡ shown_from lev gr 0 xs
  unfolding at_parent
  shown_by_depth xs s = after_by_depth 0 0 [] xs (λ l h. sym (le-leb l 0 h)) s
