-- Laws of how a sheet's cells are found and put. Assumes nothing.
use Prim.Native.Nat.{ℕ, zero, suc, ◌+◌, ◌-◌, ◌%◌, ◌≤◌, ◌<◌}
use mathlib.Core.Path.{◌≡◌, refl, sym, ap, ◌∙◌}
use mathlib.Core.Bool.{Bool, true, false}
use mathlib.Core.List.{List, [], ◌∷◌, ◌++◌, map}
use native.Mathlib.Omega.{arith}
use native.Mathlib.Numerals.{add-one}
use lib.Dec.{ltb}
use lib.ListN.{length, get_or, take, drop, replicate, get_or-eq_default, drop_of_length-le}
use lib.Seq.{drop-cons, get_or-drop, drop-drop, take_at}
use borrow.Author.Tests.{eq-eqb, ne_eqb, le-leb, lt-leb, lt-ltb, le-ltb, ltb-true, ltb-false}
use Rattle.rights.specs.Bytes.{bytes}
use Rattle.rights.specs.Nodes.{node, Nodes, level_at, label_at}
use Rattle.rights.specs.XPath.{at, children, filter, each, stretch}
use Rattle.rights.proofs.ListLaws.{by_case}
use Rattle.answers.specs.Sheet.{cell, nth, days, labelled, lesson, row_text, head_row, row, periods, sheet_text}
use Rattle.answers.specs.How.AnswerArea.{Puts}
use Rattle.answers.specs.How.SheetParts.{siblings, onward, First}

-- Siblings from a place on

module _ (t : Nodes) (l i : ℕ) where
  pub siblings_end : length t ≤ i → siblings t l i ≡ []
  unfolding siblings stretch filter
  siblings_end h = let e : length t - i ≡ 0 = omega arith in rw e

  module _ (h : i < length t) where
    e : length t - i ≡ suc (length t - suc i)
    e = omega arith

    pub siblings-under : level_at t i < l → siblings t l i ≡ []
    unfolding siblings stretch filter
    siblings-under u = rw (e, lt-leb l (level_at t i) u)

    pub siblings_here : level_at t i ≡ l → siblings t l i ≡ i ∷ siblings t l (suc i)
    unfolding siblings stretch filter
    siblings_here u = rw (e, le-leb l (level_at t i) (omega arith), eq-eqb (level_at t i) l u)

    pub siblings-deeper : l < level_at t i → siblings t l i ≡ siblings t l (i + 1)
    unfolding siblings stretch filter
    siblings-deeper u = rw (e, le-leb l (level_at t i) (omega arith), ne_eqb (level_at t i) l (λ z. omega arith), add-one i)

module _ (t : Nodes) (l r : ℕ) where
  pub onward_end : length t ≤ r → onward t l r ≡ []
  unfolding onward
  onward_end h = rw (le-ltb r (length t) h)

  pub onward_here : r < length t → onward t l r ≡ r ∷ siblings t l (suc r)
  unfolding onward
  onward_here h = rw (lt-ltb r (length t) h)

-- The first of them

pub first_none : (t : Nodes) (l i r : ℕ) → siblings t l i ≡ [] → r ≡ length t → First t l i r
first_none t l i r e q = record { is = e ∙ sym (onward_end t l r (omega arith)); on = λ h. omega arith; fits = omega arith }

pub first_here : (t : Nodes) (l i j : ℕ) → i ≤ j → siblings t l i ≡ siblings t l j → j < length t → level_at t j ≡ l → First t l i j
first_here t l i j f e h u = record { is = e ∙ siblings_here t l j h u ∙ sym (onward_here t l j h); on = λ g. f; fits = omega arith }

-- A cell

drop-replicate : (x : ℕ) (r m : ℕ) → drop r (replicate m x) ≡ replicate (m - r) x
drop-replicate x zero m = let e : m - 0 ≡ m = omega arith in rw e
drop-replicate x (suc r) zero = let e : 0 - suc r ≡ 0 = omega arith in rw e
drop-replicate x (suc r) (suc m) = let e : suc m - suc r ≡ m - r = omega arith in rw e (drop-replicate x r m)

-- cut or filled, with enough to fill
filled_alike : (s : List ℕ) (x n m k : ℕ) → n ≤ length s + m → n ≤ length s + k → take n (s ++ replicate m x) ≡ take n (s ++ replicate k x)
filled_alike s x zero m k g h = refl
filled_alike [] x (suc n) zero k g h = absurd (omega arith)
filled_alike [] x (suc n) (suc m) zero g h = absurd (omega arith)
filled_alike [] x (suc n) (suc m) (suc k) g h = ap (x ∷◌) (filled_alike [] x n m k (omega arith) (omega arith))
filled_alike (y ∷ s) x (suc n) m k g h = ap (y ∷◌) (filled_alike s x n m k (omega arith) (omega arith))

pub cell_filled : (s b : List ℕ) (r : ℕ) → Puts s 0 (replicate {A = ℕ} 24 32) b r → r ≤ 24 → take 13 b ++ bytes "|" ≡ cell s
unfolding cell
cell_filled s b r p h =
    let n : r ≡ length s = omega (arith, p.next) in
    let f : b ≡ s ++ drop r (replicate {A = ℕ} 24 32) = p.fits h in
    let d : drop r (replicate {A = ℕ} 24 32) ≡ replicate {A = ℕ} (24 - r) 32 = drop-replicate 32 r 24 in
    let g : take 13 (s ++ replicate (24 - r) 32) ≡ take 13 (s ++ replicate 13 32) = filled_alike s 32 13 (24 - r) 13 (omega arith) (omega arith) in
    ap (λ (u : List ℕ). take 13 u ++ bytes "|") (f ∙ ap (λ (u : List ℕ). s ++ u) d) ∙ ap (λ (u : List ℕ). u ++ bytes "|") g

pub cell-blank : (t : Nodes) (i : ℕ) → length t ≤ i → cell (label_at t i) ≡ bytes "             |"
unfolding cell label_at
cell-blank t i h = rw (get_or-eq_default t (node 0 []) h)

-- the label as it is put into a lent area
pub label-put : (s a b : List ℕ) (r : ℕ) → Puts s 0 a b r → r ≤ length a → take r b ≡ s
label-put s a b r p h = let n : length s ≡ r = omega (arith, p.next) in ap (take r) (p.fits h) ∙ take_at s (drop r a) r n

-- Children, one after the other

pub children_from : (t : Nodes) (i l : ℕ) → l ≡ level_at t i + 1 → children t (at i) ≡ siblings t l (i + 1)
unfolding siblings
children_from t i l e = rw (e, add-one (level_at t i), add-one i)

pub children-none : (t : Nodes) (i : ℕ) → length t ≤ i → children t (at i) ≡ []
children-none t i h = children_from t i (level_at t i + 1) refl ∙ siblings_end t (level_at t i + 1) (i + 1) (omega arith)

module _ (t : Nodes) (l j : ℕ) where
  onward_next : drop 1 (onward t l j) ≡ siblings t l (j + 1)
  onward_next =
      by_case (ltb j (length t))
      (λ e. let h = ltb-true j (length t) e in rw (onward_here t l j h, add-one j))
      (λ e. let h = ltb-false j (length t) e in rw (onward_end t l j h) (sym (siblings_end t l (j + 1) (omega arith))))

  pub child_next : (js : List ℕ) (k r : ℕ) → drop k js ≡ onward t l j → First t l (j + 1) r → drop (k + 1) js ≡ onward t l r
  child_next js k r e f = sym (drop-drop 1 k js) ∙ ap (drop 1) e ∙ onward_next ∙ f.is

  onward_first : j ≤ length t → get_or (onward t l j) 0 (length t) ≡ j
  onward_first h =
      by_case (ltb j (length t))
      (λ e. rw (onward_here t l j (ltb-true j (length t) e)))
      (λ e. let g = ltb-false j (length t) e in rw (onward_end t l j g) (omega arith))

  pub child_reached : (js : List ℕ) (k : ℕ) → drop k js ≡ onward t l j → j ≤ length t → j ≡ nth t js k
  child_reached js k e h =
      let z : k + 0 ≡ k = omega arith in
      sym (onward_first h) ∙ ap (λ (u : List ℕ). get_or u 0 (length t)) (sym e) ∙ get_or-drop k js 0 (length t) ∙ ap (λ (m : ℕ). get_or js m (length t)) z

-- where there is none of that number
pub child_missed : (t : Nodes) (l : ℕ) (js : List ℕ) (k m : ℕ) → drop k js ≡ onward t l (length t) → k ≤ m → length t ≡ nth t js m
child_missed t l js k m e h =
    let z : k + (m - k) ≡ m = omega arith in
    sym (ap (λ (u : List ℕ). get_or u (m - k) (length t)) (e ∙ onward_end t l (length t) (omega arith)))
    ∙ get_or-drop k js (m - k) (length t) ∙ ap (λ (n : ℕ). get_or js n (length t)) z

-- What is missing has no children.

module _ (t : Nodes) where
  pub none_of_none : (k : ℕ) → length t ≡ nth t (children t (at (length t))) k
  none_of_none k = rw (children-none t (length t) (omega arith))

  pub none_labelled : (room : List ℕ) → length t ≡ labelled room t (length t)
  unfolding labelled filter
  none_labelled room = rw (children-none t (length t) (omega arith))

-- A lesson is a child of a child of a child.
pub lesson_found : (room : List ℕ) (t : Nodes) (n day period held r : ℕ)
    → period ≡ nth t (children t (at day)) (n - 1) → held ≡ labelled room t period → r ≡ nth t (children t (at held)) 0 → r ≡ lesson room t n day
unfolding lesson
lesson_found room t n day period held r e f g = g ∙ ap (λ (i : ℕ). nth t (children t (at i)) 0) (f ∙ ap (labelled room t) e)

-- Those that carry a label

module _ (f : ℕ → Bool) (t : Nodes) (l j : ℕ) (js : List ℕ) (e : filter f js ≡ filter f (onward t l j)) where
  pub passed_on : (r : ℕ) → j < length t → f j ≡ false → First t l (j + 1) r → filter f js ≡ filter f (onward t l r)
  unfolding filter
  passed_on r h q g = e ∙ rw (onward_here t l j h, q, ← add-one j, g.is)

  pub first_that : j < length t → f j ≡ true → j ≡ nth t (filter f js) 0
  unfolding filter
  first_that h q = rw (e, onward_here t l j h, q)

  pub none_that : length t ≤ j → length t ≡ nth t (filter f js) 0
  unfolding filter
  none_that h = rw (e, onward_end t l j h)

-- Texts one after the other

pub each_step : (f : ℕ → List ℕ) (xs : List ℕ) (d i : ℕ) → i < length xs → each f (drop i xs) ≡ f (get_or xs i d) ++ each f (drop (i + 1) xs)
unfolding each
each_step f xs d i h = rw (add-one i, drop-cons xs i d)

pub each_end : (f : ℕ → List ℕ) (xs : List ℕ) (i : ℕ) → length xs ≤ i → each f (drop i xs) ≡ []
unfolding each
each_end f xs i h = rw drop_of_length-le

-- Rows

pub row_of : (first : ℕ) (t : Nodes) (places : List ℕ)
    → row_text first t places ≡ (first ∷ []) ++ (bytes " " ++ (each (λ i. cell (label_at t i)) places ++ bytes "\n"))
unfolding row_text
row_of first t places = refl

pub numbered-row : (room : List ℕ) (t : Nodes) (n first : ℕ) (lessons : List ℕ) → lessons ≡ map (lesson room t n) (days t) → n < 10 → first ≡ 48 + n % 10
    → row_text first t lessons ≡ row room t n
unfolding row
numbered-row room t n first lessons q h d = let z : first ≡ 48 + n = omega arith in rw (q, z)

period-number : (i : ℕ) → i < 8 → get_or periods i 0 ≡ i + 1
period-number zero h = refl
period-number (suc zero) h = refl
period-number (suc (suc zero)) h = refl
period-number (suc (suc (suc zero))) h = refl
period-number (suc (suc (suc (suc zero)))) h = refl
period-number (suc (suc (suc (suc (suc zero))))) h = refl
period-number (suc (suc (suc (suc (suc (suc zero)))))) h = refl
period-number (suc (suc (suc (suc (suc (suc (suc zero))))))) h = refl
period-number (suc (suc (suc (suc (suc (suc (suc (suc i)))))))) h = absurd (omega arith)

pub rows_step : (f : ℕ → List ℕ) (i : ℕ) → i < 8 → each f (drop i periods) ≡ f (i + 1) ++ each f (drop (i + 1) periods)
rows_step f i h = each_step f periods 0 i h ∙ ap (λ (n : ℕ). f n ++ each f (drop (i + 1) periods)) (period-number i h)

pub rows_end : (f : ℕ → List ℕ) (i : ℕ) → 8 ≤ i → each f (drop i periods) ≡ []
rows_end f i h = each_end f periods i h

pub sheet_of : (room : List ℕ) (t : Nodes) (places : List ℕ) → places ≡ days t → sheet_text room t ≡ row_text 32 t places ++ each (row room t) periods
unfolding sheet_text head_row
sheet_of room t places e = rw e

-- lists that are alike place by place
pub map_alike : {A B C : Type 0} (f : A → C) (g : B → C) (xs : List A) (ys : List B) (d : A) (e : B) → length xs ≡ length ys
    → ((i : ℕ) → i < length ys → f (get_or xs i d) ≡ g (get_or ys i e)) → map f xs ≡ map g ys
map_alike f g [] [] d e n h = refl
map_alike f g [] (y ∷ ys) d e n h = absurd (omega arith)
map_alike f g (x ∷ xs) [] d e n h = absurd (omega arith)
map_alike f g (x ∷ xs) (y ∷ ys) d e n h = rw (h 0 (omega arith), map_alike f g xs ys d e (omega arith) (λ i l. h (suc i) (omega arith)))
