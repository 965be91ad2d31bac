-- The vocabulary: a label's number among the words, one step of the search, and a word more. Assumes nothing.
use Prim.Native.Nat.{ℕ, zero, suc, ◌+◌, ◌-◌, ◌≤◌, ◌<◌}
use mathlib.Core.Bool.{Bool, true, false, ◌||◌, or_assoc, or-false}
use mathlib.Core.Logic.{⊎_elim}
use mathlib.Core.Path.{◌≡◌, refl, sym, ap, ◌∙◌, subst}
use mathlib.Core.List.{List, ◌∷◌}
use native.Mathlib.Nat.{eq-or-lt_of_le, le_of_suc-le-suc}
use native.Mathlib.Numerals.{add-one}
use native.Mathlib.Omega.{arith}
use borrow.Author.Tests.{eq-eqb, ne_eqb, ltb-true, ltb-false, lt-ltb}
use lib.Dec.{eqb, ltb}
use lib.ListN.{length, get_or}
use Rattle.rights.specs.Labels.{folded_label, same_label}
use Rattle.rights.specs.Table.{rec_at, label}
use Rattle.rights.specs.How.Places.{Text}
use Rattle.rights.specs.How.Vocabulary.{byte_order, label_order, listed_word, word_number, listed_number, is_listed, Words, Inserted}
use Rattle.rights.specs.declared.vocabulary.WordList.{WordList}
use Rattle.rights.specs.How.WordList.{in_list, Adds}
use Rattle.rights.proofs.LabelLaws.{same_sym, same_left, same_right, same-order, order_flip, order-through, order_same, order_other}
use Rattle.rights.proofs.BoolLaws.{both_ways, or_left, or_right, or_split}
use Rattle.rights.proofs.ListLaws.{by_case}

-- A label's number

module _ (f : ℕ → List ℕ) where
  pub number_low : (n : ℕ) (x : List ℕ) → word_number f n x ≤ n
  unfolding word_number
  number_low zero x = omega arith
  number_low (suc n) x = by_case (same_label (f n) x) (λ e. rw e (omega arith)) (λ e. rw e (omega (arith, number_low n x)))

  pub number_word : (n i : ℕ) (x : List ℕ) → word_number f n x ≡ suc i → (i < n) × (same_label (f i) x ≡ true)
  unfolding word_number
  number_word zero i x e = absurd (omega arith)
  number_word (suc n) i x e =
      by_case (same_label (f n) x)
      (λ d. let z : n ≡ i = omega (arith, sym (rw d at e)) in (omega arith, rw z at d))
      (λ d. let w = number_word n i x (rw d at e) in (omega (arith, w.0), w.1))

  pub number_there : (n i : ℕ) (x : List ℕ) → i < n → same_label (f i) x ≡ true → 0 < word_number f n x
  unfolding word_number
  number_there zero i x h e = absurd (omega arith)
  number_there (suc n) i x h e =
      by_case (same_label (f n) x)
      (λ d. rw d (omega arith))
      (λ d. rw d
      (⊎_elim
      (λ (z : i ≡ n). absurd (let w : same_label (f n) x ≡ true = rw z at e in let v : ◌≡◌ {A = ℕ} 0 1 = cc in omega arith))
      (λ (z : i < n). number_there n i x z e)
      (eq-or-lt_of_le (le_of_suc-le-suc h))))

  pub number-none : (n : ℕ) (x : List ℕ) → ((i : ℕ) → i < n → same_label (f i) x ≡ false) → word_number f n x ≡ 0
  unfolding word_number
  number-none zero x h = refl
  number-none (suc n) x h = rw (h n (omega arith)) (number-none n x (λ i l. h i (omega arith)))

  number_same : (n : ℕ) (x y : List ℕ) → same_label x y ≡ true → word_number f n x ≡ word_number f n y
  unfolding word_number
  number_same zero x y e = refl
  number_same (suc n) x y e = rw (same_right x y e (f n), number_same n x y e)

  -- a label has a word's number exactly if it is that word
  pub number_decides : (n : ℕ) (x w : List ℕ) → 0 < word_number f n w → eqb (word_number f n x) (word_number f n w) ≡ same_label x w
  number_decides n x w h =
      by_case (same_label x w)
      (λ e. rw e (eq-eqb _ _ (number_same n x w e)))
      (λ e. rw e
      (ne_eqb _ _
      (λ d. let z : word_number f n w ≡ suc (word_number f n w - 1) = omega arith in
      let i = word_number f n w - 1 in
      let v : same_label x w ≡ true = sym (same_left (f i) x (number_word n i x (d ∙ z)).1 w) ∙ (number_word n i w z).1 in
      let q : ◌≡◌ {A = ℕ} 0 1 = cc in omega arith)))

-- Sorted words

abbrev Ascending : (ℕ → List ℕ) → ℕ → Type 0
Ascending f n = (i j : ℕ) → i < j → j < n → label_order (f i) (f j) ≡ 0

flip_up : (x y : List ℕ) → label_order x y ≡ 0 → label_order y x ≡ 2
flip_up x y e = order_flip (length x ∷ folded_label x) (length y ∷ folded_label y) ∙ ap (λ (k : ℕ). 2 - k) e

flip_down : (x y : List ℕ) → label_order x y ≡ 2 → label_order y x ≡ 0
flip_down x y e = order_flip (length x ∷ folded_label x) (length y ∷ folded_label y) ∙ ap (λ (k : ℕ). 2 - k) e

through : (x y z : List ℕ) → label_order x y ≡ 0 → label_order y z ≡ 0 → label_order x z ≡ 0
through x y z = order-through (length x ∷ folded_label x) (length y ∷ folded_label y) (length z ∷ folded_label z)

module _ (f : ℕ → List ℕ) (n : ℕ) (up : Ascending f n) (x : List ℕ) where
  -- a word is found at one place alone
  pub number_found : (i : ℕ) → i < n → label_order (f i) x ≡ 1 → word_number f n x ≡ suc i
  number_found i h e =
      let pos = number_there f n i x h (order_same (f i) x e) in
      let k = word_number f n x - 1 in
      let z : word_number f n x ≡ suc k = omega arith in
      let w = number_word f n k x z in
      let same = same_left (f k) x w.1 (f i) ∙ same_sym x (f i) ∙ order_same (f i) x e in
      let one = same-order (f k) (f i) same in
      let two = same-order (f i) (f k) (same_sym (f i) (f k) ∙ same) in
      by_case (ltb k i)
      (λ l. absurd (omega (arith, up k i (ltb-true k i l) h)))
      (λ l. by_case (ltb i k) (λ m. absurd (omega (arith, up i k (ltb-true i k m) w.0))) (λ m. omega (arith, z, ltb-false k i l, ltb-false i k m)))

  abbrev Below : ℕ → Type 0
  Below low = (j : ℕ) → j < low → label_order (f j) x ≡ 0

  abbrev Above : ℕ → Type 0
  Above high = (j : ℕ) → high ≤ j → j < n → label_order (f j) x ≡ 2

  -- one step of the search: the word in the middle stands before the label, or behind it
  pub low_raised : (middle : ℕ) → middle < n → label_order (f middle) x ≡ 0 → Below (middle + 1)
  low_raised middle h e j l = ⊎_elim
      (λ (q : j ≡ middle). rw q e)
      (λ (q : j < middle). through (f j) (f middle) x (up j middle q h) e)
      (eq-or-lt_of_le (le_of_suc-le-suc (rw add-one at l)))

  pub high_lowered : (middle : ℕ) → label_order (f middle) x ≡ 2 → Above middle
  high_lowered middle e j l m = ⊎_elim
      (λ (q : middle ≡ j). rw q at e)
      (λ (q : middle < j). flip_up x (f j) (through x (f middle) (f j) (flip_down (f middle) x e) (up middle j q m)))
      (eq-or-lt_of_le l)

  -- a label between the words is none of them
  pub number_missing : (i : ℕ) → Below i → Above i → word_number f n x ≡ 0
  number_missing i b a =
      number-none f n x
      (λ j h. by_case (ltb j i)
      (λ l. order_other (f j) x (λ d. omega (arith, d, b j (ltb-true j i l))))
      (λ l. order_other (f j) x (λ d. omega (arith, d, a j (ltb-false j i l) h))))

pub order_most : (x y : List ℕ) → byte_order x y ≤ 2
order_most x y = omega (arith, order_flip y x)

-- A word more

module _ (p ws ws' : List ℕ) (n i at : ℕ) (k : Words p ws n) (room : n < 2112) (text : Text p at) (put : Inserted ws ws' n i at) (within : i ≤ n) where
  abbrev x : List ℕ
  x = label (rec_at p at)

  -- a place among the new words: before the new one, at it, or behind it
  place : (C : ℕ → Type 0) → ((j : ℕ) → j < i → C j) → C i → ((j : ℕ) → i ≤ j → j < n → C (j + 1)) → (j : ℕ) → j < n + 1 → C j
  place C low here high j h =
      by_case (ltb j i)
      (λ l. low j (ltb-true j i l))
      (λ l. ⊎_elim
      (λ (z : i ≡ j). subst C z here)
      (λ (z : i < j). let e : (j - 1) + 1 ≡ j = omega arith in subst C e (high (j - 1) (omega arith) (omega arith)))
      (eq-or-lt_of_le (ltb-false j i l)))

  word_low : (j : ℕ) → j < i → listed_word p ws' j ≡ listed_word p ws j
  word_low j h = ap (λ (z : ℕ). label (rec_at p z)) (put.low j h)

  word_here : listed_word p ws' i ≡ x
  word_here = ap (λ (z : ℕ). label (rec_at p z)) put.here

  word_high : (j : ℕ) → i ≤ j → j < n → listed_word p ws' (j + 1) ≡ listed_word p ws j
  word_high j h l = ap (λ (z : ℕ). label (rec_at p z)) (put.high j h l)

  module _ (below : (j : ℕ) → j < i → label_order (listed_word p ws j) x ≡ 0) (above : (j : ℕ) → i ≤ j → j < n → label_order (listed_word p ws j) x ≡ 2) where
    abbrev up : ℕ → ℕ → Type 0
    up a b = label_order (listed_word p ws' a) (listed_word p ws' b) ≡ 0

    sorted_more : (a b : ℕ) → a < b → b < n + 1 → up a b
    sorted_more a b h l =
        place (λ (j : ℕ). (a : ℕ) → a < j → up a j)
        (λ j m a q. rw (word_low a (omega arith), word_low j m) (k.sorted a j q (omega arith)))
        (λ a q. rw (word_low a q, word_here) (below a q))
        (λ j m r a q. place (λ (a : ℕ). a < j + 1 → up a (j + 1))
        (λ a s t. rw (word_low a s, word_high j m r) (k.sorted a j (omega arith) r))
        (λ t. rw (word_here, word_high j m r) (flip_down (listed_word p ws j) x (above j m r)))
        (λ a s v t. rw (word_high a s v, word_high j m r) (k.sorted a j (omega arith) r))
        a (omega arith) q)
        b l a h

    pub words_more : Words p ws' (n + 1)
    words_more = record {
      long = put.same ∙ k.long;
      few = omega arith;
      texts = place (λ (j : ℕ). Text p (get_or ws' j 0))
          (λ j h. rw (put.low j h) (k.texts j (omega arith)))
          (rw put.here text)
          (λ j h l. rw (put.high j h l) (k.texts j l));
      sorted = sorted_more;
    }

    -- a label is a word now if it was one or is the new one
    pub holds_more : (w : List ℕ) → is_listed p ws' (n + 1) w ≡ is_listed p ws n w || same_label w x
    holds_more w =
        both_ways _ _
        (λ h. let j = listed_number p ws' (n + 1) w - 1 in
        let pos = ltb-true 0 (listed_number p ws' (n + 1) w) h in
        let o = number_word (listed_word p ws') (n + 1) j w (omega (arith, pos)) in
        place (λ (j : ℕ). same_label (listed_word p ws' j) w ≡ true → is_listed p ws n w || same_label w x ≡ true)
        (λ j l e. or_left _ _ (lt-ltb 0 _ (number_there (listed_word p ws) n j w (omega arith) (rw (word_low j l) at e))))
        (λ e. or_right (is_listed p ws n w) _ (same_sym w x ∙ (rw word_here at e)))
        (λ j l m e. or_left _ _ (lt-ltb 0 _ (number_there (listed_word p ws) n j w m (rw (word_high j l m) at e))))
        j o.0 o.1)
        (λ h. or_split (is_listed p ws n w) (same_label w x) h
        (λ e. let j = listed_number p ws n w - 1 in
        let pos = ltb-true 0 (listed_number p ws n w) e in
        let o = number_word (listed_word p ws) n j w (omega (arith, pos)) in
        by_case (ltb j i)
        (λ l. lt-ltb 0 _ (number_there (listed_word p ws') (n + 1) j w (omega (arith, o.0)) (rw (word_low j (ltb-true j i l)) o.1)))
        (λ l. lt-ltb 0 _ (number_there (listed_word p ws') (n + 1) (j + 1) w (omega (arith, o.0)) (rw (word_high j (ltb-false j i l) o.0) o.1))))
        (λ e. lt-ltb 0 _ (number_there (listed_word p ws') (n + 1) i w (omega arith) (rw word_here (same_sym x w ∙ e)))))

-- a word that is there already
pub holds_old : (p ws : List ℕ) (n i : ℕ) (x : List ℕ) → i < n → same_label (listed_word p ws i) x ≡ true → (w : List ℕ) → is_listed p ws n w ≡ is_listed p ws n w || same_label w x
holds_old p ws n i x h e w =
    by_case (same_label w x)
    (λ d. let b : is_listed p ws n w ≡ true = lt-ltb 0 _ (number_there (listed_word p ws) n i w h (same_right w x d (listed_word p ws i) ∙ e)) in b ∙ sym (or_left (is_listed p ws n w) (same_label w x) b))
    (λ d. rw d (sym (or-false _)))

pub adds_none : (w : WordList) (k : ℕ) (f : List ℕ → Bool) → ((x : List ℕ) → f x ≡ false) → Adds w w k f
adds_none w k f e = record { policy = refl; few = omega arith; holds = λ x. rw (e x) (sym (or-false _)) }

-- and what is added after that; what it is may lean on the policy, which stays
pub adds_then : (w w' w'' : WordList) (k m n : ℕ) (f h : List ℕ → Bool) (g : List ℕ → List ℕ → Bool) → ((x : List ℕ) → h x ≡ f x || g w.policy.now x) → k + m ≤ n
    → Adds w w' k f → Adds w' w'' m (g w'.policy.now) → Adds w w'' n h
adds_then w w' w'' k m n f h g e l a b = record {
  policy = b.policy ∙ a.policy;
  few = omega (arith, a.few, b.few);
  holds = λ x. b.holds x ∙ ap (λ (v : Bool). v || g w'.policy.now x) (a.holds x) ∙ or_assoc (in_list w x) (f x) (g w'.policy.now x)
      ∙ ap (λ (p : List ℕ). in_list w x || (f x || g p x)) a.policy ∙ ap (λ (v : Bool). in_list w x || v) (sym (e x));
}

pub adds_alike : (w w' : WordList) (k n : ℕ) (f g : List ℕ → Bool) → ((x : List ℕ) → f x ≡ g x) → k ≤ n → Adds w w' k f → Adds w w' n g
adds_alike w w' k n f g e l a = record { policy = a.policy; few = omega (arith, a.few); holds = λ x. a.holds x ∙ ap (λ (v : Bool). in_list w x || v) (e x) }

-- of no words none is one
pub none_word : (p ws x : List ℕ) → is_listed p ws 0 x ≡ false
unfolding word_number
none_word p ws x = refl

no_word : (w : WordList) (x : List ℕ) → w.count ≡ 0 → in_list w x ≡ false
no_word w x e = rw e (none_word w.policy.now w.places x)

-- what is in a list that was empty, of the policy p
module _ (w w' : WordList) (k : ℕ) (p : List ℕ) (f : List ℕ → List ℕ → Bool) (e : w.policy.now ≡ p) (z : w.count ≡ 0) (a : Adds w w' k (f w.policy.now)) where
  pub adds_first : (x : List ℕ) → in_list w' x ≡ f p x
  adds_first x = a.holds x ∙ ap (λ (v : Bool). v || f w.policy.now x) (no_word w x z) ∙ ap (λ (q : List ℕ). f q x) e

  pub words_first : Words p w'.places w'.count
  words_first = subst (λ (q : List ℕ). Words q w'.places w'.count) (a.policy ∙ e) w'.sorted

  pub listed_first : (x : List ℕ) → is_listed p w'.places w'.count x ≡ f p x
  listed_first x = ap (λ (q : List ℕ). is_listed q w'.places w'.count x) (sym (a.policy ∙ e)) ∙ adds_first x

  module _ (w'' : WordList) (m : ℕ) (g : List ℕ → List ℕ → Bool) (b : Adds w' w'' m (g w'.policy.now)) where
    pub words_second : Words p w''.places w''.count
    words_second = subst (λ (q : List ℕ). Words q w''.places w''.count) (b.policy ∙ a.policy ∙ e) w''.sorted

    pub listed_second : (x : List ℕ) → is_listed p w''.places w''.count x ≡ f p x || g p x
    listed_second x =
        ap (λ (q : List ℕ). is_listed q w''.places w''.count x) (sym (b.policy ∙ a.policy ∙ e)) ∙ b.holds x
        ∙ ap (λ (v : Bool). v || g w'.policy.now x) (adds_first x) ∙ ap (λ (q : List ℕ). f p x || g q x) (a.policy ∙ e)
