-- Words by their letters and by their numbers. Assumes nothing.
use Prim.Native.Nat.{ℕ, zero, suc, ◌+◌, ◌-◌, ◌*◌, ◌^◌, ◌≤◌, ◌<◌}
use mathlib.Core.Path.{◌≡◌, refl, sym, ap, ◌∙◌}
use mathlib.Core.List.{List, [], ◌∷◌}
use mathlib.Core.Bool.{Bool, true, false, ◌&&◌, ◌||◌}
use mathlib.Core.Logic.{◌⊎◌, inl, inr}
use native.Mathlib.Nat.{mul_left_comm, mul-le-mul_right, pow-succ', pow-le-pow_right}
use native.Mathlib.Omega.{arith}
use lib.Dec.{eqb, leb, ltb}
use lib.ListN.{length, get_or, take, drop, length-drop}
use lib.Seq.{get_or-drop}
use borrow.Author.Tests.{eqb-true, eqb-false, eq-eqb, ne_eqb, leb-true, leb-false, ltb-true, ltb-false, lt-ltb}
use Rattle.rights.specs.Bytes.{within, all}
use Rattle.rights.specs.Labels.{label_byte}
use Rattle.rights.specs.PathReader.{run_at}
use Rattle.rights.proofs.ListLaws.{by_case}
use Rattle.rights.proofs.PathTexts.{and_left, and_right, run-all, run_length}
use Rattle.forms.specs.Word.{signs, rights, same_text, among, label_bytes_at, sign_at, right_at}
use Rattle.forms.specs.How.Codes.{text_number, text_number_at, by_number, next_weight}

-- The number of a text, letter by letter

letter_more : (xs : List ℕ) (k : ℕ) → k < length xs → text_number (take (suc k) xs) ≡ text_number (take k xs) + get_or xs k 0 * 256 ^ k
unfolding text_number
letter_more [] k l = absurd (omega arith)
letter_more (x ∷ xs) zero l = omega arith
letter_more (x ∷ xs) (suc k) l =
    omega (arith, letter_more xs k (omega arith), ap (λ (z : ℕ). get_or xs k 0 * z) (pow-succ' 256 k) ∙ mul_left_comm (get_or xs k 0) 256 (256 ^ k))

pub number_letter : (s : List ℕ) (at i : ℕ) → at ≤ i → i < length s → text_number (take (i + 1 - at) (drop at s)) ≡ text_number (take (i - at) (drop at s)) + get_or s i 0 * 256 ^ (i - at)
number_letter s at i l h =
    let z : i + 1 - at ≡ suc (i - at) = omega arith in
    let y : at + (i - at) ≡ i = omega arith in
    rw z (letter_more (drop at s) (i - at) (omega (arith, length-drop at s)) ∙ ap (λ (b : ℕ). text_number (take (i - at) (drop at s)) + b * 256 ^ (i - at)) (get_or-drop at s (i - at) 0 ∙ ap (λ (j : ℕ). get_or s j 0) y))

pub letter_fits : (n b w : ℕ) → n < w → b < 256 → n + b * w < 256 * w
letter_fits n b w h l = omega (arith, mul-le-mul_right w (let z : b ≤ 255 = omega arith in z))

pub next_fits : (at i : ℕ) {n b m : ℕ} → at ≤ i → m ≡ n + b * 256 ^ (i - at) → n < 256 ^ (i - at) → b < 256 → m < 256 ^ (i + 1 - at)
next_fits at i {n} {b} {m} l e h s =
    let z : i + 1 - at ≡ suc (i - at) = omega arith in
    rw z (omega (arith, e, letter_fits n b (256 ^ (i - at)) h s, pow-succ' 256 (i - at)))

-- letter i of a word, counted from `at`, has the weight w: none but the first eight have one
abbrev pub Weight : ℕ → ℕ → ℕ → Type 0
Weight at i w = (i < at + 8 → w ≡ 256 ^ (i - at)) × (i ≡ at + 8 → w ≡ 0)

module _ (at i w : ℕ) (l : at ≤ i) (m : i ≤ at + 8) (h : Weight at i w) where
  pub weightless : w ≡ 0 → 0 < 256 ^ (i - at) → i ≡ at + 8
  weightless z p = by_case (ltb i (at + 8)) (λ t. absurd (omega (arith, h.0 (ltb-true i (at + 8) t)))) (λ t. omega (arith, ltb-false i (at + 8) t))

  pub weighed : (w ≡ 0 → ⊥) → i < at + 8
  weighed n = by_case (ltb i (at + 8)) (ltb-true i (at + 8)) (λ t. absurd (n (h.1 (omega (arith, ltb-false i (at + 8) t)))))

  pub weight_most : i < at + 8 → w ≤ 256 ^ 7
  weight_most k = omega (arith, h.0 k, pow-le-pow_right {n = 256} (omega arith) {i = i - at} {j = 7} (omega arith))

  pub next_weight_is : i < at + 8 → Weight at (i + 1) (next_weight w)
  next_weight_is k = (
    λ t.
        let e = h.0 k in
        let z : i + 1 - at ≡ suc (i - at) = omega arith in
        rw (e, lt-ltb (256 ^ (i - at)) (256 ^ 7) (below t), z) (omega (arith, pow-succ' 256 (i - at))),
    λ t.
        let e = h.0 k in
        let z : i - at ≡ 7 = omega arith in
        rw (e, z),
  )
    where
      below : i + 1 < at + 8 → 256 ^ (i - at) < 256 ^ 7
      below t = omega (arith, pow-le-pow_right {n = 256} (omega arith) {i = suc (i - at)} {j = 7} (omega arith), pow-succ' 256 (i - at), pow_pos (i - at))
        where
          pow_pos : (k : ℕ) → 0 < 256 ^ k
          pow_pos zero = omega arith
          pow_pos (suc k) = omega (arith, pow-succ' 256 k, pow_pos k)

-- A label byte is 45 to 122

or_case : {C : Type 0} (a b : Bool) → (a ≡ true → C) → (b ≡ true → C) → a || b ≡ true → C
or_case true b f g e = f refl
or_case false b f g e = g e

pub label_range : (x : ℕ) → label_byte x ≡ true → (45 ≤ x) × (x ≤ 122)
unfolding label_byte
label_range x =
    or_case (within 97 122 x) _ (between 97 122 (omega arith) (omega arith))
    (or_case (within 65 90 x) _ (between 65 90 (omega arith) (omega arith))
    (or_case (within 48 57 x) _ (between 48 57 (omega arith) (omega arith))
    (or_case (eqb x 45) _ (λ e. let z = eqb-true x 45 e in (omega arith, omega arith))
    (or_case (eqb x 46) _ (λ e. let z = eqb-true x 46 e in (omega arith, omega arith)) (λ e. let z = eqb-true x 95 e in (omega arith, omega arith))))))
  where
    between : (lo hi : ℕ) → 45 ≤ lo → hi ≤ 122 → within lo hi x ≡ true → (45 ≤ x) × (x ≤ 122)
    between lo hi a b e =
        let l = leb-true lo x (and_left (leb lo x) (leb x hi) e) in
        let h = leb-true x hi (and_right (leb lo x) (leb x hi) e) in
        (omega arith, omega arith)

-- Two texts of label bytes have the same number exactly if they are equal

same_number : (xs ys : List ℕ) → all label_byte xs ≡ true → all label_byte ys ≡ true → eqb (text_number xs) (text_number ys) ≡ same_text xs ys
unfolding text_number same_text all
same_number [] [] a b = refl
same_number [] (y ∷ ys) a b =
    let r = label_range y (and_left (label_byte y) (all label_byte ys) b) in
    ne_eqb 0 (text_number ys * 256 + y) (λ z. omega arith)
same_number (x ∷ xs) [] a b =
    let r = label_range x (and_left (label_byte x) (all label_byte xs) a) in
    ne_eqb (text_number xs * 256 + x) 0 (λ z. omega arith)
same_number (x ∷ xs) (y ∷ ys) a b =
    let r = label_range x (and_left (label_byte x) (all label_byte xs) a) in
    let t = label_range y (and_left (label_byte y) (all label_byte ys) b) in
    let ih = same_number xs ys (and_right (label_byte x) (all label_byte xs) a) (and_right (label_byte y) (all label_byte ys) b) in
    by_case (eqb x y)
    (λ e. rw (e, ← ih) (by_case (eqb (text_number xs) (text_number ys))
    (λ q. rw q (eq-eqb (text_number xs * 256 + x) (text_number ys * 256 + y) (omega (arith, eqb-true x y e, eqb-true (text_number xs) (text_number ys) q))))
    (λ q. rw q (ne_eqb (text_number xs * 256 + x) (text_number ys * 256 + y) (λ z. eqb-false (text_number xs) (text_number ys) q (omega (arith, eqb-true x y e)))))))
    (λ e. rw e (ne_eqb (text_number xs * 256 + x) (text_number ys * 256 + y) (λ z. eqb-false x y e (omega arith))))

pub same_equal : (xs ys : List ℕ) → same_text xs ys ≡ true → xs ≡ ys
unfolding same_text
same_equal [] [] e = refl
same_equal [] (y ∷ ys) e = absurd (let z : ◌≡◌ {A = ℕ} 0 1 = cc in omega arith)
same_equal (x ∷ xs) [] e = absurd (let z : ◌≡◌ {A = ℕ} 0 1 = cc in omega arith)
same_equal (x ∷ xs) (y ∷ ys) e =
    let p = eqb-true x y (and_left (eqb x y) (same_text xs ys) e) in
    let q = same_equal xs ys (and_right (eqb x y) (same_text xs ys) e) in
    cc

pub same_self : (xs : List ℕ) → same_text xs xs ≡ true
unfolding same_text
same_self [] = refl
same_self (x ∷ xs) = rw (eq-eqb x x refl, same_self xs)

-- a text that the tables may hold: 1 to 8 label bytes
abbrev pub word_text : List ℕ → Bool
word_text w = leb 1 (length w) && (leb (length w) 8 && all label_byte w)

abbrev pub word_texts : {A : Type 0} → List (List ℕ × A) → Bool
word_texts [] = true
word_texts ((w, x) ∷ rest) = word_text w && word_texts rest

number-some : (v : List ℕ) → 1 ≤ length v → all label_byte v ≡ true → text_number v ≡ 0 → ⊥
unfolding text_number all
number-some [] l a z = omega arith
number-some (y ∷ ys) l a z = let r = label_range y (and_left (label_byte y) (all label_byte ys) a) in omega arith

same_at : (s : List ℕ) (at : ℕ) (w : List ℕ) → word_text w ≡ true → eqb (text_number_at s at) (text_number w) ≡ same_text (label_bytes_at s at) w
unfolding text_number_at
same_at s at w g =
    by_case (leb (run_at label_byte s at) 8)
    (λ e. rw e (same_number (label_bytes_at s at) w (run-all label_byte (drop at s)) good))
    (λ e. rw e (ne_eqb 0 (text_number w) (λ z. number-some w some good (sym z)) ∙ sym (long (leb-false _ _ e))))
  where
    some : 1 ≤ length w
    some = leb-true 1 (length w) (and_left (leb 1 (length w)) (leb (length w) 8 && all label_byte w) g)

    rest : leb (length w) 8 && all label_byte w ≡ true
    rest = and_right (leb 1 (length w)) (leb (length w) 8 && all label_byte w) g

    good : all label_byte w ≡ true
    good = and_right (leb (length w) 8) (all label_byte w) rest

    short : length w ≤ 8
    short = leb-true (length w) 8 (and_left (leb (length w) 8) (all label_byte w) rest)

    long : 8 < run_at label_byte s at → same_text (label_bytes_at s at) w ≡ false
    long h = by_case (same_text (label_bytes_at s at) w)
        (λ e. absurd (omega (arith, short, run_length label_byte (drop at s), ap length (same_equal (label_bytes_at s at) w e))))
        (λ e. e)

-- So looking a word up by its number is looking it up by its letters
pub numbered-among : {A : Type 0} (other : A) (t : List (List ℕ × A)) → word_texts t ≡ true → (s : List ℕ) (at : ℕ) → by_number other t (text_number_at s at) ≡ among other t (label_bytes_at s at)
unfolding by_number among
numbered-among other [] g s at = refl
numbered-among other ((w, x) ∷ rest) g s at =
    rw (same_at s at w (and_left (word_text w) (word_texts rest) g), numbered-among other rest (and_right (word_text w) (word_texts rest) g) s at)

pub sign_numbered : (s : List ℕ) (at : ℕ) → by_number 0 signs (text_number_at s at) ≡ sign_at s at
unfolding sign_at label_byte all
sign_numbered s at = numbered-among 0 signs refl s at

pub right_numbered : (s : List ℕ) (at : ℕ) → by_number 0 rights (text_number_at s at) ≡ right_at s at
unfolding right_at label_byte all
right_numbered s at = numbered-among 0 rights refl s at

-- What every entry of a table is to its text, what is looked up is to the text that it is looked up by
abbrev pub Every : {A : Type 0} → (A → List ℕ → Type 0) → List (List ℕ × A) → Type 0
Every R [] = Unit {0}
Every R ((w, x) ∷ rest) = R x w × Every R rest

pub among-is : {A : Type 0} (R : A → List ℕ → Type 0) (other : A) (t : List (List ℕ × A)) (s : List ℕ) → Every R t → R other s → R (among other t s) s
unfolding among
among-is R other [] s g o = o
among-is R other ((w, x) ∷ rest) s g o =
    by_case (same_text s w) (λ e. rw (e, same_equal s w e) g.0) (λ e. rw e (among-is R other rest s g.1 o))

pub among-or : {A : Type 0} (R : A → List ℕ → Type 0) (other : A) (t : List (List ℕ × A)) (s : List ℕ) → Every R t → (among other t s ≡ other) ⊎ R (among other t s) s
among-or {A} R other t s g = among-is (λ x w. (x ≡ other) ⊎ R x w) other t s (every t g) (inl refl)
  where
    every : (t : List (List ℕ × A)) → Every R t → Every (λ x w. (x ≡ other) ⊎ R x w) t
    every [] g = tt
    every ((w, x) ∷ rest) g = (inr g.0, every rest g.1)
