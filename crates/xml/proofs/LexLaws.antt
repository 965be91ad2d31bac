-- One token at the front of the bytes: what stands there where one is read, and that it is read where it stands. Assumes nothing.
use Rattle.std.specs.Prelude.{Option, Some, None}
use Prim.Native.Nat.{ℕ, ◌+◌, ◌≤◌, ◌<◌}
use mathlib.Core.Path.{◌≡◌, refl, sym, ap, ◌∙◌}
use mathlib.Core.List.{List, [], ◌∷◌, ◌++◌}
use mathlib.Core.Bool.{Bool, true, false, cond, ◌&&◌}
use native.Mathlib.Omega.{arith}
use native.Mathlib.Nat.{zero-add}
use lib.Dec.{eqb, leb}
use lib.ListN.{length, take, drop}
use lib.Seq.{take-append_seam}
use borrow.Author.Tests.{ne_eqb, eqb-true, leb-true}
use Rattle.rights.specs.Bytes.{byte_at, all, run}
use Rattle.rights.specs.Labels.{label_byte}
use Rattle.rights.specs.PathReader.{run_at}
use Rattle.rights.proofs.ListLaws.{by_case}
use Rattle.rights.proofs.PathTexts.{and_left, and_right, cond_elim, Reads, reads_byte, reads_take, run-all, run_length, run_over, byte_after, byte_here}
use Rattle.rights.proofs.TextLaws.{drop-take}
use Rattle.forms.specs.Part.{label_end}
use Rattle.forms.specs.Tree.{◌and_then◌}
use Rattle.forms.specs.TreeText.{GoodLabel}
use Rattle.forms.proofs.TreeTextLaws.{drop_over, label_reads}
use Rattle.xml.specs.Document.{blank_byte, name_start, Blanks, GoodName}
use Rattle.xml.specs.How.Tokens.{Token, opens, closes, empty, text, Lexed, token, end, bad, closing, opening, texting, lex_after}

-- What stands at the front

-- a tag as it is written, and what follows it
abbrev pub write_tag : Token → List ℕ → List ℕ
write_tag (opens n) r = 60 ∷ (n ++ (62 ∷ r))
write_tag (closes n) r = 60 ∷ 47 ∷ (n ++ (62 ∷ r))
write_tag (empty n) r = 60 ∷ (n ++ (47 ∷ 62 ∷ r))
write_tag (text l) r = r

-- a text is no tag
abbrev pub GoodTag : Token → Type 0
GoodTag (opens n) = GoodName n
GoodTag (closes n) = GoodLabel n
GoodTag (empty n) = GoodName n
GoodTag (text l) = ⊥

-- a label, blanks, and then a tag
pub record TextAt (w l : List ℕ) (j : ℕ) : Type 0 where
  pub good : GoodLabel l
  pub blanks : List ℕ
  pub blank : Blanks blanks
  pub tag : byte_at (drop j w) 0 ≡ 60
  pub there : w ≡ l ++ (blanks ++ drop j w)

pub record TagAt (w : List ℕ) (x : Token) (j : ℕ) : Type 0 where
  pub good : GoodTag x
  pub there : w ≡ write_tag x (drop j w)

abbrev pub TokenAt : List ℕ → Token → ℕ → Type 0
TokenAt w (opens n) j = TagAt w (opens n) j
TokenAt w (closes n) j = TagAt w (closes n) j
TokenAt w (empty n) j = TagAt w (empty n) j
TokenAt w (text l) j = TextAt w l j

-- What is read stands there

record LabelAt (s : List ℕ) (at e : ℕ) : Type 0 where
  label : List ℕ
  good : GoodLabel label
  there : Reads s at label e
  named : drop at (take e s) ≡ label

label_there : (s : List ℕ) (at e : ℕ) → label_end s at ≡ Some e → LabelAt s at e
unfolding label_end
label_there s at e =
    let n : ℕ = run_at label_byte s at in
    cond_elim (leb 1 n && leb n 24)
    (λ w p.
    let z : at + n ≡ e = cc in
    let q = run_length label_byte (drop at s) in
    record {
      label = take n (drop at s);
      good = (rw q (leb-true 1 n (and_left (leb 1 n) (leb n 24) w)), rw q (leb-true n 24 (and_right (leb 1 n) (leb n 24) w)), run-all label_byte (drop at s));
      there = rw (← z) (reads_take s at n);
      named = rw (← z) (drop-take at n s);
    })
    (λ w p. absurd (let z : ◌≡◌ {A = ℕ} 0 1 = cc in omega arith))

-- what holds in each case of a test, and of a label that is read or not
cond-is : {A : Type 0} (P : A → Type 0) {x y : A} (b : Bool) → (b ≡ true → P x) → (b ≡ false → P y) → P (cond b x y)
cond-is P true f g = f refl
cond-is P false f g = g refl

after_is : {A : Type 0} (P : A → Type 0) {b : A} (f : ℕ → A) (r : Option ℕ) → ((e : ℕ) → r ≡ Some e → P (f e)) → P b → P (r and_then (b, f))
after_is P f (Some e) h g = h e refl
after_is P f None h g = g

-- What is read says of the bytes after k blanks: a token stands there, m bytes with the blanks, or no byte is left
abbrev pub Says : ℕ → List ℕ → Lexed → Type 0
Says k w (token x m) = (j : ℕ) × (m ≡ k + j) × TokenAt w x j
Says k w end = w ≡ []
Says k w bad = Unit {0}

-- a byte, and then what stands after it
byte_then : (w v : List ℕ) (i b : ℕ) → 0 < b → byte_at w i ≡ b → drop (i + 1) w ≡ v → drop i w ≡ b ∷ v
byte_then w v i b p e q = reads_byte w i b p e ∙ ap (λ (u : List ℕ). b ∷ u) q

label_then : {w : List ℕ} {i e : ℕ} (v : List ℕ) (y : LabelAt w i e) → drop e w ≡ v → drop i w ≡ y.label ++ v
label_then v y q = y.there ∙ ap (λ (u : List ℕ). y.label ++ u) q

module _ (k : ℕ) (w : List ℕ) where
  closing_there : byte_at w 0 ≡ 60 → byte_at w 1 ≡ 47 → Says k w (closing k w)
  closing_there a b = after_is (Says k w) _ (label_end w 2) (λ e l. cond-is (Says k w) (eqb (byte_at w e) 62) (λ c. (e + 1, refl, found e (label_there w 2 e l) (eqb-true _ _ c))) (λ _. tt)) tt
    where
      found : (e : ℕ) → LabelAt w 2 e → byte_at w e ≡ 62 → TagAt w (closes (drop 2 (take e w))) (e + 1)
      found e y c = rw y.named record {
        good = y.good;
        there = byte_then w _ 0 60 (omega arith) a (byte_then w _ 1 47 (omega arith) b (label_then _ y (byte_then w _ e 62 (omega arith) c refl)));
      }

  opening_there : byte_at w 0 ≡ 60 → Says k w (opening k w)
  opening_there a =
      after_is (Says k w) _ (label_end w 1)
      (λ e l. cond-is (Says k w) (name_start (byte_at w 1))
      (λ s. cond-is (Says k w) (eqb (byte_at w e) 62)
      (λ c. (e + 1, refl, opened e (label_there w 1 e l) s (eqb-true _ _ c)))
      (λ _. cond-is (Says k w) (eqb (byte_at w e) 47 && eqb (byte_at w (e + 1)) 62)
      (λ c. (e + 2, refl, emptied e (label_there w 1 e l) s (eqb-true _ _ (and_left _ (eqb (byte_at w (e + 1)) 62) c)) (eqb-true _ _ (and_right (eqb (byte_at w e) 47) _ c))))
      (λ _. tt)))
      (λ _. tt))
      tt
    where
      good : (e : ℕ) (y : LabelAt w 1 e) → name_start (byte_at w 1) ≡ true → GoodName y.label
      good e y s = (y.good, start y.label y.good.0 y.there)
        where
          start : (l : List ℕ) → 1 ≤ length l → drop 1 w ≡ l ++ drop e w → name_start (byte_at l 0) ≡ true
          start [] p q = absurd (omega arith)
          start (b ∷ l) p q = let z : byte_at w 1 ≡ b = rw (byte_here w 1, q) in rw z at s

      opened : (e : ℕ) → LabelAt w 1 e → name_start (byte_at w 1) ≡ true → byte_at w e ≡ 62 → TagAt w (opens (drop 1 (take e w))) (e + 1)
      opened e y s c = rw y.named record {
        good = good e y s;
        there = byte_then w _ 0 60 (omega arith) a (label_then _ y (byte_then w _ e 62 (omega arith) c refl));
      }

      emptied : (e : ℕ) → LabelAt w 1 e → name_start (byte_at w 1) ≡ true → byte_at w e ≡ 47 → byte_at w (e + 1) ≡ 62 → TagAt w (empty (drop 1 (take e w))) (e + 2)
      emptied e y s c d = let z : e + 1 + 1 ≡ e + 2 = omega arith in rw y.named record {
        good = good e y s;
        there = byte_then w _ 0 60 (omega arith) a (label_then _ y (byte_then w _ e 47 (omega arith) c (rw z at (byte_then w _ (e + 1) 62 (omega arith) d refl))));
      }

  texting_there : Says k w (texting k w)
  texting_there =
      after_is (Says k w) _ (label_end w 0)
      (λ e l. cond-is (Says k w) (eqb (byte_at w (e + run blank_byte (drop e w))) 60)
      (λ c. (e + run blank_byte (drop e w), refl, found e (label_there w 0 e l) (eqb-true _ _ c)))
      (λ _. tt))
      tt
    where
      found : (e : ℕ) → LabelAt w 0 e → byte_at w (e + run blank_byte (drop e w)) ≡ 60 → TextAt w (take e w) (e + run blank_byte (drop e w))
      found e y c = rw y.named record {
        good = y.good;
        blanks = take (run blank_byte (drop e w)) (drop e w);
        blank = run-all blank_byte (drop e w);
        tag = sym (byte_here w (e + run blank_byte (drop e w))) ∙ c;
        there = label_then _ y (reads_take w e (run blank_byte (drop e w)));
      }

pub lexed_there : (k : ℕ) (w : List ℕ) → Says k w (lex_after k w)
unfolding lex_after
lexed_there k [] = refl
lexed_there k (b ∷ s) =
    cond-is (Says k (b ∷ s)) (eqb b 60)
    (λ a. cond-is (Says k (b ∷ s)) (eqb (byte_at s 0) 47) (λ c. closing_there k (b ∷ s) (eqb-true b 60 a) (eqb-true _ _ c)) (λ _. opening_there k (b ∷ s) (eqb-true b 60 a)))
    (λ _. texting_there k (b ∷ s))

-- What stands there is read

-- where a token is read at the front, what follows it
abbrev pub Lexes : ℕ → List ℕ → Token → List ℕ → Type 0
Lexes k w x r = (j : ℕ) × (lex_after k w ≡ token x (k + j)) × (drop j w ≡ r)

front_same : (l r : List ℕ) → 1 ≤ length l → byte_at (l ++ r) 0 ≡ byte_at l 0
front_same [] r p = absurd (omega arith)
front_same (b ∷ l) r p = refl

pub front-label : (l r : List ℕ) → GoodLabel l → label_byte (byte_at (l ++ r) 0) ≡ true
unfolding all
front-label [] r g = absurd (omega (arith, g.0))
front-label (b ∷ l) r g = and_left (label_byte b) (all label_byte l) g.2

-- a byte that no label has
other : (b c : ℕ) → label_byte c ≡ false → label_byte b ≡ true → eqb b c ≡ false
other b c p q = ne_eqb b c (λ e. let z : ◌≡◌ {A = ℕ} 0 1 = cc in omega arith)

pub label_not_blank : (b : ℕ) → label_byte b ≡ true → blank_byte b ≡ false
unfolding label_byte blank_byte
label_not_blank b q = rw (other b 32 refl q, other b 9 refl q, other b 13 refl q, other b 10 refl q)

module _ (k : ℕ) (n r : List ℕ) where
  closes_lexes : GoodLabel n → Lexes k (60 ∷ 47 ∷ (n ++ (62 ∷ r))) (closes n) r
  unfolding lex_after label_byte
  closes_lexes g =
      let w : List ℕ = 60 ∷ 47 ∷ (n ++ (62 ∷ r)) in
      let e = label_reads w 2 n (62 ∷ r) g refl refl in
      let c = byte_after w 2 n (62 ∷ r) refl in
      let d : drop 2 (take (2 + length n) w) ≡ n = drop-take 2 (length n) w ∙ take-append_seam n (62 ∷ r) in
      (2 + length n + 1, rw (e, c, d), drop_over w (2 + length n) (62 ∷ []) r (drop_over w 2 n (62 ∷ r) refl))

  module _ (g : GoodName n) where
    not-closes : (v : List ℕ) → eqb (byte_at (n ++ v) 0) 47 ≡ false
    unfolding label_byte
    not-closes v = other (byte_at (n ++ v) 0) 47 refl (front-label n v g.0)

    name-starts : (v : List ℕ) → name_start (byte_at (n ++ v) 0) ≡ true
    name-starts v = rw (front_same n v g.0.0) g.1

    opens-lexes : Lexes k (60 ∷ (n ++ (62 ∷ r))) (opens n) r
    unfolding lex_after label_byte
    opens-lexes =
        let v : List ℕ = 62 ∷ r in
        let w : List ℕ = 60 ∷ (n ++ v) in
        let e = label_reads w 1 n v g.0 refl refl in
        let c = byte_after w 1 n v refl in
        let d : drop 1 (take (1 + length n) w) ≡ n = drop-take 1 (length n) w ∙ take-append_seam n v in
        (1 + length n + 1, rw (not-closes v, e, name-starts v, c, d), drop_over w (1 + length n) (62 ∷ []) r (drop_over w 1 n v refl))

    empty-lexes : Lexes k (60 ∷ (n ++ (47 ∷ 62 ∷ r))) (empty n) r
    unfolding lex_after label_byte
    empty-lexes =
        let v : List ℕ = 47 ∷ 62 ∷ r in
        let w : List ℕ = 60 ∷ (n ++ v) in
        let e = label_reads w 1 n v g.0 refl refl in
        let c = byte_after w 1 n v refl in
        let o = drop_over w 1 n v refl in
        let b = byte_after w (1 + length n) (47 ∷ []) (62 ∷ r) o in
        let d : drop 1 (take (1 + length n) w) ≡ n = drop-take 1 (length n) w ∙ take-append_seam n v in
        (1 + length n + 2, rw (not-closes v, e, name-starts v, c, b, d), drop_over w (1 + length n) (47 ∷ 62 ∷ []) r o)

pub tag_lexes : (k : ℕ) (x : Token) (r : List ℕ) → GoodTag x → Lexes k (write_tag x r) x r
tag_lexes k (opens n) r g = opens-lexes k n r g
tag_lexes k (closes n) r g = closes_lexes k n r g
tag_lexes k (empty n) r g = empty-lexes k n r g
tag_lexes k (text l) r g = absurd g

not-label : (c r : List ℕ) → Blanks c → byte_at r 0 ≡ 60 → label_byte (byte_at (c ++ r) 0) ≡ false
unfolding all label_byte
not-label [] r h t = rw t
not-label (b ∷ c) r h t = by_case (label_byte b) (λ e. absurd (let q = label_not_blank b e in let p = and_left (blank_byte b) (all blank_byte c) h in let z : ◌≡◌ {A = ℕ} 0 1 = cc in omega arith)) (λ e. e)

pub text_lexes : (k : ℕ) (l c r : List ℕ) → GoodLabel l → Blanks c → byte_at r 0 ≡ 60 → Lexes k (l ++ (c ++ r)) (text l) r
unfolding lex_after label_byte blank_byte all
text_lexes k [] c r g h t = absurd (omega (arith, g.0))
text_lexes k (b ∷ l) c r g h t =
    let w : List ℕ = (b ∷ l) ++ (c ++ r) in
    let a = other b 60 refl (front-label (b ∷ l) [] g) in
    let n : ℕ = 0 + length (b ∷ l) in
    let e = label_reads w 0 (b ∷ l) (c ++ r) g refl (not-label c r h t) in
    let o : drop n w ≡ c ++ r = drop_over w 0 (b ∷ l) (c ++ r) refl in
    let m : run blank_byte (drop n w) ≡ length c = rw o (run_over blank_byte c r h (rw t)) in
    let i = byte_after w n c r o in
    let d : take n w ≡ b ∷ l = rw (zero-add (length (b ∷ l))) (take-append_seam (b ∷ l) (c ++ r)) in
    (n + length c, rw (a, e, m, i, t, d), drop_over w n c r o)
