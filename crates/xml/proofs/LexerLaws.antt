-- Tokens by their places in the bytes, case by case, as the code goes through them. Assumes nothing.
use Rattle.std.specs.Prelude.{Some, None}
use Prim.Native.Nat.{ℕ, suc, ◌+◌, ◌-◌, ◌≤◌, ◌<◌}
use mathlib.Core.Path.{◌≡◌, sym, ap, ◌∙◌}
use mathlib.Core.List.{List}
use mathlib.Core.Bool.{Bool, true, false, ◌&&◌}
use native.Mathlib.Omega.{arith}
use lib.Dec.{leb, eqb}
use lib.ListN.{length, take, drop, drop_of_length-le}
use lib.Seq.{drop-cons, drop-drop, get_or-drop}
use borrow.Author.Tests.{leb-true, eqb-true, eq-eqb, ne_eqb}
use Rattle.rights.specs.Bytes.{run, byte_at}
use Rattle.rights.specs.Labels.{label_byte}
use Rattle.rights.specs.PathReader.{run_at}
use Rattle.rights.specs.How.Reading.{Ends}
use Rattle.rights.proofs.ListLaws.{by_case}
use Rattle.rights.proofs.TableLaws.{both}
use Rattle.rights.proofs.PathLaws.{inside}
use Rattle.rights.proofs.TextLaws.{drop-take}
use Rattle.forms.specs.Part.{label_end}
use Rattle.xml.specs.Document.{blank_byte, name_start}
use Rattle.xml.specs.How.Tokens.{Lexed, bad, closing, opening, texting, lex_after, lex}
use Rattle.xml.specs.How.Lexer.{between, Spot, Placed, LexedAs, LexedAt}
use Rattle.xml.specs.declared.lexer.Lexeme.{Lexeme}
use Rattle.xml.specs.declared.lexer.Lexeme.TheVariants.{Opens, Closes, Empty, Label, End, Bad}

-- A label at a place of the bytes from i on

module _ (s : List ℕ) (i j : ℕ) where
  run_from : (f : ℕ → Bool) → run_at f (drop i s) j ≡ run_at f s (i + j)
  run_from f = rw (drop-drop j i s)

  pub label-none : label_end s (i + j) ≡ None → label_end (drop i s) j ≡ None
  unfolding label_end
  label-none e =
      rw (run_from label_byte)
      (by_case (leb 1 (run_at label_byte s (i + j)) && leb (run_at label_byte s (i + j)) 24) (λ q. absurd (let u = rw q at e in let z : ◌≡◌ {A = ℕ} 0 1 = cc in omega arith)) (λ q. rw q))

  pub record Labelled (e : ℕ) : Type 0 where
    pub there : label_end (drop i s) j ≡ Some (e - i)
    pub run : e ≡ i + j + run_at label_byte s (i + j)
    pub some : i + j < e
    pub most : e ≤ i + j + 24

  pub labelled : (e : ℕ) → label_end s (i + j) ≡ Some e → Labelled e
  unfolding label_end
  labelled e p =
      by_case (leb 1 (run_at label_byte s (i + j)) && leb (run_at label_byte s (i + j)) 24)
      (λ q.
      let w = both (leb 1 (run_at label_byte s (i + j))) _ q in
      let a = leb-true 1 (run_at label_byte s (i + j)) w.0 in
      let b = leb-true (run_at label_byte s (i + j)) 24 w.1 in
      let u = rw q at p in
      let z : e ≡ i + j + run_at label_byte s (i + j) = cc in
      let y : j + run_at label_byte s (i + j) ≡ e - i = omega arith in
      record { there = rw (run_from label_byte, q, y); run = z; some = omega arith; most = omega arith })
      (λ q. absurd (let u = rw q at p in let z : ◌≡◌ {A = ℕ} 0 1 = cc in omega arith))

  pub name_from : (e : ℕ) → i + j ≤ e → drop j (take (e - i) (drop i s)) ≡ between s (i + j) e
  name_from e h = let z : e - i ≡ j + (e - (i + j)) = omega arith in rw (z, drop-take j (e - (i + j)) (drop i s), drop-drop j i s)

pub byte_from : (s : List ℕ) (i e : ℕ) → i ≤ e → byte_at (drop i s) (e - i) ≡ byte_at s e
byte_from s i e h = get_or-drop i s (e - i) 0 ∙ (let z : i + (e - i) ≡ e = omega arith in rw z)

-- where a token's label stands, whichever place before it the token is read from
spot : (s : List ℕ) (i j e t : ℕ) → Labelled s i j e → e ≤ t → t ≤ length s → Spot s i (i + j) e t
spot s i j e t l a w = record { from = omega arith; run = l.run; some = l.some; most = l.most; after = a; within = w }

spot_from : {s : List ℕ} {at i a e t : ℕ} → at ≤ i → Spot s i a e t → Spot s at a e t
spot_from h p = record { from = omega (arith, p.from); run = p.run; some = p.some; most = p.most; after = p.after; within = p.within }

-- what is no token
pub lexed_bad : (want : ℕ → List ℕ → Lexed) (s : List ℕ) (i : ℕ) → ((k : ℕ) → want k (drop i s) ≡ bad) → LexedAs want s i Bad
lexed_bad want s i h = record { is = λ at l. h (i - at); on = tt }

module _ (s : List ℕ) (i : ℕ) where
  -- `</`

  pub closing_unnamed : label_end s (i + 2) ≡ None → LexedAs closing s i Bad
  closing_unnamed e = lexed_bad closing s i (λ k. rw (label-none s i 2 e))

  module _ (e : ℕ) (p : label_end s (i + 2) ≡ Some e) where
    pub closing_unended : eqb (byte_at s e) 62 ≡ false → LexedAs closing s i Bad
    closing_unended q = let l = labelled s i 2 e p in lexed_bad closing s i (λ k. rw (l.there, byte_from s i e (omega arith), q))

    pub closing_read : eqb (byte_at s e) 62 ≡ true → LexedAs closing s i (Closes (record { start = i + 2; end = e; next = e + 1 }))
    closing_read q =
        let l = labelled s i 2 e p in
        let w = inside s e 62 (omega arith) (eqb-true _ _ q) in
        record {
          is = λ at h.
              let z : i - at + (e - i + 1) ≡ e + 1 - at = omega arith in
              rw (l.there, byte_from s i e (omega arith), q, name_from s i 2 e (omega arith), z);
          on = spot s i 2 e (e + 1) l (omega arith) (omega arith);
        }

  -- `<`

  pub opening_unnamed : label_end s (i + 1) ≡ None → LexedAs opening s i Bad
  opening_unnamed e = lexed_bad opening s i (λ k. rw (label-none s i 1 e))

  module _ (e : ℕ) (p : label_end s (i + 1) ≡ Some e) where
    pub opening_unstarted : name_start (byte_at s (i + 1)) ≡ false → LexedAs opening s i Bad
    opening_unstarted q = let l = labelled s i 1 e p in lexed_bad opening s i (λ k. rw (l.there, get_or-drop i s 1 0, q))

    module _ (n : name_start (byte_at s (i + 1)) ≡ true) where
      next_byte : byte_at (drop i s) (e - i + 1) ≡ byte_at s (e + 1)
      next_byte = let l = labelled s i 1 e p in let z : e - i + 1 ≡ e + 1 - i = omega arith in rw z (byte_from s i (e + 1) (omega arith))

      pub opening_read : eqb (byte_at s e) 62 ≡ true → LexedAs opening s i (Opens (record { start = i + 1; end = e; next = e + 1 }))
      opening_read q =
          let l = labelled s i 1 e p in
          let w = inside s e 62 (omega arith) (eqb-true _ _ q) in
          record {
            is = λ at h.
                let z : i - at + (e - i + 1) ≡ e + 1 - at = omega arith in
                rw (l.there, get_or-drop i s 1 0, n, byte_from s i e (omega arith), q, name_from s i 1 e (omega arith), z);
            on = spot s i 1 e (e + 1) l (omega arith) (omega arith);
          }

      module _ (o : eqb (byte_at s e) 62 ≡ false) where
        pub opening_other : eqb (byte_at s e) 47 ≡ false → LexedAs opening s i Bad
        opening_other q = let l = labelled s i 1 e p in lexed_bad opening s i (λ k. rw (l.there, get_or-drop i s 1 0, n, byte_from s i e (omega arith), o, q))

        module _ (q : eqb (byte_at s e) 47 ≡ true) where
          pub opening_unended : eqb (byte_at s (e + 1)) 62 ≡ false → LexedAs opening s i Bad
          opening_unended r =
              let l = labelled s i 1 e p in lexed_bad opening s i (λ k. rw (l.there, get_or-drop i s 1 0, n, byte_from s i e (omega arith), o, q, next_byte, r))

          pub opening_empty : eqb (byte_at s (e + 1)) 62 ≡ true → LexedAs opening s i (Empty (record { start = i + 1; end = e; next = e + 2 }))
          opening_empty r =
              let l = labelled s i 1 e p in
              let w = inside s (e + 1) 62 (omega arith) (eqb-true _ _ r) in
              record {
                is = λ at h.
                    let z : i - at + (e - i + 2) ≡ e + 2 - at = omega arith in
                    rw (l.there, get_or-drop i s 1 0, n, byte_from s i e (omega arith), o, q, next_byte, r, name_from s i 1 e (omega arith), z);
                on = spot s i 1 e (e + 2) l (omega arith) (omega arith);
              }

  -- a text

  pub texting-none : label_end s i ≡ None → LexedAs texting s i Bad
  texting-none e = let z : i ≡ i + 0 = omega arith in lexed_bad texting s i (λ k. rw (label-none s i 0 (ap (label_end s) (sym z) ∙ e)))

  module _ (e t : ℕ) (p : label_end s i ≡ Some e) (w : Ends blank_byte s e t) where
    abbrev there : Labelled s i 0 e
    there = let z : i + 0 ≡ i = omega arith in labelled s i 0 e (ap (label_end s) z ∙ p)

    behind : e - i + run blank_byte (drop (e - i) (drop i s)) ≡ t - i
    behind =
        let l = there in
        let h = w.is in
        let z : i + (e - i) ≡ e = omega arith in
        rw (drop-drop (e - i) i s, z) (omega arith)

    pub texting_unended : eqb (byte_at s t) 60 ≡ false → LexedAs texting s i Bad
    texting_unended q = let l = there in let h = w.from in lexed_bad texting s i (λ k. rw (l.there, behind, byte_from s i t (omega arith), q))

    pub texting_read : eqb (byte_at s t) 60 ≡ true → LexedAs texting s i (Label (record { start = i; end = e; next = t }))
    texting_read q =
        let l = there in
        let f = w.from in
        let g = w.to in
        let y : i + 0 ≡ i = omega arith in
        record {
          is = λ at h. let z : i - at + (t - i) ≡ t - at = omega arith in rw (l.there, behind, byte_from s i t (omega arith), q, z);
          on = rw y at (spot s i 0 e t l f g);
        }

-- Which of them: after the blanks from `at` to i

module _ (s : List ℕ) (at i : ℕ) (w : Ends blank_byte s at i) where
  abbrev blanks : lex (drop at s) ≡ lex_after (i - at) (drop i s)
  unfolding lex
  blanks =
      let h = w.is in
      let z : run_at blank_byte s at ≡ i - at = omega arith in
      let y : at + (i - at) ≡ i = omega (arith, w.from) in
      rw (z, drop-drop (i - at) at s, y)

  pub lex_end : length s ≤ i → LexedAt s at End
  unfolding lex_after
  lex_end h = record { is = blanks ∙ rw (drop_of_length-le s h); on = tt }

  placed : (r : Lexeme) → Placed s i r → Placed s at r
  placed (Opens v) p = spot_from w.from p
  placed (Closes v) p = spot_from w.from p
  placed (Empty v) p = spot_from w.from p
  placed (Label v) p = spot_from w.from p
  placed End p = tt
  placed Bad p = tt

  lex_as : (want : ℕ → List ℕ → Lexed) (r : Lexeme) → lex_after (i - at) (drop i s) ≡ want (i - at) (drop i s) → LexedAs want s i r → LexedAt s at r
  lex_as want r e x = record { is = blanks ∙ e ∙ x.is at w.from; on = placed r x.on }

  module _ (r : Lexeme) (h : i < length s) where
    pub lex_text : (byte_at s i ≡ 60 → ⊥) → LexedAs texting s i r → LexedAt s at r
    unfolding lex_after
    lex_text e x = lex_as texting r (rw (drop-cons s i 0 h, ne_eqb _ 60 e)) x

    next : byte_at (drop (suc i) s) 0 ≡ byte_at s (i + 1)
    next = get_or-drop (suc i) s 0 0 ∙ (let z : suc i + 0 ≡ i + 1 = omega arith in rw z)

    module _ (e : byte_at s i ≡ 60) where
      pub lex-closing : eqb (byte_at s (i + 1)) 47 ≡ true → LexedAs closing s i r → LexedAt s at r
      unfolding lex_after
      lex-closing q x = lex_as closing r (rw (drop-cons s i 0 h, eq-eqb _ 60 e, next, q)) x

      pub lex-opening : eqb (byte_at s (i + 1)) 47 ≡ false → LexedAs opening s i r → LexedAt s at r
      unfolding lex_after
      lex-opening q x = lex_as opening r (rw (drop-cons s i 0 h, eq-eqb _ 60 e, next, q)) x

-- What was read at a place, once it is known which token it is
pub lexed_is : {s : List ℕ} {at : ℕ} {r x : Lexeme} → LexedAt s at r → r ≡ x → LexedAt s at x
lexed_is l e = rw e at l
