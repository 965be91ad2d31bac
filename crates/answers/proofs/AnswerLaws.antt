-- Laws of what is put into an area. Assumes nothing.
use Prim.Native.Nat.{ℕ, zero, suc, ◌+◌, ◌-◌, ◌/◌, ◌%◌, ◌≤◌, ◌<◌}
use mathlib.Core.Bool.{true}
use mathlib.Core.Path.{◌≡◌, refl, sym, ap, ◌∙◌}
use mathlib.Core.List.{List, [], ◌∷◌, ◌++◌, append_assoc, append-nil}
use native.Mathlib.Omega.{arith}
use lib.Dec.{leb}
use lib.ListN.{length, take, drop, length-append, length-take, take-append-drop}
use lib.Seq.{paste, length-take-le, take_at, drop_at, drop-drop, take-length}
use borrow.Author.Tests.{lt-ltb, le-ltb, le-leb, lt-leb, leb-true}
use Rattle.rights.specs.PathText.{decimal}
use Rattle.answers.specs.How.AnswerArea.{Puts, Answered, text_most}

-- nothing put
pub puts_none : (at : ℕ) (a : List ℕ) → Puts [] at a a at
puts_none at a = record { next = omega arith; same = refl; fits = λ h. sym (take-append-drop at a) }

-- one text after the other
pub puts_more : {p q : List ℕ} {at : ℕ} {a b c : List ℕ} {r s : ℕ} → Puts p at a b r → Puts q r b c s → Puts (p ++ q) at a c s
puts_more {p} {q} {at} {a} {b} {c} {r} {s} x y =
    record {
      next = rw length-append (omega arith);
      same = y.same ∙ x.same;
      fits = λ h.
          let k : r ≤ length a = omega (arith, x.next, y.next) in
          let e : b ≡ (take at a ++ p) ++ drop r a = x.fits k ∙ sym (append_assoc (take at a) p (drop r a)) in
          let n : length (take at a ++ p) ≡ r = rw (length-append, length-take-le at a (omega arith)) (sym x.next) in
          let f : take r b ≡ take at a ++ p = ap (take r) e ∙ take_at (take at a ++ p) (drop r a) r n in
          let g : drop r b ≡ drop r a = ap (drop r) e ∙ drop_at (take at a ++ p) (drop r a) r n in
          let d : drop s b ≡ drop s a = rw y.next (sym (drop-drop (length q) r b) ∙ ap (drop (length q)) g ∙ drop-drop (length q) r a) in
          y.fits (rw x.same h) ∙ rw (f, d, append_assoc, append_assoc);
    }

-- a copy
pub puts_copy : (p : List ℕ) (at : ℕ) (a b : List ℕ) (r : ℕ) → r ≡ at + length p → length b ≡ length a → b ≡ paste a at p (length p) → Puts p at a b r
puts_copy p at a b r e s h =
    record {
      next = e;
      same = s;
      fits = λ k. h ∙ rw (take-length p, append_assoc, ← e);
    }

-- what does not fit is not written
pub puts_not : (p : List ℕ) (at : ℕ) (a : List ℕ) (r : ℕ) → r ≡ at + length p → length a < r → Puts p at a a r
puts_not p at a r e h = record { next = e; same = refl; fits = λ k. absurd (let z : ⊥ = omega arith in z) }

-- a number's digits
pub decimal_zero : (k n : ℕ) → k ≡ 0 → decimal k n ≡ []
unfolding decimal
decimal_zero k n e = rw e

pub decimal_small : (k n : ℕ) → (k ≡ 0 → ⊥) → n < 10 → decimal k n ≡ (48 + n % 10) ∷ []
unfolding decimal
decimal_small k n h l =
    let e : k ≡ suc (k - 1) = omega arith in
    let d : n % 10 ≡ n = omega arith in
    rw (e, lt-ltb n 10 l, d)

pub decimal_large : (k n : ℕ) → (k ≡ 0 → ⊥) → 10 ≤ n → decimal k n ≡ decimal (k - 1) (n / 10) ++ ((48 + n % 10) ∷ [])
unfolding decimal
decimal_large zero n h l = absurd (h refl)
decimal_large (suc j) n h l =
    let e : suc j - 1 ≡ j = omega arith in
    rw (e, le-ltb n 10 l)

-- an answer that fits, and one that does not
pub answered_fits : (text a b : List ℕ) (r s : ℕ) → Puts text 0 a b r → s ≡ r → r ≤ length a → Answered text a b s
answered_fits text a b r s p q h =
    let n : r ≡ length text = omega (arith, p.next) in
    record { size = q ∙ n; area = rw (le-leb (length text) (length a) (omega arith), ← n) (p.fits h) }

-- an answer that surely fits
pub answered_surely : (text a b : List ℕ) (n r : ℕ) → Puts text 0 a b r × (r ≤ text_most n) → leb (text_most n) (length a) ≡ true → Answered text a b r
answered_surely text a b n r p e = answered_fits text a b r r p.0 refl (omega (arith, p.1, leb-true (text_most n) (length a) e))

pub answered-not : (text a : List ℕ) (r : ℕ) → r ≡ length text → length a < r → Answered text a a r
answered-not text a r e h = record { size = e; area = rw (lt-leb (length text) (length a) (omega arith)) }

-- On the way: of a whole text what stands before the rest is put.
pub record Toward (whole rest : List ℕ) (at : ℕ) (a b : List ℕ) (r : ℕ) : Type 0 where
  pub text : List ℕ
  pub put : Puts text at a b r
  pub left : whole ≡ text ++ rest

pub toward_start : (whole : List ℕ) (at : ℕ) (a : List ℕ) → Toward whole whole at a a at
toward_start whole at a = record { text = []; put = puts_none at a; left = refl }

pub toward_more : {whole rest p rest' : List ℕ} {at : ℕ} {a b c : List ℕ} {r s : ℕ}
    → Toward whole rest at a b r → Puts p r b c s → rest ≡ p ++ rest' → Toward whole rest' at a c s
toward_more {whole} {rest} {p} {rest'} t q e =
    record { text = t.text ++ p; put = puts_more t.put q; left = t.left ∙ rw (e, append_assoc t.text p rest') }

pub toward_end : {whole rest : List ℕ} {at : ℕ} {a b : List ℕ} {r : ℕ} → Toward whole rest at a b r → rest ≡ [] → Puts whole at a b r
toward_end {whole} t e = let q : whole ≡ t.text = t.left ∙ rw (e, append-nil t.text) in rw q t.put

pub take_short : (k : ℕ) (l : List ℕ) → length (take k l) ≤ k
take_short k l = simp length-take (omega arith)
