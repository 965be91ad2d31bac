-- Checks in the paper's order, beside rows of conditions in words: the first check that fails is the first condition that holds. Assumes nothing.
use Prim.Native.Nat.{ℕ, suc, ◌≤◌, ◌<◌}
use mathlib.Core.Path.{◌≡◌, refl, sym, ap, ◌∙◌}
use mathlib.Core.Bool.{Bool, true, false, ◌&&◌, and-eq-true_iff, false≢true}
use mathlib.Core.List.{List, [], ◌∷◌}
use mathlib.Core.Logic.{inl, inr, ◌↔◌}
use native.Mathlib.Omega.{arith}
use borrow.Author.Tests.{leb-true, le-leb, ltb-true, ltb-false, eqb-true}
use lib.Dec.{leb, ltb, eqb}
use lib.ListN.{length}
use Rattle.rights.specs.Bytes.{within}
use Rattle.rights.proofs.ListLaws.{by_case}
use Rattle.lines.specs.Outcome.{Reply, says, refuses, Outcome}
use Rattle.lines.specs.Refusal.{Check, checked, order, index_in, rank, rising}
use Rattle.lines.proofs.OutcomeLaws.{said-refused}
use Rattle.lines.proofs.RefusalLaws.{rank_small}
use Rattle.lines.specs.Conditions.{Conditions, Holds, Before, First}

-- each check has the number of its row, a known one
abbrev pub numbered : Conditions → List Check → Bool
numbered [] [] = true
numbered [] (c ∷ cs) = false
numbered (r ∷ rs) [] = false
numbered (r ∷ rs) (c ∷ cs) = (eqb r.0 c.number && within 1 15 r.0) && numbered rs cs

-- each check fails exactly if the condition of its row holds, where the checks before it passed
abbrev pub Tells : Conditions → List Check → Type 0
Tells [] [] = Unit {0}
Tells [] (c ∷ cs) = ⊥
Tells (r ∷ rs) [] = ⊥
Tells (r ∷ rs) (c ∷ cs) = (r.1 ↔ (c.fails ≡ true)) × ((c.fails ≡ false) → Tells rs cs)

-- numbers of the same rank are the same
index_same : (ms : List ℕ) (a b : ℕ) → index_in ms a ≡ index_in ms b → index_in ms a < length ms → a ≡ b
unfolding index_in
index_same [] a b e h = absurd (omega arith)
index_same (m ∷ ms) a b e h =
    by_case (eqb a m)
    (λ p. by_case (eqb b m)
    (λ q. eqb-true a m p ∙ sym (eqb-true b m q))
    (λ q. let z : 0 ≡ suc (index_in ms b) = rw (p, q) at e in absurd (omega arith)))
    (λ p. by_case (eqb b m)
    (λ q. let z : suc (index_in ms a) ≡ 0 = rw (p, q) at e in absurd (omega arith))
    (λ q.
    let z : suc (index_in ms a) ≡ suc (index_in ms b) = rw (p, q) at e in
    let w : suc (index_in ms a) < suc (length ms) = rw p at h in
    index_same ms a b (omega arith) (omega arith)))

pub clash : {C : Type 0} {b : Bool} → b ≡ true → b ≡ false → C
clash p q = absurd (let z : true ≡ false = sym p ∙ q in let y : ◌≡◌ {A = ℕ} 0 1 = cc in omega arith)

-- a number of the paper's
abbrev Known : ℕ → Type 0
Known n = (1 ≤ n) × (n ≤ 15)

record Row (m n k : ℕ) : Type 0 where
  number : m ≡ n
  known : Known n
  late : k ≤ rank n

row : (m n k : ℕ) (x y : Bool) → (eqb m n && within 1 15 m) && x ≡ true → leb k (rank n) && y ≡ true → Row m n k
row m n k x y e h =
    let f = simp and-eq-true_iff at e in
    let g = simp and-eq-true_iff at h in
    let q = eqb-true m n f.0.0 in
    record { number = q; known = (omega (arith, q, leb-true 1 m f.0.1.0), omega (arith, q, leb-true m 15 f.0.1.1)); late = leb-true k (rank n) g.0 }

-- no condition that holds has a number before the first check's
holds_late : (rs : Conditions) (cs : List Check) (k m : ℕ) → numbered rs cs ≡ true → rising k cs ≡ true → Holds m rs → k ≤ rank m
unfolding rising
holds_late [] [] k m e h x = absurd x
holds_late [] (c ∷ cs) k m e h x = absurd x
holds_late (r ∷ rs) [] k m e h x = absurd (false≢true e)
holds_late (r ∷ rs) (c ∷ cs) k m e h (inl x) =
    let w = row r.0 c.number k _ _ e h in
    rw (sym x.0 ∙ w.number) w.late
holds_late (r ∷ rs) (c ∷ cs) k m e h (inr x) =
    let w = row r.0 c.number k _ _ e h in
    let f = simp and-eq-true_iff at e in
    let g = simp and-eq-true_iff at h in
    omega (arith, w.late, holds_late rs cs (rank c.number) m f.1 g.1 x)

module _ (s t : List ℕ) (o : Outcome) {text : List ℕ} (said : o.reply ≡ says text) where
  -- what the checks answer
  abbrev reply : List Check → Reply
  reply cs = (checked cs s t o).reply

  first_left : (rs : Conditions) (cs : List Check) (k n : ℕ) → numbered rs cs ≡ true → Tells rs cs → rising k cs ≡ true → reply cs ≡ refuses n → First n rs
  unfolding checked rising
  first_left [] [] k n e w h q = said-refused (sym said ∙ q)
  first_left [] (c ∷ cs) k n e w h q = absurd w
  first_left (r ∷ rs) [] k n e w h q = absurd w
  first_left (r ∷ rs) (c ∷ cs) k n e w h q =
      let f = simp and-eq-true_iff at e in
      let g = simp and-eq-true_iff at h in
      let z = row r.0 c.number k _ _ e h in
      by_case c.fails
      (λ b.
      let same : c.number ≡ n = (let y : refuses c.number ≡ refuses n = rw b at q in cc) in (
        inl (z.number ∙ same, w.0.1 b),
        λ m b x. let l : rank m < rank c.number = rw same b in let y = holds_late (r ∷ rs) (c ∷ cs) (rank c.number) m e (rw (le-leb (rank c.number) (rank c.number) (omega arith)) g.1) x in absurd (omega (arith, y, l)),
      ))
      (λ b.
      let y = first_left rs cs (rank c.number) n f.1 (w.1 b) g.1 (rw b at q) in
      (inr y.0, none b y.1))
    where
      none : c.fails ≡ false → ((m : ℕ) → Before m n → Holds m rs → ⊥) → (m : ℕ) → Before m n → Holds m (r ∷ rs) → ⊥
      none b y m l (inl x) = clash (w.0.0 x.1) b
      none b y m l (inr x) = y m l x

  first_right : (rs : Conditions) (cs : List Check) (k n : ℕ) → numbered rs cs ≡ true → Tells rs cs → rising k cs ≡ true → First n rs → reply cs ≡ refuses n
  unfolding checked rising
  first_right [] cs k n e w h q = absurd q.0
  first_right (r ∷ rs) [] k n e w h q = absurd w
  first_right (r ∷ rs) (c ∷ cs) k n e w h (q, none) =
      let f = simp and-eq-true_iff at e in
      let g = simp and-eq-true_iff at h in
      let z = row r.0 c.number k _ _ e h in
      by_case c.fails
      (λ b.
      let l = holds_late (r ∷ rs) (c ∷ cs) (rank c.number) n e (rw (le-leb (rank c.number) (rank c.number) (omega arith)) g.1) q in
      by_case (ltb (rank c.number) (rank n))
      (λ a. absurd (none c.number (ltb-true (rank c.number) (rank n) a) (inl (z.number, w.0.1 b))))
      (λ a. rw b (ap refuses (index_same order c.number n (omega (arith, l, ltb-false (rank c.number) (rank n) a)) (rank_small c.number z.known.0 z.known.1)))))
      (λ b. rw b (later (first_right rs cs (rank c.number) n f.1 (w.1 b) g.1) b q))
    where
      later : (First n rs → reply cs ≡ refuses n) → c.fails ≡ false → Holds n (r ∷ rs) → reply cs ≡ refuses n
      later ih b (inl x) = clash (w.0.0 x.1) b
      later ih b (inr x) = ih (x, λ m l y. none m l (inr y))

  -- the checks refuse with a number exactly if its condition is the first that holds
  pub first_exactly : (rs : Conditions) (cs : List Check) (n : ℕ) → numbered rs cs ≡ true → Tells rs cs → rising 0 cs ≡ true → (reply cs ≡ refuses n) ↔ First n rs
  first_exactly rs cs n e w h = (first_left rs cs 0 n e w h, first_right rs cs 0 n e w h)

  none_left : (rs : Conditions) (cs : List Check) (x : List ℕ) → Tells rs cs → reply cs ≡ says x → (n : ℕ) → Holds n rs → ⊥
  unfolding checked
  none_left [] cs x w q n y = y
  none_left (r ∷ rs) [] x w q n y = w
  none_left (r ∷ rs) (c ∷ cs) x w q n y =
      by_case c.fails
      (λ b. said-refused (let z : refuses c.number ≡ says x = rw b at q in sym z))
      (λ b. rest b y (none_left rs cs x (w.1 b) (rw b at q) n))
    where
      rest : c.fails ≡ false → Holds n (r ∷ rs) → (Holds n rs → ⊥) → ⊥
      rest b (inl z) ih = clash (w.0.0 z.1) b
      rest b (inr z) ih = ih z

  none_right : (rs : Conditions) (cs : List Check) → Tells rs cs → ((n : ℕ) → Holds n rs → ⊥) → reply cs ≡ says text
  unfolding checked
  none_right [] [] w h = said
  none_right [] (c ∷ cs) w h = absurd w
  none_right (r ∷ rs) [] w h = absurd w
  none_right (r ∷ rs) (c ∷ cs) w h =
      by_case c.fails
      (λ b. absurd (h r.0 (inl (refl, w.0.1 b))))
      (λ b. rw b (none_right rs cs (w.1 b) (λ n y. h n (inr y))))

  -- and accept exactly if no condition holds
  pub none_exactly : (rs : Conditions) (cs : List Check) → Tells rs cs → ((x : List ℕ) × (reply cs ≡ says x)) ↔ ((n : ℕ) → Holds n rs → ⊥)
  none_exactly rs cs w = (λ y. none_left rs cs y.0 w y.1, λ h. (text, none_right rs cs w h))
