-- The labels at two places, compared byte by byte. Assumes nothing.
use Prim.Native.Nat.{ℕ, zero, suc, ◌+◌, ◌-◌, ◌≤◌, ◌<◌}
use mathlib.Core.Path.{◌≡◌, ap, ◌∙◌}
use mathlib.Core.List.{List, [], ◌∷◌}
use mathlib.Core.Bool.{true, not, ◌&&◌}
use native.Mathlib.Omega.{arith}
use native.Mathlib.Numerals.{add-one}
use lib.Dec.{eqb, ltb}
use lib.ListN.{length, take, drop}
use lib.Pointwise.{pointwise}
use lib.Seq.{drop-cons}
use borrow.Author.Tests.{eqb-true, ltb-true, ltb-false}
use Rattle.rights.specs.Bytes.{byte_at}
use Rattle.rights.specs.Labels.{label_byte}
use Rattle.rights.specs.PathReader.{run_at}
use Rattle.rights.proofs.ListLaws.{by_case}
use Rattle.rights.proofs.RunLaws.{run_end_lem, run-yes, run_no}
use Rattle.xml.specs.How.Tokens.{same_bytes}
use Rattle.xml.specs.How.Scan.{name_at}

module _ (s : List ℕ) (q : ℕ) where
  name_more : q < length s → label_byte (byte_at s q) ≡ true → name_at s q ≡ byte_at s q ∷ name_at s (q + 1)
  name_more h e = rw (run-yes label_byte s q h e, drop-cons s q 0 h, add-one q)

  name_none : run_at label_byte s q ≡ 0 → name_at s q ≡ []
  name_none e = rw e

  -- where a label stands
  label_there : 0 < run_at label_byte s q → (q < length s) × (label_byte (byte_at s q) ≡ true)
  label_there h =
      by_case (ltb q (length s))
      (λ l.
      let l' = ltb-true q (length s) l in
      (l', by_case (label_byte (byte_at s q)) (λ e. e) (λ e. absurd (omega (arith, run_no label_byte s q l' e)))))
      (λ l. absurd (omega (arith, run_end_lem label_byte s q (ltb-false q (length s) l))))

module _ (s : List ℕ) where
  first_bytes : (q n : ℕ) → q < length s → take (suc n) (drop q s) ≡ byte_at s q ∷ take n (drop (q + 1) s)
  first_bytes q n h = rw (drop-cons s q 0 h, add-one q)

  -- A label of n bytes, and what stands at a place before it: they are the same if the first n bytes are, and no label byte follows those.
  pub names_of : (n p a : ℕ) → p < a → run_at label_byte s a ≡ n → a + n ≤ length s
      → same_bytes (name_at s p) (name_at s a) ≡ (pointwise eqb (take n (drop p s)) (take n (drop a s)) && not (label_byte (byte_at s (p + n))))
  unfolding same_bytes
  names_of zero p a b r h =
      let z : p + 0 ≡ p = omega arith in
      by_case (label_byte (byte_at s p))
      (λ e. rw (name_more s p (omega arith) e, name_none s a r, z, e))
      (λ e. rw (name_none s p (run_no label_byte s p (omega arith) e), name_none s a r, z, e))
  names_of (suc n) p a b r h =
      let w = label_there s a (omega arith) in
      let more = run-yes label_byte s a w.0 w.1 in
      let z : p + 1 + n ≡ p + suc n = omega arith in
      let later = rw z at (names_of n (p + 1) (a + 1) (omega arith) (omega arith) (omega arith)) in
      rw (first_bytes p n (omega arith), first_bytes a n w.0, name_more s a w.0 w.1)
      (by_case (eqb (byte_at s p) (byte_at s a))
      (λ e. rw (name_more s p (omega arith) (ap label_byte (eqb-true _ _ e) ∙ w.1), e) later)
      (λ e.
      by_case (label_byte (byte_at s p))
      (λ l. rw (name_more s p (omega arith) l, e))
      (λ l. rw (name_none s p (run_no label_byte s p (omega arith) l), e))))

  -- the same by the places of a label's first byte and of the byte after it
  pub names_same : (p a e : ℕ) → p < a → e ≡ a + run_at label_byte s a → e ≤ length s
      → same_bytes (name_at s p) (name_at s a) ≡ (pointwise eqb (take (p + (e - a) - p) (drop p s)) (take (e - a) (drop a s)) && not (label_byte (byte_at s (p + (e - a)))))
  names_same p a e b r h =
      let z : p + (e - a) - p ≡ e - a = omega arith in
      rw z (names_of (e - a) p a b (omega arith) (omega arith))
