-- Places of w bytes, one after the other: what stands at each, and that the bytes hold nothing else. Assumes nothing.
use Prim.Native.Nat.{ℕ, zero, suc, ◌+◌, ◌*◌, ◌-◌, ◌≤◌, ◌<◌}
use mathlib.Core.Path.{◌≡◌, refl, sym, ap, ap₂, ◌∙◌}
use mathlib.Core.Bool.{true}
use mathlib.Core.List.{List, [], ◌∷◌, ◌++◌, map, append_assoc}
use native.Mathlib.Nat.{zero-mul, suc-mul, add-mul, add_comm, mul-le-mul_right}
use native.Mathlib.Omega.{arith}
use borrow.Author.Tests.{eqb-true}
use lib.Dec.{eqb}
use lib.ListN.{length, get_or, take, drop, replicate, length-append, length-replicate}
use lib.Seq.{take-add, take_at, drop_at, drop-drop, take_all}
use Rattle.rights.specs.Bytes.{all, is_zero, zeros}
use Rattle.rights.specs.Allowed.{All}
use Rattle.rights.specs.Held.{join, in_places}
use Rattle.rights.proofs.TableLaws.{both}
use Rattle.rights.proofs.RecordOfLaws.{zeros_zero}
use Rattle.rights.proofs.PartLaws.{part_in}

-- zero bytes
pub zero_replicate : (s : List ℕ) → all is_zero s ≡ true → s ≡ replicate (length s) 0
unfolding all
zero_replicate [] e = refl
zero_replicate (x ∷ s) e =
    let f = both (eqb x 0) (all is_zero s) e in
    ap₂ ◌∷◌ (eqb-true x 0 f.0) (zero_replicate s f.1)

one_more : (n w : ℕ) → suc n * w ≡ w + n * w
one_more n w = suc-mul n w ∙ add_comm (n * w) w

times_apart : (n most w : ℕ) → n ≤ most → n * w + (most - n) * w ≡ most * w
times_apart n most w h = let e : n + (most - n) ≡ most = omega arith in sym (add-mul n (most - n) w) ∙ ap (λ (k : ℕ). k * w) e

module _ {A : Type 0} (f : A → List ℕ) (w : ℕ) where
  -- each takes w bytes
  abbrev pub Wide : List A → Type 0
  Wide xs = All (λ x. length (f x) ≡ w) xs

  pub length-join : (xs : List A) → Wide xs → length (join (map f xs)) ≡ length xs * w
  unfolding join
  length-join [] h = sym (zero-mul w)
  length-join (x ∷ xs) h = length-append (f x) (join (map f xs)) ∙ ap₂ ◌+◌ h.0 (length-join xs h.1) ∙ sym (one_more (length xs) w)

  -- what stands at place k
  pub join_at : (xs : List A) (z : List ℕ) (d : A) (k : ℕ) → Wide xs → k < length xs → take w (drop (k * w) (join (map f xs) ++ z)) ≡ f (get_or xs k d)
  unfolding join
  join_at [] z d k h l = absurd (omega arith)
  join_at (x ∷ xs) z d zero h l =
      ap (λ (n : ℕ). take w (drop n ((f x ++ join (map f xs)) ++ z))) (zero-mul w)
      ∙ ap (take w) (append_assoc (f x) (join (map f xs)) z)
      ∙ take_at (f x) (join (map f xs) ++ z) w h.0
  join_at (x ∷ xs) z d (suc k) h l =
      ap (λ (n : ℕ). take w (drop n ((f x ++ join (map f xs)) ++ z))) (one_more k w)
      ∙ ap (take w)
      (sym (drop-drop (k * w) w ((f x ++ join (map f xs)) ++ z))
      ∙ ap (drop (k * w)) (ap (drop w) (append_assoc (f x) (join (map f xs)) z) ∙ drop_at (f x) (join (map f xs) ++ z) w h.0))
      ∙ join_at xs z d k h.1 (omega arith)

  -- and the bytes of places that hold them
  pub join_of : (p : List ℕ) (d : A) (xs : List A) (a : ℕ) → ((k : ℕ) → k < length xs → take w (drop (a + k * w) p) ≡ f (get_or xs k d)) → take (length xs * w) (drop a p) ≡ join (map f xs)
  unfolding join
  join_of p d [] a h = ap (λ (n : ℕ). take n (drop a p)) (zero-mul w)
  join_of p d (x ∷ xs) a h =
      let here : a ≡ a + 0 * w = omega (arith, zero-mul w) in
      let there : (k : ℕ) → a + w + k * w ≡ a + suc k * w = λ k. omega (arith, one_more k w) in
      let first : take w (drop a p) ≡ f x = ap (λ (n : ℕ). take w (drop n p)) here ∙ h 0 (omega arith) in
      let later : take (length xs * w) (drop (a + w) p) ≡ join (map f xs) =
      join_of p d xs (a + w) (λ k l. ap (λ (n : ℕ). take w (drop n p)) (there k) ∙ h (suc k) (omega arith)) in
      ap (λ (n : ℕ). take n (drop a p)) (one_more (length xs) w)
      ∙ take-add w (length xs * w) (drop a p)
      ∙ ap₂ ◌++◌ first (ap (take (length xs * w)) (drop-drop w a p) ∙ later)

  pub length_places : (most : ℕ) (xs : List A) → Wide xs → length xs ≤ most → length (in_places most w f xs) ≡ most * w
  length_places most xs h l =
      length-append (join (map f xs)) (replicate ((most - length xs) * w) 0)
      ∙ ap₂ ◌+◌ (length-join xs h) (length-replicate {A = ℕ} ((most - length xs) * w) 0)
      ∙ times_apart (length xs) most w l

  -- From byte a on each place in use holds its own, and the others are zero.
  pub record Places (p : List ℕ) (a most : ℕ) (d : A) (xs : List A) : Type 0 where
    pub each : (k : ℕ) → k < length xs → take w (drop (a + k * w) p) ≡ f (get_or xs k d)
    pub rest : zeros p (a + length xs * w) ((most - length xs) * w) ≡ true

  module _ (p : List ℕ) (a most : ℕ) (d : A) (xs : List A) (few : length xs ≤ most) where
    pub places_bytes : a + most * w ≤ length p → Places p a most d xs → take (most * w) (drop a p) ≡ in_places most w f xs
    places_bytes room h =
        let n : ℕ = length xs * w in
        let m : ℕ = (most - length xs) * w in
        let e = times_apart (length xs) most w few in
        let full : length (take m (drop (a + n) p)) ≡ m = lib.Seq.length-take-le m (drop (a + n) p) (rw (lib.ListN.length-drop (a + n) p) (omega arith)) in
        ap (λ (k : ℕ). take k (drop a p)) (sym e)
        ∙ take-add n m (drop a p)
        ∙ ap₂ ◌++◌ (join_of p d xs a h.each)
        (ap (take m) (drop-drop n a p) ∙ zero_replicate (take m (drop (a + n) p)) h.rest ∙ ap (λ (k : ℕ). replicate k 0) full)

    pub bytes_places : Wide xs → take (most * w) (drop a p) ≡ in_places most w f xs → Places p a most d xs
    bytes_places h e = record {
      each = λ k l.
          let z = one_more k w in
          let q : suc k ≤ most = omega arith in
          let m = mul-le-mul_right w q in
          part_in p a (most * w) (k * w) w (omega arith)
          ∙ ap (λ (s : List ℕ). take w (drop (k * w) s)) e
          ∙ join_at xs (replicate ((most - length xs) * w) 0) d k h l;
      rest =
          let n : ℕ = length xs * w in
          let m : ℕ = (most - length xs) * w in
          ap (all is_zero)
          (part_in p a (most * w) n m (omega (arith, times_apart (length xs) most w few))
          ∙ ap (λ (s : List ℕ). take m (drop n s)) e
          ∙ ap (take m) (drop_at (join (map f xs)) (replicate m 0) n (length-join xs h))
          ∙ take_all m (replicate m 0) (omega (arith, length-replicate {A = ℕ} m 0)))
          ∙ zeros_zero m;
    }
