-- Parts of a text. Assumes nothing.
use Prim.Native.Nat.{ℕ, ◌+◌, ◌-◌, ◌≤◌, ◌<◌}
use mathlib.Core.Path.{◌≡◌, sym, ap, ◌∙◌}
use mathlib.Core.List.{List, ◌∷◌, ◌++◌}
use native.Mathlib.Omega.{arith}
use native.Mathlib.Numerals.{add-one}
use lib.ListN.{length, get_or, take, drop, length-append}
use lib.Seq.{drop-cons, drop-drop, take-take, take-append_seam, drop-append_seam}
use Rattle.rights.proofs.TextLaws.{drop-take}

-- a part of a part
pub part_in : (l : List ℕ) (a n j m : ℕ) → j + m ≤ n → take m (drop (a + j) l) ≡ take m (drop j (take n (drop a l)))
part_in l a n j m h =
    let e : n ≡ j + (n - j) = omega arith in
    sym
    (ap (λ (i : ℕ). take m (drop j (take i (drop a l)))) e
    ∙ ap (take m) (drop-take j (n - j) (drop a l))
    ∙ take-take m (n - j) (drop j (drop a l)) (omega arith)
    ∙ ap (take m) (drop-drop j a l))

-- two texts, one after the other
pub part_split : (q x y : List ℕ) (at : ℕ) → take (length (x ++ y)) (drop at q) ≡ x ++ y → (take (length x) (drop at q) ≡ x) × (take (length y) (drop (at + length x) q) ≡ y)
part_split q x y at e =
    let n = length (x ++ y) in
    let l : n ≡ length x + length y = length-append x y in (
      sym (take-take (length x) n (drop at q) (omega arith)) ∙ ap (take (length x)) e ∙ take-append_seam x y,
      ap (take (length y)) (sym (drop-drop (length x) at q))
          ∙ sym (drop-take (length x) (length y) (drop at q))
          ∙ ap (λ (k : ℕ). drop (length x) (take k (drop at q))) (sym l)
          ∙ ap (drop (length x)) e
          ∙ drop-append_seam x y,
    )

-- one byte, and the others
pub next_byte : (q : List ℕ) (at : ℕ) → at < length q → drop at q ≡ get_or q at 0 ∷ drop (at + 1) q
next_byte q at h = drop-cons q at 0 h ∙ ap (λ (k : ℕ). get_or q at 0 ∷ drop k q) (sym (add-one at))
