-- A record that passes the check is made of its own level, label and window, and its label and its window may be stored. Assumes nothing.
use Prim.Native.Nat.{ℕ, ◌+◌, ◌*◌, ◌-◌, ◌/◌, ◌%◌, ◌≤◌, ◌<◌}
use mathlib.Core.Path.{◌≡◌, sym, ap, ap₂, ◌∙◌}
use mathlib.Core.Bool.{true, and-eq-true_iff}
use mathlib.Core.List.{List, [], ◌∷◌, ◌++◌}
use native.Mathlib.Omega.{arith}
use borrow.Author.Tests.{leb-true, ltb-true, ltb-false, not-true}
use lib.Dec.{ltb}
use lib.ListN.{length, get_or, take, drop, replicate, take-append-drop, length-take, length-drop, get_or-eq_default}
use lib.Seq.{take-take, take_all, length-take-le, drop-drop, get_or-take, get_or-drop}
use Rattle.rights.specs.Bytes.{all, is_zero}
use Rattle.rights.specs.Table.{rec_at, level, label, spare, label_part_ok, record_ok}
use Rattle.rights.specs.Record.{padded, record_of, no_spare, window_bytes, name_record}
use Rattle.rights.specs.PolicyCheck.{text_ok}
use Rattle.rights.specs.Allowed.{LabelOk, AllowedWindow}
use Rattle.rights.specs.Held.{dated_bytes, dated_in}
use Rattle.rights.proofs.ListLaws.{by_case}
use Rattle.rights.proofs.TableLaws.{record_parts, spare-window, spare_year, spare-zeros}
use Rattle.rights.proofs.PlaceLaws.{zero_replicate}

-- the bytes behind a record's length: the label, the zeros that pad it, and the others
parts_made : (n : ℕ) (s : List ℕ) → length s ≡ 30 → n ≤ 24 → all is_zero (drop n (take 24 s)) ≡ true → padded (take n s) ++ drop 24 s ≡ s
unfolding padded
parts_made n s l h z =
    let long : length (take 24 s) ≡ 24 = length-take-le 24 s (omega arith) in
    let short : length (take n s) ≡ n = length-take-le n s (omega arith) in
    let pad : drop n (take 24 s) ≡ replicate (24 - length (take n s)) 0 =
    zero_replicate (drop n (take 24 s)) z ∙ ap (λ (k : ℕ). replicate k 0) (length-drop n (take 24 s) ∙ ap₂ ◌-◌ long (sym short)) in
    ap (λ (q : List ℕ). q ++ drop 24 s) (ap₂ ◌++◌ (sym (take-take n 24 s h)) (sym pad) ∙ take-append-drop n (take 24 s)) ∙ take-append-drop 24 s

record_apart : (r : List ℕ) → length r ≡ 32 → label_part_ok r ≡ true → record_of (level r) (label r) (spare r) ≡ r
unfolding label_part_ok record_of
record_apart [] l e = absurd (omega arith)
record_apart (x ∷ []) l e = absurd (omega arith)
record_apart (x ∷ (n ∷ s)) l e =
    let f = simp (label_part_ok, and-eq-true_iff) at e in
    let h : n ≤ 24 = leb-true _ _ f.1.0 in
    ap₂ (λ (k : ℕ) (q : List ℕ). x ∷ (k ∷ q)) (length-take-le n s (omega arith)) (parts_made n s (omega arith) h f.1.1.1.1)

pub record_made : (r : List ℕ) → length r ≡ 32 → label_part_ok r ≡ true → all is_zero (spare r) ≡ true → record_of (level r) (label r) no_spare ≡ r
record_made r l e z =
    let tail : spare r ≡ no_spare = zero_replicate (spare r) z ∙ ap (λ (k : ℕ). replicate k 0) (length-drop 26 r ∙ ap (λ (k : ℕ). k - 26) l) in
    ap (record_of (level r) (label r)) (sym tail) ∙ record_apart r l e

-- six bytes that are a window and two zeros
window_apart : (s : List ℕ) → length s ≡ 6 → get_or s 0 0 < 256 → get_or s 2 0 < 256 → all is_zero (drop 4 s) ≡ true
    → window_bytes (get_or s 0 0 + get_or s 1 0 * 256) (get_or s 2 0 + get_or s 3 0 * 256) ++ (0 ∷ 0 ∷ []) ≡ s
window_apart [] l x y z = absurd (omega arith)
window_apart (a ∷ []) l x y z = absurd (omega arith)
window_apart (a ∷ b ∷ []) l x y z = absurd (omega arith)
window_apart (a ∷ b ∷ c ∷ []) l x y z = absurd (omega arith)
window_apart (a ∷ b ∷ c ∷ d ∷ s) l x y z =
    let n : length s ≡ 2 = omega arith in
    let rest : s ≡ 0 ∷ 0 ∷ [] = zero_replicate s z ∙ ap (λ (k : ℕ). replicate k 0) n in
    let a0 : (a + b * 256) % 256 ≡ a = omega (arith, x) in
    let a1 : (a + b * 256) / 256 ≡ b = omega (arith, x) in
    let a2 : (c + d * 256) % 256 ≡ c = omega (arith, y) in
    let a3 : (c + d * 256) / 256 ≡ d = omega (arith, y) in
    rw (a0, a1, a2, a3, rest)

pub label_allowed : (r : List ℕ) → length r ≡ 32 → label_part_ok r ≡ true → LabelOk (label r)
unfolding label_part_ok
label_allowed r l e =
    let f = simp (label_part_ok, and-eq-true_iff) at e in
    let a : 1 ≤ get_or r 1 0 = leb-true _ _ f.0 in
    let b : get_or r 1 0 ≤ 24 = leb-true _ _ f.1.0 in
    let n : length (label r) ≡ get_or r 1 0 = length-take-le (get_or r 1 0) (drop 2 r) (rw length-drop (omega arith)) in
    record { some = omega (arith, n, a); short = omega (arith, n, b); bytes = f.1.1.0; free = not-true _ f.1.1.1.0 }

-- a node's record
module _ (low high : ℕ) (r : List ℕ) (l : length r ≡ 32) (e : record_ok low high r ≡ true) where
  pub node_made : ((i : ℕ) → get_or r i 0 < 256) → dated_bytes (dated_in r) ≡ r
  node_made b =
      let f = record_parts low high r e in
      let at : (k : ℕ) → get_or (spare r) k 0 ≡ get_or r (26 + k) 0 = λ k. get_or-drop 26 r k 0 in
      let two : drop 4 (spare r) ≡ take 2 (drop 30 r) =
      drop-drop 4 26 r ∙ sym (take_all 2 (drop 30 r) (omega (arith, length-drop 30 r))) in
      let window =
      window_apart (spare r) (omega (arith, length-drop 26 r)) (rw (at 0) (b 26)) (rw (at 2) (b 28)) (rw two (spare-zeros r f.1)) in
      ap (record_of (level r) (label r)) (rw (at 0, at 1, at 2, at 3) at window) ∙ record_apart r l f.0

  pub node_label : LabelOk (label r)
  node_label = label_allowed r l (record_parts low high r e).0

-- and its window
pub node_window : (low high : ℕ) (r : List ℕ) → record_ok low high r ≡ true → AllowedWindow (dated_in r)
node_window low high r e =
    let f = (record_parts low high r e).1 in
    let w = simp and-eq-true_iff at (spare-window r f) in
    record { some = leb-true _ _ w.0.0; ordered = leb-true _ _ w.1.1; within = leb-true _ _ w.1.0.1; root = spare_year r f }

-- the record of a name or a step
module _ (high : ℕ) (r : List ℕ) (l : length r ≡ 32) (e : text_ok high r ≡ true) where
  pub name_made : (level r ≤ high) × (name_record (level r) (label r) ≡ r) × LabelOk (label r)
  unfolding text_ok
  name_made =
      let f = simp (text_ok, and-eq-true_iff) at e in
      (leb-true _ _ f.0, record_made r l f.1.0 f.1.1, label_allowed r l f.1.0)

-- 32 bytes stand at a place
pub record_long : (p : List ℕ) (at : ℕ) → at + 32 ≤ length p → length (rec_at p at) ≡ 32
record_long p at h = length-take-le 32 (drop at p) (rw length-drop (omega arith))

-- of bytes, if they are taken of bytes
pub record_lent : (p : List ℕ) (at : ℕ) → ((i : ℕ) → get_or p i 0 < 256) → (i : ℕ) → get_or (rec_at p at) i 0 < 256
record_lent p at b i =
    by_case (ltb i 32)
    (λ e. rw (get_or-take 32 (drop at p) i 0 (ltb-true i 32 e), get_or-drop at p i 0) (b (at + i)))
    (λ e.
    let past : length (rec_at p at) ≤ i = omega (arith, ltb-false i 32 e, length-take 32 (drop at p)) in
    rw (get_or-eq_default (rec_at p at) 0 past) (omega arith))
