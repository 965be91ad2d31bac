-- Laws of a renaming. Assumes nothing.
use mathlib.Core.Path.{◌≡◌, refl, sym, ap, ap₂, ◌∙◌}
use mathlib.Core.List.{List, [], ◌∷◌}
use mathlib.Core.Bool.{Bool}
use Prim.Native.Nat.{ℕ, ◌+◌, ◌*◌, ◌-◌, ◌≤◌}
use native.Mathlib.Omega.{arith}
use lib.ListN.{length, get_or, take, drop, length-drop}
use lib.Seq.{take_at, drop-drop, get_or-drop}
use Rattle.rights.specs.Table.{level, label, spare, first_day, last_day, spare_ok}
use Rattle.rights.specs.Record.{label_bytes, record_of, pasted}
use Rattle.rights.proofs.RecordLaws.{length-padded, length_record}
use Rattle.rights.proofs.RecordOfLaws.{level_made, label_made, spare_made}
use Rattle.views.specs.Change.{rename, relabel, renamed}
use Rattle.views.specs.Shown.{in_window}
use Rattle.views.specs.How.Pass.{overwritten}
use Rattle.views.specs.Nodes.{All}

-- what is read of a record that is renamed
pub level-relabel : (s r : List ℕ) → level (relabel s r) ≡ level r
level-relabel s r = level_made (level r) s (spare r)

pub label-relabel : (s r : List ℕ) → label (relabel s r) ≡ s
label-relabel s r = label_made (level r) s (spare r)

pub length-relabel : (s r : List ℕ) → length s ≤ 24 → length r ≡ 32 → length (relabel s r) ≡ 32
length-relabel s r h e = length_record (level r) s (spare r) h (length-drop 26 r ∙ ap (λ (n : ℕ). n - 26) e)

-- its window stays
module _ (s r : List ℕ) (short : length s ≤ 24) where
  same-spare : drop 26 (relabel s r) ≡ drop 26 r
  same-spare = spare_made (level r) s (spare r) short

  spare_byte : (k : ℕ) → get_or (relabel s r) (26 + k) 0 ≡ get_or r (26 + k) 0
  spare_byte k = sym (get_or-drop 26 (relabel s r) k 0) ∙ ap (λ (q : List ℕ). get_or q k 0) same-spare ∙ get_or-drop 26 r k 0

  pub first_relabel : first_day (relabel s r) ≡ first_day r
  first_relabel = ap₂ (λ (a b : ℕ). a + b * 256) (spare_byte 0) (spare_byte 1)

  pub last_relabel : last_day (relabel s r) ≡ last_day r
  last_relabel = ap₂ (λ (a b : ℕ). a + b * 256) (spare_byte 2) (spare_byte 3)

  pub in_window_relabel : (d : ℕ) → in_window d (relabel s r) ≡ in_window d r
  in_window_relabel d = rw (first_relabel, last_relabel)

  pub spare-relabel : spare_ok (relabel s r) ≡ spare_ok r
  unfolding spare_ok
  spare-relabel =
      let end : drop 30 (relabel s r) ≡ drop 30 r = sym (drop-drop 4 26 (relabel s r)) ∙ ap (drop 4) same-spare ∙ drop-drop 4 26 r in
      rw (first_relabel, last_relabel, level-relabel s r, end)

length_label_bytes : (s : List ℕ) → length s ≤ 24 → length (label_bytes s) ≡ 25
length_label_bytes s h = omega (arith, length-padded s h)

-- a record is renamed by its 25 bytes from byte 1 on
pub relabel_over : (s r : List ℕ) → length s ≤ 24 → length r ≡ 32 → relabel s r ≡ overwritten 1 (label_bytes s) r
relabel_over s [] h e = absurd (omega (arith, e))
relabel_over s (y ∷ r) h e =
    unfold record_of in
    let n : 1 + length (label_bytes s) ≡ 26 = omega (arith, length_label_bytes s h) in
    rw n

pub renamed_over : (s : List ℕ) → length s ≤ 24 → (ms : List Bool) (rs : List (List ℕ)) → All (λ r. length r ≡ 32) rs
    → rename level (overwritten 1 (label_bytes s)) ms rs ≡ renamed s ms rs
unfolding rename
renamed_over s h ms [] a = refl
renamed_over s h ms (r ∷ rs) a = rw (relabel_over s r h a.0, renamed_over s h (drop 1 ms) rs a.1)

-- the bytes of a label in the record that it was put into
pub label-bytes : (d p s : List ℕ) → length d ≡ 32 → length s ≤ 24 → p ≡ pasted d 1 (label_bytes s) → take 25 (drop 1 p) ≡ label_bytes s
label-bytes [] p s e h q = absurd (omega (arith, e))
label-bytes (y ∷ d) p s e h q =
    ap (λ (z : List ℕ). take 25 (drop 1 z)) q ∙ take_at (label_bytes s) (drop (1 + length (label_bytes s)) (y ∷ d)) 25 (length_label_bytes s h)
