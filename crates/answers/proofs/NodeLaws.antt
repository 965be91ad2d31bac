-- The label of a shown node, as it is read; the other laws of a view's levels and labels stand in rights. Assumes nothing.
use Prim.Native.Nat.{ℕ, ◌+◌, ◌≤◌, ◌<◌}
use mathlib.Core.Path.{◌≡◌, sym, ap, ◌∙◌}
use mathlib.Core.List.{List}
use native.Mathlib.Omega.{arith}
use lib.ListN.{length, get_or, take, drop}
use Rattle.rights.specs.Nodes.{label_at}
use Rattle.rights.specs.How.Numbers.{record_place, view_of, Fits}
use Rattle.rights.proofs.PassLaws.{label_clear}
use Rattle.rights.proofs.TextLaws.{text_eq}

-- the bytes of a record's label
pub label_read : (table shown : List ℕ) (i : ℕ) → i < length shown → Fits table shown → get_or shown i 0 < 16384 → (place n : ℕ) → place ≡ record_place (get_or shown i 0)
    → n ≡ get_or table (place + 1) 0 → take n (drop (place + 2) table) ≡ label_at (view_of table shown) i
label_read table shown i h g l place n e q =
    rw e (text_eq table (record_place (get_or shown i 0)) (g.stands i h) n (q ∙ ap (λ (k : ℕ). get_or table (k + 1) 0) e)) ∙ sym (label_clear table shown i h l)

-- its length
pub label_short : (table : List ℕ) (x : ℕ) {place n : ℕ} → get_or table (x + 1) 0 ≤ 24 → place ≡ x → n ≡ get_or table (place + 1) 0 → n ≤ 24
label_short table x {place} {n} s e q = let r : get_or table (place + 1) 0 ≡ get_or table (x + 1) 0 = rw e in omega arith
