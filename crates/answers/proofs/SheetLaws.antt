-- The sheet for a room's door: "nine rows of exactly 72 bytes and a line feed", whatever the view. Assumes nothing.
use Prim.Native.Nat.{ℕ, ◌+◌, ◌*◌}
use mathlib.Core.Path.{◌≡◌, refl, ap, ◌∙◌}
use mathlib.Core.List.{List, [], ◌∷◌, ◌++◌, map}
use native.Mathlib.Omega.{arith}
use lib.ListN.{length, take, replicate, length-append}
use lib.Seq.{length-take-le}
use Rattle.rights.specs.Bytes.{bytes}
use Rattle.rights.specs.Nodes.{Nodes, label_at}
use Rattle.rights.specs.XPath.{each}
use Rattle.answers.specs.Sheet.{cell, days, lesson, row_text, head_row, row, periods, sheet_text}

-- Lengths

pub cell-length : (s : List ℕ) → length (cell s) ≡ 14
unfolding cell
cell-length s =
    let n : length (s ++ replicate 13 32) ≡ length s + 13 = length-append s (replicate 13 32) in
    let k : length (take 13 (s ++ replicate 13 32)) ≡ 13 = length-take-le 13 (s ++ replicate 13 32) (omega arith) in
    length-append (take 13 (s ++ replicate 13 32)) (bytes "|") ∙ omega (arith, k)

-- texts of one length, one after the other
pub each-length : {A : Type 0} (f : A → List ℕ) (k : ℕ) → ((x : A) → length (f x) ≡ k) → (xs : List A) → length (each f xs) ≡ length xs * k
unfolding each
each-length f k h [] = omega arith
each-length f k h (x ∷ xs) = length-append (f x) (each f xs) ∙ omega (arith, h x, each-length f k h xs)

pub days-length : (t : Nodes) → length (days t) ≡ 5
unfolding days
days-length t = refl

-- 72 bytes and a line feed
abbrev pub RowText : List ℕ → Type 0
RowText s = (body : List ℕ) × (length body ≡ 72) × (s ≡ body ++ bytes "\n")

row_text_lem : (first : ℕ) (t : Nodes) (is : List ℕ) → length is ≡ 5 → RowText (row_text first t is)
unfolding row_text
row_text_lem first t is h =
    let cells = each (λ i. cell (label_at t i)) is in
    (first ∷ (bytes " " ++ cells), omega (arith, h, each-length (λ i. cell (label_at t i)) 14 (λ i. cell-length (label_at t i)) is), refl)

pub head_row_is : (t : Nodes) → RowText (head_row t)
unfolding head_row
head_row_is t = row_text_lem 32 t (days t) (days-length t)

pub row_is : (room : List ℕ) (t : Nodes) (n : ℕ) → RowText (row room t n)
unfolding row days
row_is room t n = row_text_lem (48 + n) t (map (lesson room t n) (days t)) refl

row-length : (s : List ℕ) → RowText s → length s ≡ 73
row-length s r = ap length r.2 ∙ length-append r.0 (bytes "\n") ∙ omega (arith, r.1)

-- Nine rows
pub sheet_length : (room : List ℕ) (t : Nodes) → length (sheet_text room t) ≡ 657
unfolding sheet_text
sheet_length room t =
    length-append (head_row t) (each (row room t) periods)
    ∙ omega (arith, row-length (head_row t) (head_row_is t), each-length (row room t) 73 (λ n. row-length (row room t n) (row_is room t n)) periods)
