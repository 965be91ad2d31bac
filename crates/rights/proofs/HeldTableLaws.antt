-- A table as records of 32 bytes are held in it: what is read of it again. Assumes nothing.
use Prim.Native.Nat.{ℕ, zero, suc, ◌+◌, ◌*◌, ◌-◌, ◌/◌, ◌%◌, ◌≤◌, ◌<◌}
use mathlib.Core.Path.{◌≡◌, refl, sym, ap, ◌∙◌}
use mathlib.Core.Bool.{true}
use mathlib.Core.List.{List, [], ◌∷◌, ◌++◌, map}
use native.Mathlib.Nat.{zero-add}
use native.Mathlib.Omega.{arith}
use lib.ListN.{length, get_or, take, drop, replicate, length-append, length-replicate, length-map, get_or-map}
use lib.Seq.{drop_at, drop-drop}
use Rattle.rights.specs.Limits.{records_max}
use Rattle.rights.specs.Bytes.{all, is_zero}
use Rattle.rights.specs.Marks.{each_from}
use Rattle.rights.specs.Table.{record_at, records_from, records_ok, count, capacity, records, table_ok}
use Rattle.rights.specs.Held.{le4, join, table_bytes}
use Rattle.rights.proofs.AllLaws.{each_of}
use Rattle.rights.proofs.MarkLaws.{each_at}
use Rattle.rights.proofs.PlaceLaws.{Wide, length-join, join_at}
use Rattle.rights.proofs.RecordOfLaws.{zeros_zero}
use Rattle.rights.proofs.RecordsOkLaws.{table_yes}
use Rattle.rights.proofs.TableLaws.{capacity_exact}

pub records-each : (t : List ℕ) (n i : ℕ) → records_from t n i ≡ each_from (record_at t) i n
unfolding records_from each_from
records-each t zero i = refl
records-each t (suc n) i = ap (λ (l : List (List ℕ)). record_at t i ∷ l) (records-each t n (suc i))

pub record_at_lem : (t : List ℕ) (n k : ℕ) (d : List ℕ) → k < n → get_or (records_from t n 0) k d ≡ record_at t k
record_at_lem t n k d h = ap (λ (l : List (List ℕ)). get_or l k d) (records-each t n 0) ∙ each_at (record_at t) d 0 n k h ∙ ap (record_at t) (zero-add k)

-- the count's bytes are those of its number
pub count-bytes : (t : List ℕ) → 4 ≤ length t → ((i : ℕ) → get_or t i 0 < 256) → le4 (count t) ≡ take 4 t
count-bytes [] h b = absurd (omega arith)
count-bytes (p ∷ []) h b = absurd (omega arith)
count-bytes (p ∷ q ∷ []) h b = absurd (omega arith)
count-bytes (p ∷ q ∷ r ∷ []) h b = absurd (omega arith)
count-bytes (p ∷ q ∷ r ∷ s ∷ t) h b =
    let x : p < 256 = b 0 in
    let y : q < 256 = b 1 in
    let z : r < 256 = b 2 in
    let w : s < 256 = b 3 in
    let n : ℕ = p + q * 256 + r * 65536 + s * 16777216 in
    let b1 : n / 256 ≡ q + r * 256 + s * 65536 = omega arith in
    let b2 : n / 65536 ≡ r + s * 256 = omega arith in
    let b3 : n / 16777216 ≡ s = omega arith in
    let a0 : n % 256 ≡ p = omega arith in
    let a1 : (q + r * 256 + s * 65536) % 256 ≡ q = omega arith in
    let a2 : (r + s * 256) % 256 ≡ r = omega arith in
    let a3 : s % 256 ≡ s = omega arith in
    rw (b1, b2, b3, a0, a1, a2, a3)

module _ {A : Type 0} (f : A → List ℕ) (d : A) (n : ℕ) (xs : List A) (head : 4 ≤ n) (room : length xs ≤ capacity n) (wide : Wide f 32 xs) where
  abbrev held : List ℕ
  held = table_bytes n (map f xs)

  abbrev blank : List ℕ
  blank = replicate (n - (4 + length (map f xs) * 32)) 0

  fits : (4 + length (map f xs) * 32 ≤ n) × (length (map f xs) ≤ records_max)
  fits = rw (length-map xs f) ((capacity_exact n (length xs) head).0 room)

  records_long : length (join (map f xs)) ≡ length (map f xs) * 32
  records_long = length-join f 32 xs wide ∙ ap (λ (k : ℕ). k * 32) (sym (length-map xs f))

  pub length_table : length held ≡ n
  length_table =
      let e : length (join (map f xs) ++ blank) ≡ length (map f xs) * 32 + (n - (4 + length (map f xs) * 32)) =
      length-append (join (map f xs)) blank ∙ rw (records_long, length-replicate {A = ℕ} (n - (4 + length (map f xs) * 32)) 0) in
      omega (arith, e, fits.0)

  pub count_table : count held ≡ length (map f xs)
  count_table = let m : ℕ = length (map f xs) in let h : m ≤ 16384 = fits.1 in omega (arith, h)

  record_held : (k : ℕ) → k < length xs → record_at held k ≡ f (get_or xs k d)
  record_held k h = ap (take 32) (sym (drop-drop (k * 32) 4 held)) ∙ join_at f 32 xs blank d k wide h

  pub records_table : records held ≡ map f xs
  records_table =
      ap (λ (k : ℕ). records_from held k 0) count_table
      ∙ records-each held (length (map f xs)) 0
      ∙ each_of (record_at held) (f d) (map f xs) 0
      (λ k h. ap (record_at held) (zero-add k) ∙ record_held k (omega (arith, length-map xs f)) ∙ sym (get_or-map f xs k d))

  clear : all is_zero (drop (4 + count held * 32) held) ≡ true
  clear =
      ap (λ (k : ℕ). all is_zero (drop (4 + k * 32) held)) count_table
      ∙ ap (all is_zero) (sym (drop-drop (length (map f xs) * 32) 4 held) ∙ drop_at (join (map f xs)) blank (length (map f xs) * 32) records_long)
      ∙ zeros_zero (n - (4 + length (map f xs) * 32))

  pub table_passes : records_ok 0 0 (map f xs) ≡ true → table_ok held ≡ true
  table_passes e =
      table_yes held (omega (arith, length_table, head))
      (rw (length_table, count_table, length-map xs f) room)
      (ap (records_ok 0 0) records_table ∙ e)
      ∙ clear
