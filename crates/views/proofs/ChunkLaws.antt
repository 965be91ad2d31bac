-- Laws of the records in a table's bytes. Assumes nothing.
use Prim.Native.Nat.{ℕ, zero, suc, ◌+◌, ◌-◌, ◌*◌, ◌≤◌, ◌<◌}
use mathlib.Core.Path.{◌≡◌, refl, sym, ap, ◌∙◌}
use mathlib.Core.Bool.{not}
use mathlib.Core.List.{List, [], ◌∷◌, ◌++◌}
use native.Mathlib.Omega.{arith}
use native.Mathlib.Nat.{add-zero}
use native.Mathlib.Numerals.{add-one}
use lib.Dec.{eqb}
use lib.ListN.{length, get_or, take, drop, replicate}
use lib.Seq.{take-take, drop-drop, take-add, get_or-take, get_or-drop, length-take-le, take_at, drop_at, drop-append-le, drop-cons}
use Rattle.rights.specs.Table.{count, level, records, records_from}
use Rattle.views.specs.Change.{chunks, le4, join, changed}
use Rattle.rights.specs.Marks.{marks_of}
use Rattle.rights.proofs.TextLaws.{drop-take}

pub times : (w : ℕ) → suc w * 32 ≡ 32 + w * 32
times w = omega arith

pub length-chunks : (w : ℕ) (ys : List ℕ) → length (chunks w ys) ≡ w
unfolding chunks
length-chunks zero ys = refl
length-chunks (suc w) ys = ap suc (length-chunks w (drop 32 ys))

pub join-chunks : (w : ℕ) (ys : List ℕ) → join (chunks w ys) ≡ take (w * 32) ys
unfolding chunks join
join-chunks zero ys = refl
join-chunks (suc w) ys = rw (times w, take-add 32 (w * 32) ys, join-chunks w (drop 32 ys))

-- one record more, at the end
pub chunks_suc : (w : ℕ) (ys : List ℕ) → chunks (suc w) ys ≡ chunks w ys ++ (take 32 (drop (w * 32) ys) ∷ [])
unfolding chunks
chunks_suc zero ys = refl
chunks_suc (suc w) ys = rw (times w, ← drop-drop (w * 32) 32 ys) (ap (λ (r : List (List ℕ)). take 32 ys ∷ r) (chunks_suc w (drop 32 ys)))

-- the first w records are in the first w * 32 bytes
pub chunks-take : (w : ℕ) (ys : List ℕ) → chunks w (take (w * 32) ys) ≡ chunks w ys
unfolding chunks
chunks-take zero ys = refl
chunks-take (suc w) ys =
    let l : 32 ≤ 32 + w * 32 = omega arith in
    rw (times w, take-take 32 (32 + w * 32) ys l, drop-take 32 (w * 32) ys, chunks-take w (drop 32 ys))

pub same-chunks : (w : ℕ) (x y : List ℕ) → take (w * 32) x ≡ take (w * 32) y → chunks w x ≡ chunks w y
same-chunks w x y e = sym (chunks-take w x) ∙ ap (chunks w) e ∙ chunks-take w y

-- the table with its tail cleared and its count stored
pub is-changed : (w : ℕ) (t₀ t z p : List ℕ) (rs : List (List ℕ)) → length t ≡ length t₀ → 4 + w * 32 ≤ length t → chunks w (drop 4 t) ≡ rs
    → z ≡ take (4 + w * 32) t ++ replicate (length t - (4 + w * 32)) 0 → p ≡ le4 w ++ drop 4 z → p ≡ changed t₀ rs
unfolding changed
is-changed w t₀ t z p rs s l e ez ep =
    let h : 4 ≤ length (take (4 + w * 32) t) = rw (length-take-le (4 + w * 32) t l) (omega arith) in
    rw (ep, ez, drop-append-le 4 (take (4 + w * 32) t) _ h, drop-take 4 (w * 32) t, ← join-chunks w (drop 4 t), s, ← e, length-chunks w (drop 4 t))

-- the records of a table are the chunks behind its count
pub records-chunks : (t : List ℕ) (n i : ℕ) → records_from t n i ≡ chunks n (drop (4 + i * 32) t)
unfolding records_from chunks
records-chunks t zero i = refl
records-chunks t (suc n) i =
    let e : 4 + suc i * 32 ≡ 4 + i * 32 + 32 = omega arith in
    ap (λ (r : List (List ℕ)). take 32 (drop (4 + i * 32) t) ∷ r)
    (records-chunks t n (suc i) ∙ ap (chunks n) (ap (λ (k : ℕ). drop k t) e ∙ sym (drop-drop 32 (4 + i * 32) t)))

pub all-chunks : (t : List ℕ) → records t ≡ chunks (count t) (drop 4 t)
all-chunks t = records-chunks t (count t) 0

-- n records from record i on: the first of them and the others
module _ (n i : ℕ) (t : List ℕ) (inside : i < n) where
  pub chunks_cons : chunks (n - i) (drop (4 + i * 32) t) ≡ take 32 (drop (4 + i * 32) t) ∷ chunks (n - (i + 1)) (drop (4 + (i + 1) * 32) t)
  unfolding chunks
  chunks_cons =
      let s : n - i ≡ suc (n - (i + 1)) = omega arith in
      let d : 4 + (i + 1) * 32 ≡ 4 + i * 32 + 32 = omega arith in
      rw (s, d, ← drop-drop 32 (4 + i * 32) t)

pub level_first : (a : ℕ) (t : List ℕ) → level (take 32 (drop a t)) ≡ get_or t a 0
level_first a t =
    let l : 0 < 32 = omega arith in
    rw (get_or-take 32 (drop a t) 0 0 l, get_or-drop a t 0 0, add-zero a)

pub marks_drop : (ms : List ℕ) (i : ℕ) → i < length ms → marks_of (drop i ms) ≡ not (eqb (get_or ms i 0) 0) ∷ marks_of (drop (i + 1) ms)
marks_drop ms i h = rw (add-one i, drop-cons ms i 0 h)

-- one more record after w
pub one_more : (w : ℕ) (t p r : List ℕ) → 4 + w * 32 ≤ length t → take (4 + w * 32 + 32) p ≡ take (4 + w * 32) t ++ r
    → chunks (w + 1) (drop 4 p) ≡ chunks w (drop 4 t) ++ (r ∷ [])
one_more w t p r h e =
    let n : length (take (4 + w * 32) t) ≡ 4 + w * 32 = length-take-le (4 + w * 32) t h in
    let l : 4 + w * 32 ≤ 4 + w * 32 + 32 = omega arith in
    let old : take (4 + w * 32) p ≡ take (4 + w * 32) t =
    sym (take-take (4 + w * 32) (4 + w * 32 + 32) p l) ∙ ap (take (4 + w * 32)) e ∙ take_at (take (4 + w * 32) t) r (4 + w * 32) n in
    let olds : chunks w (drop 4 p) ≡ chunks w (drop 4 t) = same-chunks w (drop 4 p) (drop 4 t) (sym (drop-take 4 (w * 32) p) ∙ ap (drop 4) old ∙ drop-take 4 (w * 32) t) in
    let last : take 32 (drop (w * 32) (drop 4 p)) ≡ r =
    rw (drop-drop (w * 32) 4 p) (sym (drop-take (4 + w * 32) 32 p) ∙ ap (drop (4 + w * 32)) e ∙ drop_at (take (4 + w * 32) t) r (4 + w * 32) n) in
    rw (add-one w, chunks_suc w (drop 4 p), olds, last)
