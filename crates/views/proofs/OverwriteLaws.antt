-- Laws of bytes put over each marked record. Assumes nothing.
use mathlib.Core.Path.{◌≡◌, ap, sym, ◌∙◌}
use mathlib.Core.List.{List, ◌++◌, append_assoc, append-nil}
use mathlib.Core.Bool.{true, cond, not}
use Prim.Native.Nat.{ℕ, ◌+◌, ◌-◌, ◌*◌, ◌≤◌, ◌<◌}
use native.Mathlib.Omega.{arith}
use native.Mathlib.Nat.{zero-add}
use lib.ListN.{length, get_or, take, drop, replicate, take-append-drop, length-append, length-drop}
use lib.Seq.{take-take, take-add, drop-drop, take_at, drop_at, length-take-le, take-append-le, drop-append-le}
use lib.Dec.{eqb}
use borrow.Author.Tests.{eq-eqb, ne_eqb}
use Rattle.rights.specs.Table.{level, count, table_ok}
use Rattle.rights.specs.Record.{pasted}
use Rattle.rights.specs.Marks.{marks_of}
use Rattle.rights.proofs.HeldTableLaws.{count-bytes}
use Rattle.rights.proofs.PlaceLaws.{zero_replicate}
use Rattle.rights.proofs.RecordLaws.{length-pasted}
use Rattle.views.specs.Change.{rename, chunks, changed}
use Rattle.views.specs.How.Pass.{overwritten, rest}
use Rattle.views.proofs.ChunkLaws.{join-chunks, one_more, marks_drop}
use Rattle.views.proofs.CopyLaws.{drop_more}
use Rattle.views.proofs.RecordBytes.{rest_cons, rest-same, rest-none}
use Rattle.views.proofs.TableLaws.{facts}

-- bytes put over the record at byte `at`
module _ (t p x : List ℕ) (at k : ℕ) (room : at + 32 ≤ length t) (fits : k + length x ≤ 32) (e : p ≡ pasted t (at + k) x) where
  old : List ℕ
  old = take 32 (drop at t)

  full : length old ≡ 32
  unfolding old
  full = length-take-le 32 (drop at t) (rw (length-drop at t) (omega arith))

  parts : p ≡ (take at t ++ overwritten k x old) ++ drop (at + 32) t
  unfolding old
  parts =
      let l : k ≤ 32 = omega arith in
      let n : at + k + length x ≡ at + (k + length x) = omega arith in
      let a : take (at + k) t ≡ take at t ++ take k old = take-add at k t ∙ ap (λ (z : List ℕ). take at t ++ z) (sym (take-take k 32 (drop at t) l)) in
      let b : drop (at + (k + length x)) t ≡ drop (k + length x) old ++ drop (at + 32) t =
      sym (drop-drop (k + length x) at t) ∙ ap (drop (k + length x)) (sym (take-append-drop 32 (drop at t)))
      ∙ drop-append-le (k + length x) old (drop 32 (drop at t)) (omega (arith, full)) ∙ ap (λ (z : List ℕ). drop (k + length x) old ++ z) (drop-drop 32 at t) in
      e ∙ rw (n, a, b) (simp append_assoc)

  length_front : length (take at t ++ overwritten k x old) ≡ at + 32
  length_front = rw (length-append, length-take-le at t (omega arith), length-pasted old x k (omega (arith, full)), full)

  pub over_front : take (at + 32) p ≡ take at t ++ overwritten k x (take 32 (drop at t))
  unfolding old
  over_front = ap (take (at + 32)) parts ∙ take_at (take at t ++ overwritten k x old) (drop (at + 32) t) (at + 32) length_front

  pub over_back : drop (at + 32) p ≡ drop (at + 32) t
  over_back = ap (drop (at + 32)) parts ∙ drop_at (take at t ++ overwritten k x old) (drop (at + 32) t) (at + 32) length_front

pub marked_front : (b : ℕ) (x y z w : List ℕ) → (b ≡ 0 → ⊥) → x ≡ y ++ z → x ≡ y ++ cond (not (eqb b 0)) z w
marked_front b x y z w n e = rw (ne_eqb b 0 n) e

pub unmarked_front : (b i : ℕ) (t z : List ℕ) → b ≡ 0 → take (4 + i * 32 + 32) t ≡ take (4 + i * 32) t ++ cond (not (eqb b 0)) z (take 32 (drop (4 + i * 32) t))
unmarked_front b i t z n = rw (eq-eqb b 0 n) (take-add (4 + i * 32) 32 t)

-- the first i of n records have become f of them, where they are marked
module _ (n : ℕ) (f : List ℕ → List ℕ) (ms : List ℕ) where
  pub halfway : ℕ → List ℕ → List (List ℕ)
  halfway i t = chunks i (drop 4 t) ++ rename level f (marks_of (drop i ms)) (rest n 0 i t)

  pub halfway_none : (t : List ℕ) → halfway 0 t ≡ rename level f (marks_of ms) (chunks n (drop 4 t))
  unfolding halfway chunks
  halfway_none t = let z : n - 0 ≡ n = omega arith in rw z

  pub halfway_all : (i : ℕ) (t : List ℕ) → n ≤ i → halfway i t ≡ chunks i (drop 4 t)
  unfolding halfway rename
  halfway_all i t h = rw (rest-none n 0 i t h, append-nil)

  module _ (i : ℕ) (t p : List ℕ) (inside : i < n) (many : n ≤ length ms) (size : 4 + n * 32 ≤ length t)
      (head : take (4 + i * 32 + 32) p ≡ take (4 + i * 32) t ++ cond (not (eqb (get_or ms i 0) 0)) (f (take 32 (drop (4 + i * 32) t))) (take 32 (drop (4 + i * 32) t)))
      (back : drop (4 + i * 32 + 32) p ≡ drop (4 + i * 32 + 32) t) where
    whole-stays : halfway (i + 1) p ≡ halfway i t
    unfolding halfway rename
    whole-stays =
        let h : i < length ms = omega arith in
        let o = one_more i t p _ (omega arith) head in
        let r : rest n 0 (i + 1) p ≡ rest n 0 (i + 1) t = rest-same n 0 (i + 1) (4 + i * 32 + 32) t p (omega arith) back in
        rw (o, r, rest_cons n 0 i t inside, marks_drop ms i h, zero-add i) (append_assoc (chunks i (drop 4 t)) _ _)

    count-stays : take 4 p ≡ take 4 t
    count-stays =
        let a : 4 ≤ 4 + i * 32 + 32 = omega arith in
        let b : 4 ≤ 4 + i * 32 = omega arith in
        let c : 4 ≤ length (take (4 + i * 32) t) = rw (length-take-le (4 + i * 32) t (omega arith)) b in
        sym (take-take 4 (4 + i * 32 + 32) p a) ∙ ap (take 4) head ∙ take-append-le 4 (take (4 + i * 32) t) _ c ∙ take-take 4 (4 + i * 32) t b

    tail-stays : drop (4 + n * 32) p ≡ drop (4 + n * 32) t
    tail-stays = drop_more (4 + i * 32 + 32) ((n - (i + 1)) * 32) p t (4 + n * 32) (omega arith) back

    pub halfway_more : (halfway (i + 1) p ≡ halfway i t) × (take 4 p ≡ take 4 t) × (drop (4 + n * 32) p ≡ drop (4 + n * 32) t)
    halfway_more = (whole-stays, count-stays, tail-stays)

-- the whole table
pub overwritten_table : (t p : List ℕ) (rs : List (List ℕ)) → table_ok t ≡ true → ((i : ℕ) → get_or t i 0 < 256) → length p ≡ length t → length rs ≡ count t
    → chunks (count t) (drop 4 p) ≡ rs → take 4 p ≡ take 4 t → drop (4 + count t * 32) p ≡ drop (4 + count t * 32) t → p ≡ changed t rs
unfolding changed
overwritten_table t p rs ok small l k e a b =
    let f = facts t ok in
    let z : drop (4 + count t * 32) t ≡ replicate (length t - (4 + count t * 32)) 0 = rw (← length-drop (4 + count t * 32) t) (zero_replicate (drop (4 + count t * 32) t) f.clear) in
    sym (take-append-drop 4 p)
    ∙ rw (a, k, ← count-bytes t f.head small, ← z, ← b, ← e, join-chunks (count t) (drop 4 p), ← drop-drop (count t * 32) 4 p, take-append-drop (count t * 32) (drop 4 p))
