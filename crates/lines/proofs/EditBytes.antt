-- What one line more in a policy changes, byte by byte. Assumes nothing.
use Prim.Native.Nat.{ℕ, zero, suc, ◌+◌, ◌*◌, ◌-◌, ◌≤◌, ◌<◌}
use mathlib.Core.Path.{◌≡◌, refl, sym, ap, ◌∙◌}
use mathlib.Core.Bool.{Bool, true}
use mathlib.Core.List.{List, [], ◌∷◌, ◌++◌, append_assoc}
use native.Mathlib.Nat.{add-zero, add_assoc}
use native.Mathlib.Numerals.{add-one}
use native.Mathlib.Omega.{arith}
use lib.Dec.{lit<}
use lib.ListN.{length, get_or, take, drop, set, length-append, length-drop, length-set, get_or-append}
use lib.Seq.{drop-drop, take-take, drop_at, take-append-le, take-append_seam, drop-append-le, drop-set-lt, get_or-set_same, get_or-set_other, get_or-take, get_or-drop, length-take-le, sets-eq}
use Rattle.rights.specs.Bytes.{all, is_zero, zeros}
use Rattle.rights.specs.Path.{Test}
use Rattle.rights.specs.declared.path.Axis.{Axis}
use Rattle.rights.specs.PolicyBytes.{subject_count, isa_count, rule_count}
use Rattle.lines.specs.PolicyEdit.{with_line, with_subject, with_isa, with_rule, rule_head, step_records}
use Rattle.rights.specs.Record.{name_record, pasted}
use Rattle.rights.proofs.TableLaws.{both}
use Rattle.rights.proofs.RecordLaws.{length-pasted}
use Rattle.rights.proofs.PartLaws.{part_in}
use Rattle.rights.proofs.TextLaws.{drop-take}

-- p and q have the same n bytes from byte a on
abbrev pub Alike : List ℕ → List ℕ → ℕ → ℕ → Type 0
Alike p q a n = take n (drop a q) ≡ take n (drop a p)

pub alike_in : (p q : List ℕ) (a n j m : ℕ) → Alike p q a n → j + m ≤ n → Alike p q (a + j) m
alike_in p q a n j m e h = part_in q a n j m h ∙ ap (λ (l : List ℕ). take m (drop j l)) e ∙ sym (part_in p a n j m h)

pub alike_part : (p q : List ℕ) (a n b m : ℕ) → Alike p q a n → a ≤ b → b + m ≤ a + n → Alike p q b m
alike_part p q a n b m e h k =
    let z : b ≡ a + (b - a) = omega arith in
    rw z (alike_in p q a n (b - a) m e (omega arith))

byte_of : (l : List ℕ) (b : ℕ) → get_or (take 1 (drop b l)) 0 0 ≡ get_or l b 0
byte_of l b = get_or-take 1 (drop b l) 0 0 (lit< tt) ∙ get_or-drop b l 0 0 ∙ ap (λ (k : ℕ). get_or l k 0) (add-zero b)

pub alike_byte : (p q : List ℕ) (a n b : ℕ) → Alike p q a n → a ≤ b → b < a + n → get_or q b 0 ≡ get_or p b 0
alike_byte p q a n b e h k =
    sym (byte_of q b) ∙ ap (λ (l : List ℕ). get_or l 0 0) (alike_part p q a n b 1 e h (omega arith)) ∙ byte_of p b

all_drop : (f : ℕ → Bool) (j : ℕ) (l : List ℕ) → all f l ≡ true → all f (drop j l) ≡ true
unfolding all
all_drop f zero l e = e
all_drop f (suc j) [] e = refl
all_drop f (suc j) (x ∷ l) e = all_drop f j l (both (f x) (all f l) e).1

all_take : (f : ℕ → Bool) (m : ℕ) (l : List ℕ) → all f l ≡ true → all f (take m l) ≡ true
unfolding all
all_take f zero l e = refl
all_take f (suc m) [] e = refl
all_take f (suc m) (x ∷ l) e = let w = both (f x) (all f l) e in rw w.0 (all_take f m l w.1)

pub zeros_part : (p : List ℕ) (a n b m : ℕ) → zeros p a n ≡ true → a ≤ b → b + m ≤ a + n → zeros p b m ≡ true
zeros_part p a n b m e h k =
    let z : b ≡ a + (b - a) = omega arith in
    rw (z, part_in p a n (b - a) m (omega arith)) (all_take is_zero m (drop (b - a) (take n (drop a p))) (all_drop is_zero (b - a) (take n (drop a p)) e))

pub zeros_alike : (p q : List ℕ) (a n : ℕ) → Alike p q a n → zeros p a n ≡ true → zeros q a n ≡ true
zeros_alike p q a n e z = ap (all is_zero) e ∙ z

-- one line more: x at byte at, and the count at byte c
module _ (p x : List ℕ) (c at : ℕ) (low : c < at) (room : at + length x ≤ length p) where
  head_length : length (take at p ++ x) ≡ at + length x
  head_length = length-append (take at p) x ∙ ap (λ (k : ℕ). k + length x) (length-take-le at p (omega arith))

  pub line_length : length (with_line p c at x) ≡ length p
  unfolding with_line
  line_length = length-set (pasted p at x) c (get_or p c 0 + 1) ∙ length-pasted p x at room

  pub line_count : get_or (with_line p c at x) c 0 ≡ get_or p c 0 + 1
  unfolding with_line
  line_count = get_or-set_same (pasted p at x) c (get_or p c 0 + 1) 0 (omega (arith, length-pasted p x at room))

  pub line_byte_lem : (i : ℕ) → (i ≡ c → ⊥) → i < at → get_or (with_line p c at x) i 0 ≡ get_or p i 0
  unfolding with_line
  line_byte_lem i n h =
      get_or-set_other (pasted p at x) c i (get_or p c 0 + 1) 0 n
      ∙ get_or-append (take at p ++ x) (drop (at + length x) p) 0 i (omega (arith, head_length))
      ∙ get_or-append (take at p) x 0 i (omega (arith, length-take-le at p (omega arith)))
      ∙ get_or-take at p i 0 h

  from_line : drop at (with_line p c at x) ≡ x ++ drop (at + length x) p
  unfolding with_line
  from_line =
      drop-set-lt at (pasted p at x) c (get_or p c 0 + 1) low
      ∙ ap (drop at) (append_assoc (take at p) x (drop (at + length x) p))
      ∙ drop_at (take at p) (x ++ drop (at + length x) p) at (length-take-le at p (omega arith))

  pub line_put : take (length x) (drop at (with_line p c at x)) ≡ x
  line_put = ap (take (length x)) from_line ∙ take-append_seam x (drop (at + length x) p)

  pub line_put_byte : (j : ℕ) → j < length x → get_or (with_line p c at x) (at + j) 0 ≡ get_or x j 0
  line_put_byte j h =
      sym (get_or-drop at (with_line p c at x) j 0)
      ∙ ap (λ (l : List ℕ). get_or l j 0) from_line
      ∙ get_or-append x (drop (at + length x) p) 0 j h

  after_line : drop (at + length x) (with_line p c at x) ≡ drop (at + length x) p
  unfolding with_line
  after_line =
      drop-set-lt (at + length x) (pasted p at x) c (get_or p c 0 + 1) (omega arith)
      ∙ drop_at (take at p ++ x) (drop (at + length x) p) (at + length x) head_length

  pub line_after_lem : (a n : ℕ) → at + length x ≤ a → Alike p (with_line p c at x) a n
  line_after_lem a n h =
      let e : a ≡ at + length x + (a - (at + length x)) = omega arith in
      rw e
      (ap (take n)
      (sym (drop-drop (a - (at + length x)) (at + length x) (with_line p c at x))
      ∙ ap (drop (a - (at + length x))) after_line
      ∙ drop-drop (a - (at + length x)) (at + length x) p))

  pub line_before : (a n : ℕ) → c < a → a + n ≤ at → Alike p (with_line p c at x) a n
  unfolding with_line
  line_before a n g h =
      let l : length (take at p) ≡ at = length-take-le at p (omega arith) in
      let e : at ≡ a + (at - a) = omega arith in
      ap (take n)
      (drop-set-lt a (pasted p at x) c (get_or p c 0 + 1) g
      ∙ ap (drop a) (append_assoc (take at p) x (drop (at + length x) p))
      ∙ drop-append-le a (take at p) (x ++ drop (at + length x) p) (omega arith))
      ∙ take-append-le n (drop a (take at p)) (x ++ drop (at + length x) p) (omega (arith, length-drop a (take at p)))
      ∙ ap (λ (k : ℕ). take n (drop a (take k p))) e
      ∙ ap (take n) (drop-take a (at - a) p)
      ∙ take-take n (at - a) (drop a p) (omega arith)

-- a text pasted right before another one
pub pasted-before : (d x y : List ℕ) (a : ℕ) → a + length x ≤ length d → pasted (pasted d (a + length x) y) a x ≡ pasted d a (x ++ y)
pasted-before d x y a h =
    let l : length (take (a + length x) d) ≡ a + length x = length-take-le (a + length x) d h in
    ap (λ (e : List ℕ). take a e ++ x ++ drop (a + length x) e) (append_assoc (take (a + length x) d) y (drop (a + length x + length y) d))
    ∙ rw (take-append-le a (take (a + length x) d) (y ++ drop (a + length x + length y) d) (omega arith), take-take a (a + length x) d (omega arith), drop_at (take (a + length x) d) (y ++ drop (a + length x + length y) d) (a + length x) l, length-append x y, ← (add_assoc a (length x) (length y))) (simp append_assoc)

-- what the writers leave is the definition's
pub subject_written : (p q x : List ℕ) (w : ℕ) → w ≡ subject_count p → q ≡ pasted p (8 + w * 32) (name_record 0 x) → set q 0 (get_or p 0 0 + 1) ≡ with_subject p x
unfolding with_line
subject_written p q x w e h = rw (h, e)

pub isa_written : (p : List ℕ) (n r w : ℕ) → w ≡ isa_count p → 2056 + w * 2 + 2 ≤ length p → set (set (set p (2056 + w * 2) n) (2056 + w * 2 + 1) r) 1 (get_or p 1 0 + 1) ≡ with_isa p n r
unfolding with_line
isa_written p n r w e h =
    let z : set (set p (2056 + w * 2) n) (suc (2056 + w * 2)) r ≡ pasted p (2056 + isa_count p * 2) (n ∷ r ∷ []) =
    sets-eq (n ∷ r ∷ []) p (2056 + w * 2) h ∙ ap (λ (k : ℕ). pasted p (2056 + k * 2) (n ∷ r ∷ [])) e in
    rw (add-one (2056 + w * 2)) (ap (λ (l : List ℕ). set l 1 (get_or p 1 0 + 1)) z)

pub rule_written : (p q q' : List ℕ) (accept bit who w n : ℕ) (ws : List (Axis × Test)) → w ≡ rule_count p → n ≡ length ws → 2312 + w * 520 + 8 ≤ length p
    → q ≡ pasted p (2312 + w * 520 + 8) (step_records ws) → q' ≡ pasted q (2312 + w * 520) (rule_head accept bit who n) → set q' 2 (get_or p 2 0 + 1) ≡ with_rule p accept bit who ws
unfolding with_line
rule_written p q q' accept bit who w n ws e m h a b =
    ap (λ (l : List ℕ). set l 2 (get_or p 2 0 + 1))
    (b
    ∙ ap (λ (l : List ℕ). pasted l (2312 + w * 520) (rule_head accept bit who n)) a
    ∙ ap (λ (k : ℕ). pasted (pasted p (2312 + w * 520 + 8) (step_records ws)) (2312 + w * 520) (rule_head accept bit who k)) m
    ∙ pasted-before p (rule_head accept bit who (length ws)) (step_records ws) (2312 + w * 520) h
    ∙ ap (λ (k : ℕ). pasted p (2312 + k * 520) (rule_head accept bit who (length ws) ++ step_records ws)) e)
