-- What is printed of a line's outcome is put at the front of its area. Assumes nothing.
use Prim.Native.Nat.{ℕ, ◌+◌, ◌-◌, ◌≤◌, ◌<◌}
use mathlib.Core.Path.{◌≡◌, refl, sym, ap, ◌∙◌}
use mathlib.Core.List.{List, ◌++◌, append_assoc}
use native.Mathlib.Omega.{arith}
use borrow.Rule.Slice.PartMut.{put_mid, same_len_mid}
use borrow.Author.Tests.{le-leb, lt-leb}
use lib.ListN.{length, take, drop, length-drop, take-append-drop}
use lib.Seq.{drop-append-le, drop-drop, length-take-le}
use Rattle.answers.specs.Answer.{refused_text}
use Rattle.answers.specs.How.AnswerArea.{Puts, Answered}
use Rattle.lines.specs.Outcome.{Answer, Accepted, Refused, Reply, says, refuses, Outcome, Made, answer_of, area_after, refusal}
use Rattle.lines.specs.Refusal.{bad_line}
use Rattle.store.specs.Line.{step}
use Rattle.timetable.specs.Program.{printed}
use Rattle.timetable.specs.How.Run.{Prints, ended, line_in}

-- a refusal's text, in an area that surely has room for it
refused-put : (n : ℕ) (before after : List ℕ) (k : ℕ) → Answered (refused_text n) before after k × (k < 32) → 32 ≤ length before → length after ≡ length before
    → Puts (refused_text n) 0 before after k
refused-put n before after k a h same =
    let fits : length (refused_text n) ≤ length before = omega (arith, a.0.size, a.1) in
    record {
      next = omega (arith, a.0.size);
      same = same;
      fits = λ l. rw a.0.size (rw (le-leb (length (refused_text n)) (length before) fits) at a.0.area);
    }

-- a refused line leaves the store, and its refusal is printed
pub prints_refusal : (n : ℕ) (s t before after : List ℕ) (k : ℕ) → Answered (refused_text n) before after k × (k < 32) → 32 ≤ length before → length after ≡ length before
    → Prints (refusal n s t) 0 before k s t after
prints_refusal n s t before after k a h same = record { state = refl; table = refl; text = refused-put n before after k a h same; fits = omega (arith, a.1) }

module _ {o : Outcome} {before s' t' after : List ℕ} {r : Answer} (m : Made o before r s' t' after) where
  pub prints_accepted : (n : ℕ) → r ≡ Accepted n → length after ≡ length before → n ≤ length after → Prints o 0 before n s' t' after
  prints_accepted n e same h = record { state = m.state; table = m.table; text = go o.reply (sym e ∙ m.answer) m.area; fits = omega arith }
    where
      go : (p : Reply) → Accepted n ≡ answer_of p → after ≡ area_after p before → Puts (printed p) 0 before after n
      go (says b) q a = let z : n ≡ length b = cc in record { next = omega arith; same = same; fits = λ l. rw z a }
      go (refuses k) q a = let z : ◌≡◌ {A = ℕ} 0 1 = cc in absurd (omega arith)

  pub prints_refused : (n : ℕ) → r ≡ Refused n → (last : List ℕ) (k : ℕ) → Answered (refused_text n) after last k × (k < 32) → 32 ≤ length before → length last ≡ length before
      → Prints o 0 before k s' t' last
  prints_refused n e last k a h same = record { state = m.state; table = m.table; text = go o.reply (sym e ∙ m.answer) m.area; fits = omega (arith, a.1) }
    where
      go : (p : Reply) → Refused n ≡ answer_of p → after ≡ area_after p before → Puts (printed p) 0 before last k
      go (says b) q z = let z : ◌≡◌ {A = ℕ} 0 1 = cc in absurd (omega arith)
      go (refuses j) q z =
          let i : j ≡ n = cc in
          rw i (refused-put n before last k (rw z at a) h same)

-- a line that has ended: one that is too long, and the bytes that the buffer holds
module _ (s t buffer : List ℕ) (used : ℕ) {at r : ℕ} {before s' t' after : List ℕ} where
  pub ended_long : (room : ℕ) → length buffer < used → Prints (refusal bad_line s t) at before r s' t' after
      → Prints (ended s t (line_in buffer used) room) at before r s' t' after
  ended_long room h p = rw (lt-leb used (length buffer) h) p

  pub ended_short : (room : ℕ) → used ≤ length buffer → Prints (step s t (take (used - 0) (drop 0 buffer)) room) at before r s' t' after
      → Prints (ended s t (line_in buffer used) room) at before r s' t' after
  ended_short room h p = let z : used - 0 ≡ used = omega arith in rw (le-leb used (length buffer) h, ← z) p

-- what is printed into the area that lies behind the bytes that wait
pub prints_behind : (f : ℕ → Outcome) (at r : ℕ) (out part' : List ℕ) {s' t' : List ℕ} → length out ≡ 131072 → at ≤ 65536
    → Prints (f (length (take ((at + 65536) - at) (drop at out)))) 0 (take ((at + 65536) - at) (drop at out)) r s' t' part'
    → Prints (f 65536) at out (at + r) s' t' (put_mid at ((at + 65536) - at) out part')
prints_behind f at r out part' {s'} {t'} size h p =
    let n : length (take ((at + 65536) - at) (drop at out)) ≡ 65536 = length-take-le ((at + 65536) - at) (drop at out) (omega (arith, length-drop at out)) ∙ omega arith in
    let q : Prints (f 65536) 0 (take ((at + 65536) - at) (drop at out)) r s' t' part' = rw n at p in
    let text = printed (f 65536).reply in
    let post = drop ((at + 65536) - at) (drop at out) in
    let l : r ≤ length (take ((at + 65536) - at) (drop at out)) = q.fits in
    let d : drop r (take ((at + 65536) - at) (drop at out)) ++ post ≡ drop (at + r) out =
    sym (drop-append-le r (take ((at + 65536) - at) (drop at out)) post l) ∙ ap (drop r) (take-append-drop ((at + 65536) - at) (drop at out)) ∙ drop-drop r at out in
    record {
      state = q.state;
      table = q.table;
      text = record {
        next = omega (arith, q.text.next);
        same = same_len_mid at ((at + 65536) - at) out part' q.text.same;
        fits = λ k.
            ap (λ (x : List ℕ). take at out ++ (x ++ post)) (q.text.fits l)
            ∙ ap (take at out ++◌) (append_assoc text (drop r (take ((at + 65536) - at) (drop at out))) post ∙ ap (text ++◌) d);
      };
      fits = omega (arith, l, n);
    }
