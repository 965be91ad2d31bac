-- In whatever chunks the input comes, what the program hands to `write`, in order, is `answers_to` of it. Assumes nothing.
use Prim.Native.Nat.{ℕ, ◌+◌}
use mathlib.Core.Path.{◌≡◌, refl, sym, ap, ◌∙◌}
use mathlib.Core.Bool.{cond}
use mathlib.Core.List.{List, [], ◌∷◌, ◌++◌, append_assoc, append-nil}
use native.Mathlib.Omega.{arith}
use borrow.Author.Tests.{leb-false, ltb-true, ltb-false, le-leb, lt-leb}
use lib.Dec.{leb, ltb, eqb}
use lib.ListN.{length, take, length-append}
use Rattle.rights.proofs.ListLaws.{by_case}
use Rattle.timetable.specs.Program.{line_max, area_bytes, input_max, line_feed, lines_from, outcome_of, replies_from, replies_to, printed, printed_all, answers_to}
use Rattle.timetable.specs.How.Run.{Line, short, too_long, longer, ended, Run, line_ended, overflow, byte_taken, byte_hands, chunk_taken, chunk_hands, written, joined, last_hands, run_hands, start}

-- The line so far as the program keeps it

abbrev line_of : List ℕ → Line
line_of line = cond (leb (length line) line_max) (short line) too_long

longer_of : (line : List ℕ) (b : ℕ) → longer (line_of line) b ≡ line_of (line ++ (b ∷ []))
longer_of line b =
    let n : length (line ++ (b ∷ [])) ≡ length line + 1 = length-append line (b ∷ []) in
    by_case (leb (length line) line_max)
    (λ e. by_case (ltb (length line) line_max)
    (λ q. rw (e, q, le-leb (length (line ++ (b ∷ []))) line_max (omega (arith, n, ltb-true (length line) line_max q))))
    (λ q. rw (e, q, lt-leb (length (line ++ (b ∷ []))) line_max (omega (arith, n, ltb-false (length line) line_max q)))))
    (λ e. rw (e, lt-leb (length (line ++ (b ∷ []))) line_max (omega (arith, n, leb-false (length line) line_max e))))

ended_of : (s t line : List ℕ) → ended s t (line_of line) area_bytes ≡ outcome_of s t line
unfolding outcome_of
ended_of s t line = by_case (leb (length line) line_max) (λ e. rw e) (λ e. rw e)

-- the answers to the rest of the input, from a run whose line so far is `line`
abbrev answers_from : Run → List ℕ → List ℕ → List ℕ
answers_from m line rest = printed_all (replies_from m.state m.table (lines_from line rest))

-- the line so far after a byte, and after a chunk
abbrev line_after : List ℕ → ℕ → List ℕ
line_after line b = cond (eqb b line_feed) [] (line ++ (b ∷ []))

unfoldable line_behind : List ℕ → List ℕ → List ℕ
line_behind line [] = line
line_behind line (b ∷ bs) = line_behind (line_after line b) bs

module _ (m : Run) (line : List ℕ) (e : m.line ≡ line_of line) where
  line_kept : (b : ℕ) → (byte_taken m b).line ≡ line_of (line_after line b)
  unfolding byte_taken
  line_kept b = by_case (eqb b line_feed) (λ q. rw q) (λ q. rw (q, e) (longer_of line b))

  -- what waits, and what is handed over, is what waited and the answer behind it
  overflow_waits : (w rest : List ℕ) → overflow w ++ (cond (leb (length w) area_bytes) w [] ++ rest) ≡ w ++ rest
  overflow_waits w rest = by_case (leb (length w) area_bytes) (λ q. rw q) (λ q. rw q)

  byte_answers : (b : ℕ) (rest : List ℕ)
      → m.waits ++ answers_from m line (b ∷ rest) ≡ byte_hands m b ++ ((byte_taken m b).waits ++ answers_from (byte_taken m b) (line_after line b) rest)
  unfolding byte_taken byte_hands lines_from replies_from printed_all
  byte_answers b rest =
      by_case (eqb b line_feed)
      (λ q.
      let o : ended m.state m.table m.line area_bytes ≡ outcome_of m.state m.table line = rw e (ended_of m.state m.table line) in
      rw (q, o)
      (sym (overflow_waits (m.waits ++ printed (outcome_of m.state m.table line).reply) _ ∙ append_assoc m.waits (printed (outcome_of m.state m.table line).reply) _)))
      (λ q. rw q)

chunk_answers : (m : Run) (line : List ℕ) → m.line ≡ line_of line → (c rest : List ℕ)
    → (m.waits ++ answers_from m line (c ++ rest) ≡ chunk_hands m c ++ answers_from (chunk_taken m c) (line_behind line c) rest)
    × ((chunk_taken m c).line ≡ line_of (line_behind line c))
unfolding chunk_hands chunk_taken line_behind
chunk_answers m line e [] rest = (refl, e)
chunk_answers m line e (b ∷ c) rest =
    let r = chunk_answers (byte_taken m b) (line_after line b) (line_kept m line e b) c rest in
    (byte_answers m line e b (c ++ rest) ∙ ap (byte_hands m b ++◌) r.0 ∙ sym (append_assoc (byte_hands m b) (chunk_hands (byte_taken m b) c) _), r.1)

-- the last line, which lacks its line feed
last_answers : (m : Run) (line : List ℕ) → m.waits ≡ [] → m.line ≡ line_of line → answers_from m line [] ≡ last_hands m m.line
unfolding lines_from replies_from printed_all
last_answers m [] w e = rw e
last_answers m (a ∷ line) w e =
    let o : ended m.state m.table m.line area_bytes ≡ outcome_of m.state m.table (a ∷ line) = rw e (ended_of m.state m.table (a ∷ line)) in
    let p = printed (outcome_of m.state m.table (a ∷ line)).reply in
    let q : (line_ended m).waits ≡ p = rw (o, w) in
    append-nil p
    ∙ sym (by_case (leb (length (a ∷ line)) line_max)
    (λ z. let k : m.line ≡ short (a ∷ line) = e ∙ rw z in ap (last_hands m) k ∙ q)
    (λ z. let k : m.line ≡ too_long = e ∙ rw z in ap (last_hands m) k ∙ q))

run_answers : (m : Run) (line : List ℕ) → m.waits ≡ [] → m.line ≡ line_of line → (cs : List (List ℕ)) → answers_from m line (joined cs) ≡ run_hands m cs
unfolding joined run_hands
run_answers m line w e [] = last_answers m line w e
run_answers m line w e (c ∷ cs) =
    let r = chunk_answers m line e c (joined cs) in
    let z : m.waits ++ answers_from m line (c ++ joined cs) ≡ answers_from m line (c ++ joined cs) = rw w in
    sym z ∙ r.0 ∙ ap (chunk_hands m c ++◌) (run_answers (written (chunk_taken m c)) (line_behind line c) refl r.1 cs)

-- The chunks are those in which the reads brought the input, up to its limit.
pub chunks-answered : (input : List ℕ) (chunks : List (List ℕ)) → joined chunks ≡ take input_max input → run_hands start chunks ≡ answers_to input
unfolding answers_to replies_to
chunks-answered input chunks e = rw (← e) (sym (run_answers start [] refl refl chunks))
