-- The lines of an input are those that were typed, each with its line feed, and a last one that may lack it where it is not empty. Assumes nothing.
use Prim.Native.Nat.{ℕ, ◌≤◌}
use mathlib.Core.Path.{◌≡◌, refl, sym, ap, ◌∙◌}
use mathlib.Core.Bool.{true, not}
use mathlib.Core.List.{List, [], ◌∷◌, ◌++◌, append_assoc, append-nil}
use lib.Dec.{eqb}
use lib.ListN.{length}
use lib.Seq.{take_all}
use borrow.Author.Tests.{not-true}
use Rattle.rights.specs.Bytes.{all, bytes}
use Rattle.rights.proofs.TableLaws.{both}
use Rattle.timetable.specs.Program.{input_max, line_feed, last_line, lines_from, replies_from, empty_state, empty_table, replies_to, printed_all, answers_to, typed}

-- no byte of it is a line feed
abbrev pub OneLine : List ℕ → Type 0
OneLine line = all (λ b. not (eqb b line_feed)) line ≡ true

abbrev pub OneLineEach : List (List ℕ) → Type 0
OneLineEach [] = Unit {0}
OneLineEach (line ∷ rest) = OneLine line × OneLineEach rest

line_read : (front line rest : List ℕ) → OneLine line → lines_from front (line ++ rest) ≡ lines_from (front ++ line) rest
unfolding lines_from all
line_read front [] rest e = rw (append-nil front)
line_read front (b ∷ line) rest e =
    let f = both (not (eqb b line_feed)) _ e in
    rw (not-true (eqb b line_feed) f.0) (line_read (front ++ (b ∷ [])) line rest f.1 ∙ ap (λ (l : List ℕ). lines_from l rest) (append_assoc front (b ∷ []) line))

last_read : (last : List ℕ) → OneLine last → lines_from [] last ≡ last_line last
unfolding lines_from
last_read last e = ap (lines_from []) (sym (append-nil last)) ∙ line_read [] last [] e

feed_read : (line rest : List ℕ) → lines_from line (bytes "\n" ++ rest) ≡ line ∷ lines_from [] rest
unfolding lines_from
feed_read line rest = refl

pub lines_typed : (lines : List (List ℕ)) (last : List ℕ) → OneLineEach lines → OneLine last → lines_from [] (typed lines ++ last) ≡ lines ++ last_line last
unfolding typed
lines_typed [] last e q = last_read last q
lines_typed (line ∷ rest) last e q =
    ap (lines_from []) (append_assoc line (bytes "\n" ++ typed rest) last) ∙ line_read [] line (bytes "\n" ++ (typed rest ++ last)) e.0
    ∙ feed_read line (typed rest ++ last) ∙ ap (line ∷◌) (lines_typed rest last e.1 q)

-- So the program answers what was typed line by line.
pub answers_typed : (lines : List (List ℕ)) (last : List ℕ) → OneLineEach lines → OneLine last → length (typed lines ++ last) ≤ input_max
    → answers_to (typed lines ++ last) ≡ printed_all (replies_from empty_state empty_table (lines ++ last_line last))
unfolding answers_to replies_to
answers_typed lines last e q h =
    ap (λ (ls : List (List ℕ)). printed_all (replies_from empty_state empty_table ls))
    (ap (lines_from []) (take_all input_max (typed lines ++ last) h) ∙ lines_typed lines last e q)
