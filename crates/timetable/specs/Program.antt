-- The program (document 01, "Lines", "What is written"): `answers_to`, from the bytes of its input to the bytes of its output.
use Rattle.std.specs.Prelude.{ℕ, cond, List, [], ◌∷◌, ◌++◌, leb, eqb, length, take, replicate}
use Rattle.rights.specs.Bytes.{bytes}
use Rattle.answers.specs.Answer.{refused_text}
use Rattle.lines.specs.Outcome.{Reply, says, refuses, Outcome, refusal}
use Rattle.lines.specs.Refusal.{bad_line}
use Rattle.store.specs.Line.{step}

-- "a line holds at most 1,024 bytes without its line feed"
abbrev pub line_max : ℕ
line_max = 1024

-- "The program, whose area has 65,536 bytes"
abbrev pub area_bytes : ℕ
area_bytes = 65536

-- "The program reads at most 4,294,967,295 bytes and stops there as at the end of its input."
abbrev pub input_max : ℕ
input_max = 4294967295

-- the byte that ends a line
abbrev pub line_feed : ℕ
line_feed = 10

-- "a last line that is not empty may lack its line feed"
abbrev pub last_line : List ℕ → List (List ℕ)
last_line [] = []
last_line (a ∷ line) = (a ∷ line) ∷ []

-- The lines of an input (proofs/LinesLaws has them by what is typed), of which the first has the bytes of `line` already. A line feed ends a line.
unfoldable pub lines_from : List ℕ → List ℕ → List (List ℕ)
lines_from line [] = last_line line
lines_from line (b ∷ rest) = cond (eqb b line_feed) (line ∷ lines_from [] rest) (lines_from (line ++ (b ∷ [])) rest)

-- What the program makes of a line, from the state s and the table t: "The program reads a longer one up to its line feed and refuses it once."
unfoldable pub outcome_of : List ℕ → List ℕ → List ℕ → Outcome
outcome_of s t line = cond (leb (length line) line_max) (step s t line area_bytes) (refusal bad_line s t)

-- the replies to lines, each from the state and the table that the line before left
unfoldable pub replies_from : List ℕ → List ℕ → List (List ℕ) → List Reply
replies_from s t [] = []
replies_from s t (line ∷ rest) = (outcome_of s t line).reply ∷ replies_from (outcome_of s t line).state (outcome_of s t line).table rest

-- An empty state, and an empty table: "The program's table has 1,024 records."
unfoldable pub empty_state : List ℕ
empty_state = replicate 68880 0

unfoldable pub empty_table : List ℕ
empty_table = replicate 32772 0

-- the replies to an input, one a line
unfoldable pub replies_to : List ℕ → List Reply
replies_to input = replies_from empty_state empty_table (lines_from [] (take input_max input))

-- "prints `(refused N)` for a refusal"
abbrev pub printed : Reply → List ℕ
printed (says text) = text
printed (refuses n) = refused_text n

unfoldable pub printed_all : List Reply → List ℕ
printed_all [] = []
printed_all (r ∷ rest) = printed r ++ printed_all rest

-- What the program writes
unfoldable pub answers_to : List ℕ → List ℕ
answers_to input = printed_all (replies_to input)

-- Lines as they are typed, each with its line feed
unfoldable pub typed : List (List ℕ) → List ℕ
typed [] = []
typed (line ∷ rest) = line ++ (bytes "\n" ++ typed rest)
