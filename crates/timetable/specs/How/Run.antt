-- The program between two bytes of its input, and what each of its functions makes of that.
use Rattle.std.specs.Prelude.{ℕ, ◌≤◌, ◌<◌, ◌≡◌, cond, ◌⊎◌, List, [], ◌∷◌, ◌++◌, leb, ltb, eqb, length, get_or, take}
use Rattle.answers.specs.How.AnswerArea.{Puts}
use Rattle.lines.specs.Outcome.{Outcome, refusal}
use Rattle.lines.specs.Refusal.{bad_line}
use Rattle.store.specs.Line.{step}
use Rattle.timetable.specs.Program.{line_max, area_bytes, line_feed, input_max, empty_state, empty_table, printed}

-- The line so far: its bytes, or too many of them.
pub data Line : Type 0 where
  short : List ℕ → Line
  too_long : Line

-- with one byte more
abbrev pub longer : Line → ℕ → Line
longer (short line) b = cond (ltb (length line) line_max) (short (line ++ (b ∷ []))) too_long
longer too_long b = too_long

-- what ends with it, in an area of `room` bytes
abbrev pub ended : List ℕ → List ℕ → Line → ℕ → Outcome
ended s t (short line) room = step s t line room
ended s t too_long room = refusal bad_line s t

-- the line of which a buffer has the first `used` bytes; more than it holds stand for every line that is too long
abbrev pub line_in : List ℕ → ℕ → Line
line_in buffer used = cond (leb used (length buffer)) (short (take used buffer)) too_long

-- What is printed of an outcome is put into an area at byte `at`, where it fits; r is the place after it.
pub record Prints (o : Outcome) (at : ℕ) (before : List ℕ) (r : ℕ) (state' table' after : List ℕ) : Type 0 where
  pub state : state' ≡ o.state
  pub table : table' ≡ o.table
  pub text : Puts (printed o.reply) at before after r
  pub fits : r ≤ length before

-- The program between two bytes: state, table, the line so far, and the answers' bytes that wait to be written.
pub record Run : Type 0 where
  pub state : List ℕ
  pub table : List ℕ
  pub line : Line
  pub waits : List ℕ

-- that in the program's areas: the line has `used` bytes, and n bytes wait
abbrev pub run_in : List ℕ → List ℕ → List ℕ → ℕ → List ℕ → ℕ → Run
run_in s t buffer used out n = record { state = s; table = t; line = line_in buffer used; waits = take n out }

-- an outcome's text waits behind the bytes w, and a new line begins
abbrev pub answered : Outcome → List ℕ → Run
answered o w = record { state = o.state; table = o.table; line = short []; waits = w ++ printed o.reply }

-- the line has ended
abbrev pub line_ended : Run → Run
line_ended m = answered (ended m.state m.table m.line area_bytes) m.waits

-- What waits is written where the next answer might not fit behind it: what is handed to `write`, and what waits then.
abbrev pub overflow : List ℕ → List ℕ
overflow w = cond (leb (length w) area_bytes) [] w

abbrev pub room_made : Run → Run
room_made m = record { state = m.state; table = m.table; line = m.line; waits = cond (leb (length m.waits) area_bytes) m.waits [] }

-- one byte of the input: the program after it, and what is handed to `write`
unfoldable pub byte_taken : Run → ℕ → Run
byte_taken m b =
    cond (eqb b line_feed) (room_made (line_ended m)) (record { state = m.state; table = m.table; line = longer m.line b; waits = m.waits })

unfoldable pub byte_hands : Run → ℕ → List ℕ
byte_hands m b = cond (eqb b line_feed) (overflow (line_ended m).waits) []

-- the bytes of a chunk: one read
unfoldable pub chunk_taken : Run → List ℕ → Run
chunk_taken m [] = m
chunk_taken m (b ∷ bs) = chunk_taken (byte_taken m b) bs

-- After them all that waits is handed over: the program then, and all that is handed over meanwhile.
abbrev pub written : Run → Run
written m = record { state = m.state; table = m.table; line = m.line; waits = [] }

unfoldable pub chunk_hands : Run → List ℕ → List ℕ
chunk_hands m [] = m.waits
chunk_hands m (b ∷ bs) = byte_hands m b ++ chunk_hands (byte_taken m b) bs

-- the same without what waits behind the chunk
unfoldable pub handed : Run → List ℕ → List ℕ
handed m [] = []
handed m (b ∷ bs) = byte_hands m b ++ handed (byte_taken m b) bs

-- The program in a chunk of which not all is taken, m' being what it is then: it stops at a byte that handed something over.
pub record Stops (m : Run) (chunk : List ℕ) (m' : Run) : Type 0 where
  pub at : ℕ
  pub is : m' ≡ byte_taken (chunk_taken m (take at chunk)) (get_or chunk at 0)
  pub hands : byte_hands (chunk_taken m (take at chunk)) (get_or chunk at 0) ≡ [] → ⊥

-- a list of reads
unfoldable pub chunks_taken : Run → List (List ℕ) → Run
chunks_taken m [] = m
chunks_taken m (c ∷ cs) = chunks_taken (written (chunk_taken m c)) cs

unfoldable pub joined : List (List ℕ) → List ℕ
joined [] = []
joined (c ∷ cs) = c ++ joined cs

-- the end of the input: a line that is not empty is answered
abbrev pub last_hands : Run → Line → List ℕ
last_hands m (short []) = []
last_hands m (short (a ∷ line)) = (line_ended m).waits
last_hands m too_long = (line_ended m).waits

-- all that is handed to `write`, in order
unfoldable pub run_hands : Run → List (List ℕ) → List ℕ
run_hands m [] = last_hands m m.line
run_hands m (c ∷ cs) = chunk_hands m c ++ run_hands (written (chunk_taken m c)) cs

-- the same before the end of the input
unfoldable pub reads_hand : Run → List (List ℕ) → List ℕ
reads_hand m [] = []
reads_hand m (c ∷ cs) = chunk_hands m c ++ reads_hand (written (chunk_taken m c)) cs

-- the program before its first byte
abbrev pub start : Run
start = record { state = empty_state; table = empty_table; line = short []; waits = [] }

-- The reads stop at the limit, or at one that brings nothing.
abbrev pub AtEnd : List (List ℕ) → Type 0
AtEnd chunks = (length (joined chunks) ≡ input_max) ⊎ ((before : List (List ℕ)) × (chunks ≡ before ++ ([] ∷ [])))

-- The program after its reads, m' being what it is then: what they brought is taken, unless standard output failed; then no line is begun.
pub record ReadsAll (m : Run) (m' : Run) (used : ℕ) : Type 0 where
  pub chunks : List (List ℕ)
  pub within : length (joined chunks) ≤ input_max
  pub is : (used ≡ 0) ⊎ ((m' ≡ chunks_taken m chunks) × AtEnd chunks)

-- And at its end: a last line without its line feed, `used` bytes of it, has its answer at the front of the area whose bytes are handed over.
pub record RunsAll (out' : List ℕ) : Type 0 where
  pub used : ℕ
  pub last : Run
  pub reads : ReadsAll start last used
  pub answer : 0 < used → take (length (line_ended last).waits) out' ≡ (line_ended last).waits
