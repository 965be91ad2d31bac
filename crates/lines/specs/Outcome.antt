-- What a call gives (document 01, "What is written", "Who can be turned down").
use Rattle.std.specs.Prelude.{ℕ, ◌≡◌, List, ◌++◌, length, drop}

-- the answer's bytes, or the number of a refusal
pub data Reply : Type 0 where
  says : List ℕ → Reply
  refuses : ℕ → Reply

-- the reply, and the state and the table afterwards
pub record Outcome : Type 0 where
  pub reply : Reply
  pub state : List ℕ
  pub table : List ℕ

-- what is returned, by this paper's numbers (Refusal, `numbered`): the answer's length, or the number of a refusal
pub data Answer : Type 0 where
  Accepted : ℕ → Answer
  Refused : ℕ → Answer

-- "An accepted line returns the answer's length, and the area beyond it keeps its bytes."
abbrev pub answer_of : Reply → Answer
answer_of (says b) = Accepted (length b)
answer_of (refuses n) = Refused n

abbrev pub area_after : Reply → List ℕ → List ℕ
area_after (says b) area = b ++ drop (length b) area
area_after (refuses n) area = area

-- what is returned and left is what the outcome says
pub record Made (o : Outcome) (before : List ℕ) (r : Answer) (state' table' area' : List ℕ) : Type 0 where
  pub answer : r ≡ answer_of o.reply
  pub state : state' ≡ o.state
  pub table : table' ≡ o.table
  pub area : area' ≡ area_after o.reply before

-- "The number is returned; state, tables and answer area keep their bytes."
abbrev pub refusal : ℕ → List ℕ → List ℕ → Outcome
refusal n s t = record { reply = refuses n; state = s; table = t }
