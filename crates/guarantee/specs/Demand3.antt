-- Demand 3 whole, as one claim about every list of lines (document 01, "What demand 3 compares"): what two runs of calls of `line` answer one reader, and what stays
-- on the nodes that are kept. "All three agreements now read with the day: trees are compared on one day, and the assurance lasts until the day is changed" (document
-- 02, card 7); the sentence on rights holds across days. The theorem stands in proofs/Demand3.antt; it assumes nothing.
use Rattle.std.specs.Prelude.{ℕ, ◌≡◌, List, [], ◌∷◌, ◌⊎◌, length, take}
use Rattle.lines.specs.Outcome.{Answer, Accepted, Refused, Made}
use Rattle.lines.specs.Refusal.{table_full}
use Rattle.lines.specs.State.{day_in}
use Rattle.store.specs.Line.{step}
use Rattle.guarantee.specs.Alike.{Alike, UserIs, LogsIn}
use Rattle.guarantee.specs.Identity.{SameRights, Follows, NodesKept, NodesRemoved, InsertedNew, NoneBack}

-- One call of `line` (store/src/line.rt): the line and the area that were lent, what was returned, and the state, the table and the area that were left
pub record Call : Type 0 where
  pub line : List ℕ
  pub lent : List ℕ
  pub answer : Answer
  pub state : List ℕ
  pub table : List ℕ
  pub area : List ℕ

-- what `line` promises of a call on the state s and the table t
abbrev pub Promised : List ℕ → List ℕ → Call → Type 0
Promised s t c = Made (step s t c.line (length c.lent)) c.lent c.answer c.state c.table c.area

-- "Each line gets the state and table that the one before it returned or left, and nobody else writes them meanwhile."
abbrev pub Run : List ℕ → List ℕ → List Call → Type 0
Run s t [] = Unit {0}
Run s t (c ∷ cs) = Promised s t c × Run c.state c.table cs

-- "Both runs get the same lines." "Each has an answer area of its own, as long in one run as in the other; its earlier bytes may differ."
abbrev pub SameLines : List Call → List Call → Type 0
SameLines [] [] = Unit {0}
SameLines [] (d ∷ ds) = ⊥
SameLines (c ∷ cs) [] = ⊥
SameLines (c ∷ cs) (d ∷ ds) = (c.line ≡ d.line) × (length c.lent ≡ length d.lent) × SameLines cs ds

-- "Either both have N as user, or the list begins with a `(user N)` that is accepted."
abbrev pub BeginsWithLogin : ℕ → List ℕ → List Call → Type 0
BeginsWithLogin u s [] = ⊥
BeginsWithLogin u s (c ∷ cs) = LogsIn u s c.line c.answer

abbrev pub Begins : ℕ → List ℕ → List ℕ → List Call → Type 0
Begins u s s' cs = (UserIs u s × UserIs u s') ⊎ BeginsWithLogin u s cs

-- "Equal for a line means: accepted in both or refused in both, the same length or number returned, and the same answer bytes."
pub record SameAnswer (c d : Call) : Type 0 where
  pub returned : c.answer ≡ d.answer
  pub bytes : (n : ℕ) → c.answer ≡ Accepted n → take n c.area ≡ take n d.area

-- Of every line before the first that either run refuses with 11, where "only a `user` line that would log in another subject stays out": the answers are equal. Where
-- the day is what it was, both suppositions hold again, with u as user; so a `(day D)` that is refused or gives the same day ends nothing, and one that changes the day
-- is the last line that is answered alike.
abbrev pub SameAnswers : ℕ → List ℕ → List Call → List Call → Type 0
SameAnswers u s [] ds = Unit {0}
SameAnswers u s (c ∷ cs) [] = Unit {0}
SameAnswers u s (c ∷ cs) (d ∷ ds) =
    ((v : ℕ) → LogsIn v s c.line c.answer → v ≡ u)
    → (c.answer ≡ Refused table_full → ⊥)
    → (d.answer ≡ Refused table_full → ⊥)
    → SameAnswer c d
    × (day_in c.state ≡ day_in s
    → Alike u c.state c.table d.state d.table
    × (UserIs u c.state × UserIs u d.state)
    × SameAnswers u c.state cs ds)

-- Demand 3, its first sentence: for every reader, every such start and any two runs of the same lines.
abbrev pub AnswersAlike : Type 0
AnswersAlike =
    (u : ℕ) (s t s' t' : List ℕ) → Alike u s t s' t' → (cs ds : List Call) → Run s t cs → Run s' t' ds
    → SameLines cs ds → Begins u s s' cs → SameAnswers u s cs ds

pub record Demand3 : Type 0 where
  -- two trees that look alike to a reader on a day answer that reader, working alone, alike in every line before the first refusal 11, and stay alike until the day
  -- is changed
  pub answers_alike : AnswersAlike
  -- no subject's rights change on a kept node, between any two points of a list, whatever the days
  pub same-rights : SameRights
  -- which node is which: the followed nodes are those of the table; a change keeps what it does not remove, in order; inserted nodes are new; what was removed
  -- never comes back
  pub follows : Follows
  pub nodes_kept : NodesKept
  pub nodes_removed : NodesRemoved
  pub inserted_new : InsertedNew
  pub none_back : NoneBack
