-- What the library returns and leaves (document 01, "What is written", "Who can be turned down").
use Rattle.std.specs.Prelude.{ℕ, ◌^◌, ◌<◌, ◌≡◌, List, ℤ, pos, neg_ℤ}
use Rattle.lines.specs.Outcome.{Answer, Accepted, Refused, Outcome, answer_of, area_after}

-- the bytes of a state: of the length that 13 asks for (crates/lines/specs/State.antt, `store_ok`)
abbrev pub state_bytes : ℕ
state_bytes = 68880

-- "An accepted line returns the answer's length"; of a refused one "the number is returned", with a minus sign
abbrev pub return_value : Answer → ℤ
return_value (Accepted n) = pos n
return_value (Refused n) = neg_ℤ (pos n)

-- a length that 64 bits with a sign hold, as any area's is
abbrev pub Short : Answer → Type 0
Short (Accepted n) = n < 2 ^ 63
Short (Refused n) = Unit {0}

-- what is returned and left is what the outcome says
pub record Returned (o : Outcome) (before : List ℕ) (r : ℤ) (state' table' area' : List ℕ) : Type 0 where
  pub number : r ≡ return_value (answer_of o.reply)
  pub state : state' ≡ o.state
  pub table : table' ≡ o.table
  pub area : area' ≡ area_after o.reply before
