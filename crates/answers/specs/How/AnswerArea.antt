-- What is put into an area that the caller lends.
use denote.Ref.{MutBor}
use denote.Param.Members.{Shared}
use Rattle.std.specs.Prelude.{ℕ, ◌+◌, ◌*◌, ◌≤◌, ◌≡◌, cond, List, ◌++◌, leb, length, take, drop}

-- The text p, put at byte `at`: r is the place after it, fit or not. Where it fits, the area holds it there and keeps its other bytes.
pub record Puts (p : List ℕ) (at : ℕ) (before after : List ℕ) (r : ℕ) : Type 0 where
  pub next : r ≡ at + length p
  pub same : length after ≡ length before
  pub fits : r ≤ length before → after ≡ take at before ++ (p ++ drop r before)

-- The most bytes of an answer of n nodes: 52 a hit, whose level has at most 20 digits and whose label at most 24 bytes, 46 a node of a
-- view, 27 the last line.
abbrev pub text_most : ℕ → ℕ
text_most n = 52 * n + 27

-- the area with an answer at its start: "the area beyond it keeps its bytes"; an answer that is longer than the area leaves it whole
abbrev pub written : List ℕ → List ℕ → List ℕ
written text area = cond (leb (length text) (length area)) (text ++ drop (length text) area) area

-- An answer: r is its length, which the caller compares with the area's (refusal 12).
pub record Answered (text before after : List ℕ) (r : ℕ) : Type 0 where
  pub size : r ≡ length text
  pub area : after ≡ written text before

-- Whatever area it is called on, `put` puts this text at its start.
abbrev pub PutsAlways : {F : Type 0} → Shared F (MutBor (List ℕ) × Unit {0}) (ℕ × (MutBor (List ℕ) × Unit {0})) → F → List ℕ → Type 0
PutsAlways {F} g put text = (before after : MutBor (List ℕ)) (r : ℕ) → g.post put (before, tt) (r, (after, tt)) → Puts text 0 before.now after.now r
