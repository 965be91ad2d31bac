-- What the reader of a token answers: places in the bytes that are read.
use Rattle.std.specs.Prelude.{ℕ, ◌+◌, ◌-◌, ◌≤◌, ◌<◌, ◌≡◌, List, length, take, drop}
use Rattle.rights.specs.Labels.{label_byte}
use Rattle.rights.specs.PathReader.{run_at}
use Rattle.xml.specs.How.Tokens.{opens, closes, empty, text, Lexed, token, end, bad, lex}
use Rattle.xml.specs.declared.lexer.Span.{Span}
use Rattle.xml.specs.declared.lexer.Lexeme.{Lexeme}
use Rattle.xml.specs.declared.lexer.Lexeme.TheVariants.{Opens, Closes, Empty, Label, End, Bad}

-- the bytes from one place up to another
abbrev pub between : List ℕ → ℕ → ℕ → List ℕ
between s a e = take (e - a) (drop a s)

-- the name or text of a token
abbrev pub name_in : List ℕ → Span → List ℕ
name_in s v = between s v.start v.end

-- the answer as what stands at `at`
abbrev pub said : List ℕ → ℕ → Lexeme → Lexed
said s at (Opens v) = token (opens (name_in s v)) (v.next - at)
said s at (Closes v) = token (closes (name_in s v)) (v.next - at)
said s at (Empty v) = token (empty (name_in s v)) (v.next - at)
said s at (Label v) = token (text (name_in s v)) (v.next - at)
said s at End = end
said s at Bad = bad

-- A token's label stands from a up to e, not before i, and t is the place after the token. No label byte follows the label.
pub record Spot (s : List ℕ) (i a e t : ℕ) : Type 0 where
  pub from : i ≤ a
  pub run : e ≡ a + run_at label_byte s a
  pub some : a < e
  pub most : e ≤ a + 24
  pub after : e ≤ t
  pub within : t ≤ length s

abbrev pub Placed : List ℕ → ℕ → Lexeme → Type 0
Placed s i (Opens v) = Spot s i v.start v.end v.next
Placed s i (Closes v) = Spot s i v.start v.end v.next
Placed s i (Empty v) = Spot s i v.start v.end v.next
Placed s i (Label v) = Spot s i v.start v.end v.next
Placed s i End = Unit {0}
Placed s i Bad = Unit {0}

-- what the definition gives of the bytes from i on, whichever place before them the blanks began at
pub record LexedAs (want : ℕ → List ℕ → Lexed) (s : List ℕ) (i : ℕ) (r : Lexeme) : Type 0 where
  pub is : (at : ℕ) → at ≤ i → want (i - at) (drop i s) ≡ said s at r
  pub on : Placed s i r

-- the token at a place
pub record LexedAt (s : List ℕ) (at : ℕ) (r : Lexeme) : Type 0 where
  pub is : lex (drop at s) ≡ said s at r
  pub on : Placed s at r
