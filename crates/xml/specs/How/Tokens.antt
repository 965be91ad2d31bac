-- A document as a flat list of tokens: tags, and texts between them. Whether tags nest is told by counting them, whether they match by the names of the open ones.
use Rattle.std.specs.Prelude.{ℕ, zero, suc, ◌+◌, ◌-◌, Bool, true, false, cond, ◌&&◌, List, [], ◌∷◌, eqb, length, take, drop}
use Rattle.rights.specs.Bytes.{run, byte_at}
use Rattle.rights.specs.Nodes.{Node, node}
use Rattle.forms.specs.Part.{label_end}
use Rattle.forms.specs.Tree.{◌and_then◌}
use Rattle.xml.specs.Document.{blank_byte, name_start}

-- `<a>`, `</a>`, `<a/>`, and a text that holds a label
pub data Token : Type 0 where
  opens closes empty text : List ℕ → Token

-- what stands at the front of the bytes, after blanks: a token and how many bytes go with it, nothing but the end, or what is none of these
pub data Lexed : Type 0 where
  token : Token → ℕ → Lexed
  end : Lexed
  bad : Lexed

-- k blanks are passed already. A closing tag's name is only compared, so how it begins is not asked.
abbrev pub closing : ℕ → List ℕ → Lexed
closing k s = label_end s 2 and_then (bad, λ e. cond (eqb (byte_at s e) 62) (token (closes (drop 2 (take e s))) (k + (e + 1))) bad)

abbrev pub opening : ℕ → List ℕ → Lexed
opening k s =
    label_end s 1 and_then (
      bad,
      λ e. cond (name_start (byte_at s 1))
          (cond (eqb (byte_at s e) 62)
          (token (opens (drop 1 (take e s))) (k + (e + 1)))
          (cond (eqb (byte_at s e) 47 && eqb (byte_at s (e + 1)) 62) (token (empty (drop 1 (take e s))) (k + (e + 2))) bad))
          bad,
    )

-- a text stands before a tag
abbrev pub texting : ℕ → List ℕ → Lexed
texting k s =
    label_end s 0 and_then (bad, λ e. cond (eqb (byte_at s (e + run blank_byte (drop e s))) 60) (token (text (take e s)) (k + (e + run blank_byte (drop e s)))) bad)

unfoldable pub lex_after : ℕ → List ℕ → Lexed
lex_after k [] = end
lex_after k (b ∷ s) = cond (eqb b 60) (cond (eqb (byte_at s 0) 47) (closing k (b ∷ s)) (opening k (b ∷ s))) (texting k (b ∷ s))

unfoldable pub lex : List ℕ → Lexed
lex s = lex_after (run blank_byte s) (drop (run blank_byte s) s)

-- the tokens of bytes, if they are all tokens. At most f are read; each takes a byte or more, so one more than the length is enough.
pub data Tokens : Type 0 where
  got : List Token → Tokens
  bad : Tokens

abbrev pub with_token : Token → Tokens → Tokens
with_token x (got xs) = got (x ∷ xs)
with_token x bad = bad

-- no more tokens where the bytes end; f says what comes after a token
abbrev pub on_lexed : (Token → ℕ → Tokens) → Lexed → Tokens
on_lexed f (token x n) = f x n
on_lexed f end = got []
on_lexed f bad = bad

unfoldable pub tokens_from : ℕ → List ℕ → Tokens
tokens_from zero s = bad
tokens_from (suc f) s = on_lexed (λ x n. with_token x (tokens_from f (drop n s))) (lex s)

abbrev pub tokens : List ℕ → Tokens
tokens s = tokens_from (suc (length s)) s

-- The tags nest, where d elements are open: the last token closes the outermost, and no earlier one does.
unfoldable pub nested_in : ℕ → List Token → Bool
nested_in d [] = eqb d 0
nested_in zero (x ∷ xs) = false
nested_in (suc d) (opens n ∷ xs) = nested_in (suc (suc d)) xs
nested_in (suc d) (closes n ∷ xs) = nested_in d xs
nested_in (suc d) (empty n ∷ xs) = nested_in (suc d) xs
nested_in (suc d) (text l ∷ xs) = nested_in (suc d) xs

-- "There is one root element"
unfoldable pub nested : List Token → Bool
nested [] = false
nested (opens n ∷ xs) = nested_in 1 xs
nested (closes n ∷ xs) = false
nested (empty n ∷ xs) = nested_in 0 xs
nested (text l ∷ xs) = false

-- "a closing tag .. must .. match exactly", by bytes
unfoldable pub same_bytes : List ℕ → List ℕ → Bool
same_bytes [] [] = true
same_bytes [] (y ∷ ys) = false
same_bytes (x ∷ xs) [] = false
same_bytes (x ∷ xs) (y ∷ ys) = eqb x y && same_bytes xs ys

-- The closing tags match, where these are the names of the open elements, the innermost first. A closing tag where none is open is told by nesting.
unfoldable pub matched_in : List (List ℕ) → List Token → Bool
matched_in ns [] = true
matched_in ns (opens n ∷ xs) = matched_in (n ∷ ns) xs
matched_in [] (closes n ∷ xs) = true
matched_in (m ∷ ns) (closes n ∷ xs) = same_bytes m n && matched_in ns xs
matched_in ns (empty n ∷ xs) = matched_in ns xs
matched_in ns (text l ∷ xs) = matched_in ns xs

-- the nodes, where d elements are open
unfoldable pub token_nodes : ℕ → List Token → List Node
token_nodes d [] = []
token_nodes d (opens n ∷ xs) = node d n ∷ token_nodes (suc d) xs
token_nodes d (closes n ∷ xs) = token_nodes (d - 1) xs
token_nodes d (empty n ∷ xs) = node d n ∷ token_nodes d xs
token_nodes d (text l ∷ xs) = node d l ∷ token_nodes d xs

-- the bytes are a document, and its nodes
abbrev pub good_tokens : Tokens → Bool
good_tokens (got xs) = nested xs && matched_in [] xs
good_tokens bad = false

abbrev pub nodes_of_tokens : Tokens → List Node
nodes_of_tokens (got xs) = token_nodes 0 xs
nodes_of_tokens bad = []

unfoldable pub is_document : List ℕ → Bool
is_document s = good_tokens (tokens s)

unfoldable pub document_nodes : List ℕ → List Node
document_nodes s = nodes_of_tokens (tokens s)
