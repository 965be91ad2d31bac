-- One pass over the tokens of a document that puts a record for each node.
use Rattle.std.specs.Prelude.{Option, Some, None, ℕ, zero, suc, ◌+◌, ◌-◌, ◌*◌, ◌≤◌, ◌<◌, ◌≡◌, List, [], ◌∷◌, ◌++◌, map, length, drop}
use Rattle.rights.specs.Held.{join, node_bytes}
use Rattle.rights.specs.Nodes.{Node, node, level_of}
use Rattle.rights.specs.Record.{pasted}
use Rattle.xml.specs.How.Tokens.{Token, opens, closes, empty, text, Lexed, token, end, bad, lex}
use Rattle.xml.specs.declared.writer.Cursor.{Cursor}

-- the node of a token where d elements are open, and how many are open after it
abbrev pub own_nodes : ℕ → Token → List Node
own_nodes d (opens n) = node d n ∷ []
own_nodes d (closes n) = []
own_nodes d (empty n) = node d n ∷ []
own_nodes d (text l) = node d l ∷ []

abbrev pub depth_after : ℕ → Token → ℕ
depth_after d (opens n) = d + 1
depth_after d (closes n) = d - 1
depth_after d (empty n) = d
depth_after d (text l) = d

abbrev pub on_token : (Token → ℕ → List Node) → Lexed → List Node
on_token f (token x n) = f x n
on_token f end = []
on_token f bad = []

-- The nodes of the tokens up to the end, or up to what is no token. At most f tokens are read.
unfoldable pub nodes_from : ℕ → ℕ → List ℕ → List Node
nodes_from zero d s = []
nodes_from (suc f) d s = on_token (λ x n. own_nodes d x ++ nodes_from f (depth_after d x) (drop n s)) (lex s)

abbrev pub all_nodes : List ℕ → List Node
all_nodes s = nodes_from (suc (length s)) 0 s

abbrev pub nodes_at : List ℕ → ℕ → Cursor → List Node
nodes_at s f p = nodes_from f p.depth (drop p.at s)

abbrev pub records_of : List Node → List ℕ
records_of xs = join (map node_bytes xs)

-- what was counted lies before the place
pub record Counted (s : List ℕ) (p : Cursor) : Type 0 where
  pub within : p.at ≤ length s
  pub depth : p.depth ≤ p.at
  pub nodes : p.nodes ≤ p.at

-- a next node has room, and its level is at most 11
pub record Roomy (s table : List ℕ) (p : Cursor) : Type 0 where
  pub counted : Counted s p
  pub fuel : ℕ
  pub room : (x : Node) (xs : List Node) → nodes_at s (suc fuel) p ≡ x ∷ xs → (4 + p.nodes * 32 + 32 ≤ length table) × (level_of x ≤ 11)

-- one token on: the records of its own nodes are put
pub record Put (s before after : List ℕ) (p q : Cursor) : Type 0 where
  pub own : List Node
  pub read : (f : ℕ) → nodes_at s (suc f) p ≡ own ++ nodes_at s f q
  pub count : q.nodes ≡ p.nodes + length own
  pub wide : length (records_of own) ≡ length own * 32
  pub bytes : after ≡ pasted before (4 + p.nodes * 32) (records_of own)
  pub on : p.at < q.at
  pub counted : Counted s q

abbrev pub PutNext : List ℕ → List ℕ → List ℕ → Cursor → Option Cursor → Type 0
PutNext s before after p (Some q) = Put s before after p q
PutNext s before after p None = (after ≡ before) × ((f : ℕ) → nodes_at s f p ≡ [])

-- All records are put.
pub record PutAll (s before after : List ℕ) (n : ℕ) : Type 0 where
  pub count : n ≡ length (all_nodes s)
  pub wide : length (records_of (all_nodes s)) ≡ length (all_nodes s) * 32
  pub bytes : after ≡ pasted before 4 (records_of (all_nodes s))
