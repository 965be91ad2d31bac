-- What is told of a document before it is loaded, and when it may be written: what the two functions promise and ask that a caller sees.
use Rattle.std.specs.Prelude.{Option, Some, None, ℕ, ◌+◌, ◌*◌, ◌≤◌, max, ◌≡◌, Bool, true, cond, List, [], ◌∷◌, length, drop}
use Rattle.rights.specs.Bytes.{all, is_zero}
use Rattle.rights.specs.Labels.{same_label, restricted}
use Rattle.rights.specs.Limits.{records_max}
use Rattle.rights.specs.Nodes.{Node, level_of, label_of}
use Rattle.rights.specs.Policy.{some}
use Rattle.xml.specs.How.Tokens.{is_document, document_nodes}
use Rattle.xml.specs.declared.document.Tally.{Tally}

-- the level of the deepest node
unfoldable pub deepest : List Node → ℕ
deepest [] = 0
deepest (x ∷ xs) = max (level_of x) (deepest xs)

-- a node carries RESTRICTED
abbrev pub is_restricted : Node → Bool
is_restricted x = same_label (label_of x) restricted

-- the answer on a document: what its nodes are like
abbrev pub tally_of : List Node → Tally
tally_of xs = record { nodes = length xs; deepest = deepest xs; restricted = some is_restricted xs }

-- the answer on any bytes
unfoldable pub document_kind : List ℕ → Option Tally
document_kind s = cond (is_document s) (Some (tally_of (document_nodes s))) None

-- A document that may be written into the bytes of a table: its levels run to 11, all its nodes have room, and every byte after the count is zero.
pub record Writable (s table : List ℕ) : Type 0 where
  pub document : is_document s ≡ true
  pub levels : deepest (document_nodes s) ≤ 11
  pub few : length (document_nodes s) ≤ records_max
  pub room : 4 + length (document_nodes s) * 32 ≤ length table
  pub clear : all is_zero (drop 4 table) ≡ true
