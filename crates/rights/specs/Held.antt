-- How a tree and a policy are held in lent bytes (document 01, "Tree and table"; docs/FORMAT.md). Every byte that is not in use is zero.
use Rattle.std.specs.Prelude.{ℕ, ◌+◌, ◌*◌, ◌-◌, ◌/◌, ◌%◌, ◌≤◌, ◌≡◌, List, [], ◌∷◌, ◌++◌, map, length, replicate}
use Rattle.rights.specs.Marks.{bit}
use Rattle.rights.specs.Path.{Test, Axis, Child, Descendant}
use Rattle.rights.specs.PathText.{write_test}
use Rattle.rights.specs.Policy.{Rule, Policy}
use Rattle.rights.specs.Nodes.{Node, node, level_of, label_of, Nodes, DatedNode}
use Rattle.rights.specs.Table.{level, label, first_day, last_day, records, capacity}
use Rattle.rights.specs.Record.{dated_record, node_record, name_record}
use Rattle.rights.specs.Allowed.{All, AllowedPolicy, AllowedNodes, AllowedWindow}

-- a number as four bytes, the lowest first
abbrev pub le4 : ℕ → List ℕ
le4 n = n % 256 ∷ n / 256 % 256 ∷ n / 65536 % 256 ∷ n / 16777216 % 256 ∷ []

-- the records, one after the other
unfoldable pub join : List (List ℕ) → List ℕ
join [] = []
join (r ∷ rs) = r ++ join rs

-- A table of n bytes: the count of the records, the records, and zeros to the very end, "so a removed label leaves no trace".
abbrev pub table_bytes : ℕ → List (List ℕ) → List ℕ
table_bytes n rs = le4 (length rs) ++ (join rs ++ replicate (n - (4 + length rs * 32)) 0)

-- a node with its window as a record, and a new node; what a record says, and the nodes of the stored tree: of each record its level and its true label ("A true
-- label is the stored one.")
abbrev pub dated_bytes : DatedNode → List ℕ
dated_bytes x = dated_record (level_of x.node) (label_of x.node) x.first x.last

abbrev pub node_bytes : Node → List ℕ
node_bytes x = node_record (level_of x) (label_of x)

abbrev pub node_in : List ℕ → Node
node_in r = node (level r) (label r)

abbrev pub stored_nodes : List ℕ → Nodes
stored_nodes t = map node_in (records t)

-- with their windows
abbrev pub dated_in : List ℕ → DatedNode
dated_in r = record { node = node_in r; first = first_day r; last = last_day r }

abbrev pub dated_nodes : List ℕ → List DatedNode
dated_nodes t = map dated_in (records t)

-- The bytes are a table that holds these nodes and that 13 lets pass: no "table under 4 bytes, with a count above its capacity, or with bytes or records against
-- "Tree and table" (RESTRICTED as a label included)"; "13 takes in bad windows" (document 02, card 7).
pub record HoldsNodes (t : List ℕ) (nodes : List DatedNode) : Type 0 where
  pub allowed : AllowedNodes (map (λ x. x.node) nodes)
  pub windows : All AllowedWindow nodes
  pub head : 4 ≤ length t
  pub room : length nodes ≤ capacity (length t)
  pub bytes : t ≡ table_bytes (length t) (map dated_bytes nodes)

-- Places of w bytes for at most so many: those in use, one after the other, and zeros in the others.
abbrev pub in_places : {A : Type 0} → ℕ → ℕ → (A → List ℕ) → List A → List ℕ
in_places most w f xs = join (map f xs) ++ replicate ((most - length xs) * w) 0

abbrev pub isa_bytes : ℕ × ℕ → List ℕ
isa_bytes line = line.0 ∷ line.1 ∷ []

-- A step is held as a record: 0 for `/` or 1 for `//`, and `*`, `$` or the label as its text.
abbrev pub axis_byte : Axis → ℕ
axis_byte Child = 0
axis_byte Descendant = 1

abbrev pub step_record : Axis × Test → List ℕ
step_record w = name_record (axis_byte w.0) (write_test w.1)

-- A rule: 1 for accept or 0 for deny, the right's bit, the subject's number, the number of steps and 4 zero bytes, then 16 places for steps.
abbrev pub rule_head : ℕ → ℕ → ℕ → ℕ → List ℕ
rule_head accept bit who n = accept ∷ bit ∷ who ∷ n ∷ 0 ∷ 0 ∷ 0 ∷ 0 ∷ []

abbrev pub rule_bytes : Rule → List ℕ
rule_bytes r = rule_head (bit r.accept) r.right r.who (length r.path) ++ in_places 16 32 step_record r.path

-- A policy: the numbers of subjects, isa lines and rules, 5 zero bytes, then 64 places for subjects, 128 for isa lines, 128 for rules.
abbrev pub policy_head : Policy → List ℕ
policy_head P = length P.names ∷ length P.isa ∷ length P.rules ∷ 0 ∷ 0 ∷ 0 ∷ 0 ∷ 0 ∷ []

unfoldable pub held_policy : Policy → List ℕ
held_policy P =
    policy_head P
    ++ (in_places 64 32 (name_record 0) P.names
    ++ (in_places 128 2 isa_bytes P.isa
    ++ in_places 128 520 rule_bytes P.rules))

-- The bytes are a policy that is allowed: no "state against the limits, names, paths .. above (with all that 4 to 7 and 9 ask of lines of A and B)".
pub record HoldsPolicy (p : List ℕ) (P : Policy) : Type 0 where
  pub allowed : AllowedPolicy P
  pub bytes : p ≡ held_policy P
