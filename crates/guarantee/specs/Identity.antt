-- Which node is which (document 01, "What demand 3 compares"): "A change keeps every node that it does not remove, renamed or not, and kept nodes keep their
-- order. Inserted nodes are new. A removed node never comes back, whatever uses its record." And the sentence on rights.
-- A node is followed by a tag that its record carries; a node that came later has none.
use Rattle.std.specs.Prelude.{ℕ, zero, suc, ◌≤◌, ◌<◌, ◌≡◌, Bool, not, List, [], ◌∷◌, ◌++◌, map, length, get_or}
use Rattle.std.proofs.Math.Option.{Option, none, some}
use Rattle.rights.specs.Rights.{rights_on}
use Rattle.rights.specs.Table.{records, level}
use Rattle.views.specs.Nodes.{goes, only, tags}
use Rattle.views.specs.declared.done.Change.TheVariants as change
use Rattle.views.specs.declared.insert.Place.{Place}
use Rattle.forms.specs.declared.layout.Word.TheVariants as word
use Rattle.forms.specs.Form.{read_form}
use Rattle.forms.specs.Command.{command, form_of}
use Rattle.lines.specs.State.{stage_c, stage, policy_in}
use Rattle.lines.specs.Effect.{Effect, insertion, nodes_after}
use Rattle.lines.specs.Outcome.{Reply, says, refuses}
use Rattle.lines.specs.UserView.{done_in}
use Rattle.lines.specs.Clause.{work_of}
use Rattle.guarantee.specs.Alike.{Input, outcome}

-- a record and the tag of its node, a number
abbrev pub Tagged : Type 0
Tagged = List ℕ × Option ℕ

abbrev pub tagged_level : Tagged → ℕ
tagged_level n = level n.0

-- records of new nodes
abbrev pub new : List (List ℕ) → List Tagged
new rs = map (λ r. (r, none)) rs

-- The nodes after an effect, as the store has them (`nodes_after`, lines/specs/Effect.antt): what a line brings is new, and a node under another label is the same node.
abbrev pub after_effect : Effect → List Tagged → List Tagged
after_effect e ns = nodes_after tagged_level new (λ f n. (f n.0, n.1)) e ns

-- a refused line keeps every node
abbrev pub after_reply : Reply → Effect → List Tagged → List Tagged
after_reply (says b) e ns = after_effect e ns
after_reply (refuses n) e ns = ns

-- the effect of a line that is accepted, and the nodes after a line
abbrev pub effect_of : List ℕ → List ℕ → List ℕ → Effect
effect_of s t line = (work_of (read_form line) s t).effect

unfoldable pub follow : List ℕ → List ℕ → Input → List Tagged → List Tagged
follow s t i ns = after_reply (outcome s t i).reply (effect_of s t i.line) ns

-- the nodes after a list of lines; and the state and the table then
unfoldable pub follow_all : List ℕ → List ℕ → List Input → List Tagged → List Tagged
follow_all s t [] ns = ns
follow_all s t (i ∷ is) ns = follow_all (outcome s t i).state (outcome s t i).table is (follow s t i ns)

unfoldable pub state_after_all : List ℕ → List ℕ → List Input → List ℕ
state_after_all s t [] = s
state_after_all s t (i ∷ is) = state_after_all (outcome s t i).state (outcome s t i).table is

unfoldable pub table_after_all : List ℕ → List ℕ → List Input → List ℕ
table_after_all s t [] = t
table_after_all s t (i ∷ is) = table_after_all (outcome s t i).state (outcome s t i).table is

-- "A change keeps every node that it does not remove": from the root line on, only `(remove P)` takes nodes away;
abbrev pub NodesKept : Type 0
NodesKept =
    (s t : List ℕ) → stage_c ≤ stage s → (i : Input) (ns : List Tagged) → ((p : List ℕ) → read_form i.line ≡ form_of (command word.Remove (p, tt)) → ⊥)
    → tags (λ n. n.1) (follow s t i ns) ≡ tags (λ n. n.1) ns

-- and it takes those that are done, and those below them (`goes`, views/specs/Nodes.antt), no others.
abbrev pub NodesRemoved : Type 0
NodesRemoved =
    (s t : List ℕ) (i : Input) (ns : List Tagged) (p text : List ℕ) → read_form i.line ≡ form_of (command word.Remove (p, tt))
    → (outcome s t i).reply ≡ says text
    → follow s t i ns ≡ only (λ k. not (goes tagged_level (done_in change.Remove s t p) ns k)) ns

-- The nodes that are followed are those of the table: nothing else decides which node is which.
abbrev pub Follows : Type 0
Follows =
    (s t : List ℕ) (is : List Input) (ns : List Tagged)
    → map (λ n. n.0) ns ≡ records t → map (λ n. n.0) (follow_all s t is ns) ≡ records (table_after_all s t is)

-- the nodes of a table with their numbers 0, 1, 2, .. as tags
abbrev pub tag_all : ℕ → List (List ℕ) → List Tagged
tag_all i [] = []
tag_all i (r ∷ rs) = (r, some i) ∷ tag_all (suc i) rs

abbrev pub tag_at : List Tagged → ℕ → Option ℕ
tag_at [] k = none
tag_at (n ∷ ns) zero = n.1
tag_at (n ∷ ns) (suc k) = tag_at ns k

-- the nodes that carry a tag, each with its record
abbrev pub known : Tagged → Option Tagged
known (r, none) = none
known (r, some i) = some (r, some i)

abbrev pub known_of : List Tagged → List Tagged
known_of ns = tags known ns

-- "Inserted nodes are new": after a line that inserts (child, append, before, after) the nodes that were there are those before the line, each with its record. So
-- all others came with the line.
abbrev pub InsertedNew : Type 0
InsertedNew =
    (s t : List ℕ) (i : Input) (at : Place) (ms : List Bool) (m : ℕ) (tree : List ℕ) (g : ℕ)
    → effect_of s t i.line ≡ insertion at ms m tree g
    → known_of (follow s t i (tag_all 0 (records t))) ≡ tag_all 0 (records t)

-- node k of the table after the lines was node i of the table before them
abbrev pub Was : List ℕ → List ℕ → List Input → ℕ → ℕ → Type 0
Was s t is k i = tag_at (follow_all s t is (tag_all 0 (records t))) k ≡ some i

-- A point of a list, and a later one: `before` leads to the first, `between` from there to the second.

-- "A removed node never comes back, whatever uses its record": a node of the start that stands at the later point stands at the earlier one too.
abbrev pub NoneBack : Type 0
NoneBack =
    (s t : List ℕ) (before between : List Input) (k i : ℕ) → Was s t (before ++ between) k i
    → (j : ℕ) × Was s t before j i × Was (state_after_all s t before) (table_after_all s t before) between k j

-- "kept nodes keep their order", and no two nodes of the last table were one node of the first. NodesKept and NodesRemoved say it of one line.
abbrev pub OrderKept : Type 0
OrderKept =
    (s t : List ℕ) (is : List Input) (k k' i i' : ℕ) → Was s t is k i → Was s t is k' i' → k < k' → i < i'

-- the rights of subject u on node k
abbrev pub rights_at : List ℕ → List ℕ → ℕ → ℕ → ℕ
rights_at s t u k = get_or (rights_on (policy_in s) u (records t)) k 0

-- Demand 3, its sentence on rights, between any two points of a list: from every start with the root line taken (one that 13 does not let pass stays as it is), for
-- every list of lines, whoever works and whatever is refused, every declared subject has at the later point, on a node that was there at the earlier one, the
-- rights that it had on it then.
abbrev pub SameRights : Type 0
SameRights =
    (s t : List ℕ) → stage_c ≤ stage s → (before between : List Input) (u : ℕ) → u < length (policy_in s).names → (k i : ℕ)
    → Was (state_after_all s t before) (table_after_all s t before) between k i
    → rights_at (state_after_all s t (before ++ between)) (table_after_all s t (before ++ between)) u k
    ≡ rights_at (state_after_all s t before) (table_after_all s t before) u i
