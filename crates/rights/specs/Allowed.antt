-- What a store may hold, in document 01's words: labels, policies and trees. How it stands in bytes is said in Held; that 13 lets exactly this pass is
-- proved in proofs/AllowedPolicyLaws.antt and proofs/AllowedTableLaws.antt.
use Rattle.std.specs.Prelude.{ℕ, ◌≤◌, ◌<◌, ◌≡◌, true, false, List, [], ◌∷◌, length, get_or}
use Rattle.rights.specs.Limits.{label_max, steps_max, days_max}
use Rattle.rights.specs.Bytes.{all}
use Rattle.rights.specs.Labels.{label_byte, same_label, restricted}
use Rattle.rights.specs.Path.{Test, label, any, own}
use Rattle.rights.specs.Policy.{Right, bit_of, Rule, Policy, name_of}
use Rattle.rights.specs.Nodes.{level_of, label_of, Nodes, DatedNode, TreeShaped}

-- P holds of each
abbrev pub All : {E : Type 0} → (E → Type 0) → List E → Type 0
All P [] = Unit {0}
All P (x ∷ t) = P x × All P t

-- A label that may be stored: "1 to 24 bytes: letters, digits, hyphen, underscore and full stop, ASCII", and not RESTRICTED.
pub record LabelOk (s : List ℕ) : Type 0 where
  pub some : 1 ≤ length s
  pub short : length s ≤ label_max
  pub bytes : all label_byte s ≡ true
  pub free : same_label s restricted ≡ false

-- An isa line (N, R): N is declared, and "R was declared before N."
pub record AllowedIsa (names : List (List ℕ)) (line : ℕ × ℕ) : Type 0 where
  pub declared : line.0 < length names
  pub before : line.1 < line.0

-- "RIGHT is position, read, insert, update or delete."
pub record AllowedRight (bit : ℕ) : Type 0 where
  pub right : Right
  pub is : bit ≡ bit_of right

-- A step of a rule's path: "a label, `*`, or `$`", no label RESTRICTED (9); it has no room for a bracket (6).
abbrev pub AllowedTest : Test → Type 0
AllowedTest (label s) = LabelOk s
AllowedTest any = Unit {0}
AllowedTest own = Unit {0}

-- "`(rule accept|deny RIGHT PATH N)`": N is declared, and "A path is 1 to 16 steps."
pub record AllowedRule (names : List (List ℕ)) (rule : Rule) : Type 0 where
  pub right : AllowedRight rule.right
  pub declared : rule.who < length names
  pub some : 1 ≤ length rule.path
  pub short : length rule.path ≤ steps_max
  pub steps : All (λ w. AllowedTest w.1) rule.path

-- "At most 64 subjects, 128 isa lines, 128 rules." No name is declared twice, no isa line repeated (5).
pub record AllowedPolicy (P : Policy) : Type 0 where
  pub few_names : length P.names ≤ 64
  pub names : All LabelOk P.names
  pub names_differ : (i j : ℕ) → i < j → j < length P.names → same_label (name_of P i) (name_of P j) ≡ false
  pub few_isa : length P.isa ≤ 128
  pub isa : All (AllowedIsa P.names) P.isa
  pub isa_differ : (i j : ℕ) → i < j → j < length P.isa → get_or P.isa i (0, 0) ≡ get_or P.isa j (0, 0) → ⊥
  pub few_rules : length P.rules ≤ 128
  pub rules : All (AllowedRule P.names) P.rules

-- "The stored tree has one root, at level 0. Levels run 0 to 11." A list without nodes, which has no root, is allowed too.
pub record AllowedNodes (t : Nodes) : Type 0 where
  pub shape : TreeShaped t
  pub levels : All (λ x. level_of x ≤ 11) t
  pub labels : All (λ x. LabelOk (label_of x)) t

-- A window (document 02, card 7): its days are "1 to 366", and the first is not after the last; the root's is the whole year.
pub record AllowedWindow (x : DatedNode) : Type 0 where
  pub some : 1 ≤ x.first
  pub ordered : x.first ≤ x.last
  pub within : x.last ≤ days_max
  pub root : level_of x.node ≡ 0 → (x.first ≡ 1) × (x.last ≡ days_max)
