-- The call that loads the solver's file (document 02, card 2): "A reader takes one XML 1.0 document of a narrow kind into an empty table, in place of root
-- and child lines." What it answers and leaves is `load_xml`, and what it is turned away for is `load_refusals`. It is refused with a number exactly if the
-- number's condition holds and none before it does (law load_refused_exactly), accepted exactly if none holds (law load_accepted_exactly), and then it
-- leaves what the matching lines would (law load_accepted).
use Rattle.std.specs.Prelude.{ℕ, ◌≤◌, ◌<◌, cond, not, List, [], ◌∷◌, ◌++◌, map, leb, ltb, length}
use Rattle.rights.specs.Held.{table_bytes, node_bytes}
use Rattle.rights.specs.Labels.{same_label, restricted}
use Rattle.rights.specs.Nodes.{level_of, label_of}
use Rattle.rights.specs.Policy.{some}
use Rattle.rights.specs.Table.{capacity}
use Rattle.rights.specs.Tree.{Tree, size_of}
use Rattle.answers.specs.Answer.{ok_text}
use Rattle.xml.specs.Document.{DocumentOf}
use Rattle.xml.specs.How.Tokens.{is_document, document_nodes}
use Rattle.lines.specs.Conditions.{Conditions, TreeRestricted, DeepAt}
use Rattle.lines.specs.Outcome.{Outcome, says}
use Rattle.lines.specs.Refusal.{Check, check, area_check, checked, bad_store, wrong_stage, no_document, banned_label, level_too_deep, table_full}
use Rattle.lines.specs.State.{stage_c, stage_d, stage, with_stage, store_ok}
use Rattle.store.specs.Refusals.{NoStore}

-- The refusals in words. A document is of one tree at most (xml, law one_tree); the tree of this document has P:
abbrev pub DocumentWith : List ℕ → (Tree → Type 0) → Type 0
DocumentWith xml P = (u : Tree) × DocumentOf xml u × P u

-- "Turned away: 3 if there is a root already; 14, after 4, for .. anything else outside this kind; 9 to 12 as for child lines, 11 on the whole size."
abbrev pub load_refusals : (s t xml : List ℕ) → ℕ → Conditions
load_refusals s t xml room =
    (13, NoStore s t)
    ∷ (3, stage_c ≤ stage s)
    ∷ (14, (u : Tree) → DocumentOf xml u → ⊥)
    ∷ (9, DocumentWith xml TreeRestricted)
    ∷ (10, DocumentWith xml (DeepAt 0))
    ∷ (11, DocumentWith xml (λ u. capacity (length t) < size_of u))
    ∷ (12, room < length ok_text)
    ∷ []

-- The same as checks of the bytes: of the store, then of the document and its nodes, for a table of `size` bytes
abbrev pub store_checks : List ℕ → List ℕ → List Check
store_checks s t = check bad_store (not (store_ok s t)) ∷ check wrong_stage (leb stage_c (stage s)) ∷ []

abbrev pub document_checks : ℕ → List ℕ → List Check
document_checks size xml =
    check no_document (not (is_document xml))
    ∷ check banned_label (some (λ n. same_label (label_of n) restricted) (document_nodes xml))
    ∷ check level_too_deep (some (λ n. ltb 11 (level_of n)) (document_nodes xml))
    ∷ check table_full (ltb (capacity size) (length (document_nodes xml)))
    ∷ []

abbrev pub load_checks : (s t xml : List ℕ) → ℕ → List Check
load_checks s t xml room = store_checks s t ++ (document_checks (length t) xml ++ (area_check room (length ok_text) ∷ []))

-- the stage of the last of the matching lines: C if the root is the only node, else D
abbrev pub nodes_stage : ℕ → ℕ
nodes_stage n = cond (leb n 1) stage_c stage_d

-- What the call answers and leaves, from the state s, the table t and an area of `room` bytes: "The answer is `(ok)`."
unfoldable pub load_xml : (s t xml : List ℕ) → ℕ → Outcome
load_xml s t xml room =
    checked (load_checks s t xml room) s t
    (record {
      reply = says ok_text;
      state = with_stage (nodes_stage (length (document_nodes xml))) s;
      table = table_bytes (length t) (map node_bytes (document_nodes xml));
    })
