-- Demand 3 and the solver's file (document 02, card 2): "Readers have the same guarantee over such a tree." What a call of `load_xml` leaves is a start of demand 3,
-- and in the midst of a reader's work the call changes nothing. The theorem stands in proofs/Loading.antt; it assumes nothing.
use Rattle.std.specs.Prelude.{ℕ, ◌≤◌, ◌≡◌, true, false, cond, List, [], map, length}
use Rattle.rights.specs.Held.{node_bytes}
use Rattle.rights.specs.Marks.{keep}
use Rattle.rights.specs.Policy.{Policy}
use Rattle.rights.specs.Rights.{rights_on}
use Rattle.rights.specs.Table.{records}
use Rattle.rights.specs.Tree.{Tree, nodes_of}
use Rattle.views.specs.Shown.{Stored, stored_from, shown, view}
use Rattle.xml.specs.Document.{DocumentOf}
use Rattle.lines.specs.Outcome.{Accepted, Made, refusal}
use Rattle.lines.specs.Refusal.{bad_store, wrong_stage}
use Rattle.lines.specs.State.{stage_c, stage, day_in, policy_in, store_ok}
use Rattle.store.specs.LoadXml.{load_xml}
use Rattle.guarantee.specs.Alike.{SamePolicy, Behind, Alike}
use Rattle.guarantee.specs.Demand3.{Call, Run, SameLines, Begins, SameAnswers}

-- A call of `load_xml` (store/src/load.rt) on the state s and the table t that takes a document of the tree u in, and leaves s' and t': what it promises of a call
-- that is accepted. Which document, which area and what it held before are the caller's.
pub record LoadsTree (u : Tree) (s t s' t' : List ℕ) : Type 0 where
  pub xml : List ℕ
  pub document : DocumentOf xml u
  pub lent : List ℕ
  pub said : ℕ
  pub area : List ℕ
  pub promised : Made (load_xml s t xml (length lent)) lent (Accepted said) s' t' area

-- The nodes of a tree as a table holds them on day d, with the rights of subject n on each, and those of them that are shown to n
abbrev pub tree_for : ℕ → Policy → ℕ → Tree → List Stored
tree_for d P n u = stored_from d 0 (map node_bytes (nodes_of 0 u)) (rights_on P n (map node_bytes (nodes_of 0 u)))

abbrev pub tree_shown_to : ℕ → Policy → ℕ → Tree → List Stored
tree_shown_to d P n u = keep (shown (tree_for d P n u)) (tree_for d P n u)

-- The two suppositions of demand 3 on two trees, for the reader n: they look the same, and no policy word differs behind RESTRICTED.
pub record TreesAlike (d : ℕ) (P : Policy) (n : ℕ) (u u' : Tree) : Type 0 where
  pub looks : view (tree_for d P n u) ≡ view (tree_for d P n u')
  pub behind : Behind P (tree_shown_to d P n u) (tree_shown_to d P n u')

-- Two documents, loaded under the same policy on the same day, whose trees are alike to the reader n, leave stores that are. What each call left is sₗ and tₗ.
abbrev pub LoadedAlike : Type 0
LoadedAlike =
    (n : ℕ) (u u' : Tree) (s t sₗ tₗ s' t' sₗ' tₗ' : List ℕ) → LoadsTree u s t sₗ tₗ → LoadsTree u' s' t' sₗ' tₗ'
    → SamePolicy (policy_in s) (policy_in s') → day_in s ≡ day_in s' → TreesAlike (day_in s) (policy_in s) n u u' → Alike n sₗ tₗ sₗ' tₗ'

-- So any two runs of the same lines after the calls answer the reader alike, in the words of demand 3.
abbrev pub LoadedAnswers : Type 0
LoadedAnswers =
    (n : ℕ) (u u' : Tree) (s t sₗ tₗ s' t' sₗ' tₗ' : List ℕ) → LoadsTree u s t sₗ tₗ → LoadsTree u' s' t' sₗ' tₗ'
    → SamePolicy (policy_in s) (policy_in s') → day_in s ≡ day_in s' → TreesAlike (day_in s) (policy_in s) n u u'
    → (cs ds : List Call) → Run sₗ tₗ cs → Run sₗ' tₗ' ds → SameLines cs ds → Begins n sₗ sₗ' cs → SameAnswers n sₗ cs ds

-- Whatever is lent to the call: a store that passes 13 still does, and one that does not is refused with 13 and keeps its bytes.
abbrev pub LoadPasses : Type 0
LoadPasses =
    (s t xml : List ℕ) (room : ℕ)
    → (store_ok s t ≡ true → store_ok (load_xml s t xml room).state (load_xml s t xml room).table ≡ true)
    × (store_ok s t ≡ false → load_xml s t xml room ≡ refusal bad_store s t)

-- Once a root is there the call is turned away, with 13 or else 3, and changes nothing.
abbrev pub LoadInWork : Type 0
LoadInWork = (s t xml : List ℕ) (room : ℕ) → stage_c ≤ stage s → load_xml s t xml room ≡ refusal (cond (store_ok s t) wrong_stage bad_store) s t

-- So between two lines of demand 3's runs, whatever is lent to it, it is refused with 3 in both, and the next line gets what the one before it left.
abbrev pub LoadBetween : Type 0
LoadBetween =
    (n : ℕ) (s t s' t' : List ℕ) → Alike n s t s' t' → (xml xml' : List ℕ) (room room' : ℕ)
    → (load_xml s t xml room ≡ refusal wrong_stage s t) × (load_xml s' t' xml' room' ≡ refusal wrong_stage s' t')

-- A call that takes a document in finds no node: the sentence on rights, which speaks of kept nodes, has none to speak of.
abbrev pub NoneKept : Type 0
NoneKept = (u : Tree) (s t s' t' : List ℕ) → LoadsTree u s t s' t' → records t ≡ []

pub record LoadGuarantee : Type 0 where
  pub passes : LoadPasses
  pub alike : LoadedAlike
  pub answers : LoadedAnswers
  pub in_work : LoadInWork
  pub between : LoadBetween
  pub none_kept : NoneKept
