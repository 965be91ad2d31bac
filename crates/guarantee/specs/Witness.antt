-- Witnesses to demand 3 (document 01, "What demand 3 compares"): its suppositions are met by stores that differ, the second one is needed, and so are the words that a
-- rename may not touch. Every store here is made by lines as they are typed, or by a file that is loaded, on a new store. The theorems stand in proofs/Witness.antt; they
-- assume nothing.
use Rattle.std.specs.Prelude.{ℕ, ◌+◌, ◌≡◌, true, List, [], ◌∷◌, ◌++◌, map, get_or}
use Prim.Native.String.{String}
use Rattle.std.proofs.Math.Option.{some}
use Rattle.rights.specs.Bytes.{bytes}
use Rattle.rights.specs.Policy.{bit_of, position, read}
use Rattle.rights.specs.Rights.{rights_on}
use Rattle.rights.specs.Table.{records}
use Rattle.rights.specs.Tree.{Tree, tree, none, more}
use Rattle.lines.specs.State.{policy_in}
use Rattle.lines.specs.Effect.{Effect, renaming, records_after}
use Rattle.lines.specs.Outcome.{Outcome, says}
use Rattle.store.specs.LoadXml.{load_xml}
use Rattle.guarantee.specs.Alike.{Start, Alike, look, UserIs, Input, outcome}
use Rattle.guarantee.specs.Identity.{after_effect, state_after_all, table_after_all, tag_all, tag_at, rights_at}
use Rattle.guarantee.specs.Cases.{new_state, new_table}
use Rattle.guarantee.specs.Loading.{LoadsTree, TreesAlike}

-- a line as it is typed, with the program's area
abbrev pub typed : List ℕ → Input
typed line = record { line = line; room = 65536 }

-- SHA is shown places alone, but what a note says, and may remove what says `flu` and what says `SHA`. So `note` and `flu` are policy words, and the name is by `$`.
abbrev pub policy_lines : List Input
policy_lines =
    map (λ l. typed (bytes l))
    ("(subject SHA)"
    ∷ "(rule accept position //* SHA)"
    ∷ "(rule accept read //note/* SHA)"
    ∷ "(rule accept delete //flu SHA)"
    ∷ "(rule accept delete //$ SHA)"
    ∷ [])

-- the lines that make a school with one node in it; SHA, subject 0, is the user
abbrev pub school : String → List Input
school inner = policy_lines ++ (typed (bytes "(root school)") ∷ typed (bytes "(child (" ++ (bytes inner ++ bytes "))")) ∷ typed (bytes "(user SHA)") ∷ [])

abbrev pub state_with : String → List ℕ
state_with inner = state_after_all new_state (new_table 10) (school inner)

abbrev pub table_with : String → List ℕ
table_with inner = table_after_all new_state (new_table 10) (school inner)

-- The suppositions are met by stores that differ: SHA is not told `ill` from `cold`; nor, though `flu` is a policy word, `flu` from `Flu` (document 02, card 6).
abbrev pub NotTold : String → String → Type 0
NotTold one other = Alike 0 (state_with one) (table_with one) (state_with other) (table_with other) × (table_with one ≡ table_with other → ⊥)

abbrev pub Hidden : Type 0
Hidden = NotTold "ill" "cold" × NotTold "flu" "Flu"

-- So with the solver's files (specs/Loading.antt): a school's file and its tree, loaded after the lines of the policy
abbrev pub file_with : String → List ℕ
file_with inner = bytes "<school>" ++ (bytes inner ++ bytes "</school>")

abbrev pub tree_with : String → Tree
tree_with inner = tree (bytes "school") (more (tree (bytes inner) none) none)

abbrev pub policy_state : List ℕ
policy_state = state_after_all new_state (new_table 10) policy_lines

abbrev pub policy_table : List ℕ
policy_table = table_after_all new_state (new_table 10) policy_lines

abbrev pub loaded_with : String → Outcome
loaded_with inner = load_xml policy_state policy_table (file_with inner) 5

abbrev pub LoadsFile : String → Type 0
LoadsFile inner = LoadsTree (tree_with inner) policy_state policy_table (loaded_with inner).state (loaded_with inner).table

abbrev pub HiddenInFiles : Type 0
HiddenInFiles =
    LoadsFile "ill"
    × LoadsFile "cold"
    × TreesAlike 1 (policy_in policy_state) 0 (tree_with "ill") (tree_with "cold")
    × ((loaded_with "ill").table ≡ (loaded_with "cold").table → ⊥)

-- Two schools that look the same to SHA, under the same policy, and are not alike; and a line that tells them apart
pub record ToldApart (one other line answer answer' : String) : Type 0 where
  pub start : Start (state_with one) (table_with one) (state_with other) (table_with other)
  pub looks : look 0 (state_with one) (table_with one) ≡ look 0 (state_with other) (table_with other)
  pub unlike : Alike 0 (state_with one) (table_with one) (state_with other) (table_with other) → ⊥
  pub user : UserIs 0 (state_with one)
  pub user' : UserIs 0 (state_with other)
  pub says_one : (outcome (state_with one) (table_with one) (typed (bytes line))).reply ≡ says (bytes answer)
  pub says_other : (outcome (state_with other) (table_with other) (typed (bytes line))).reply ≡ says (bytes answer')

-- The second supposition is needed: of a word in a rule's path, and of a name where a rule uses `$`.
abbrev pub SecondNeeded : Type 0
SecondNeeded =
    ToldApart "ill" "flu" "(remove /*/*)" "(done 1 0)\n" "(done 1 1)\n"
    × ToldApart "ill" "SHA" "(remove /*/*)" "(done 1 0)\n" "(done 1 1)\n"

-- "Allowing a rename into a policy word: hidden children may become readable": were the root renamed to `note`, node 1, which is kept, would become readable.
pub record Readable (renamed : Effect) : Type 0 where
  pub kept : tag_at (after_effect renamed (tag_all 0 (records (table_with "ill")))) 1 ≡ some 1
  pub had : rights_at (state_with "ill") (table_with "ill") 0 1 ≡ bit_of position
  pub has : get_or (rights_on (policy_in (state_with "ill")) 0 (records_after renamed (records (table_with "ill")))) 1 0 ≡ bit_of position + bit_of read

abbrev pub WordsNeeded : Type 0
WordsNeeded = Readable (renaming (bytes "note") (true ∷ []))
