-- What the functions for callers that have checked nothing answer.
use Rattle.std.specs.Prelude.{ℕ, ◌%◌, ◌≡◌, Option, Some, None, Result, Ok, Err, Bool, cond, ◌&&◌, List, ◌++◌, map, leb, ltb, ℤ, pos, negsuc, length, drop}
use Rattle.rights.specs.Limits.{records_max}
use Rattle.rights.specs.Bytes.{all}
use Rattle.rights.specs.How.Numbers.{view_of}
use Rattle.rights.specs.Path.{Path}
use Rattle.rights.specs.PathReader.{Got, got, bad, path_of}
use Rattle.rights.specs.Isa.{passes_own}
use Rattle.rights.specs.Policy.{policy_word}
use Rattle.rights.specs.PolicyBytes.{policy_of, subject_count}
use Rattle.rights.specs.PolicyCheck.{policy_ok}
use Rattle.rights.specs.Rights.{rights_on}
use Rattle.rights.specs.Marks.{bit}
use Rattle.rights.specs.How.Selection.{selection}
use Rattle.rights.specs.Table.{table_ok, count, records}
use Rattle.trials.specs.declared.TrialError.{TrialError}
use Rattle.trials.specs.declared.TrialError.TheVariants.{NotWellFormed, NotAsked}

-- For C programs each answer is a number (crate trials_c); these two are -1 and -2.
abbrev pub refused : ℤ
refused = negsuc 0

abbrev pub not_well_formed : ℤ
not_well_formed = negsuc 1

-- 1 for yes and 0 for no
abbrev pub yes : Bool → ℤ
yes b = cond b (pos 1) (pos 0)

-- a count, or why there is none
abbrev pub answer_code : Result ℕ TrialError → ℤ
answer_code (Ok n) = pos n
answer_code (Err NotWellFormed) = not_well_formed
answer_code (Err NotAsked) = refused

-- one answer where a path was read, another where it is not well formed
abbrev pub either : {A : Type 0} → Got Path → A → A → A
either (got p e) x y = x
either bad x y = y

abbrev pub path_code : List ℕ → ℤ
path_code s = either (path_of s) (pos 1) (pos 0)

abbrev pub word_code : List ℕ → List ℕ → ℤ
word_code policy label = cond (policy_ok policy) (yes (policy_word (policy_of policy) label)) refused

-- nothing, where the bytes are no policy
abbrev pub word_answer : List ℕ → List ℕ → Option Bool
word_answer policy label = cond (policy_ok policy) (Some (policy_word (policy_of policy) label)) None

-- a policy, a subject of it and a table
unfoldable pub asks : List ℕ → ℕ → List ℕ → Bool
asks policy u table = policy_ok policy && (ltb u (subject_count policy) && table_ok table)

-- with room for a byte a node
unfoldable pub asks_rights : List ℕ → ℕ → List ℕ → ℕ → Bool
asks_rights policy u table room = asks policy u table && leb (count table) room

-- The rights on each node and then the bytes that were there, with the number of nodes; or nothing changed.
pub record RightsAnswered (policy : List ℕ) (u : ℕ) (table before after : List ℕ) (r : Option ℕ) : Type 0 where
  pub answer : r ≡ cond (asks_rights policy u table (length before)) (Some (count table)) None
  pub out : after ≡ cond (asks_rights policy u table (length before)) (rights_on (policy_of policy) u (records table) ++ drop (count table) before) before

-- the same with a number for the answer
pub record RightsTried (policy : List ℕ) (u : ℕ) (table before after : List ℕ) (r : ℤ) : Type 0 where
  pub answer : r ≡ cond (asks_rights policy u table (length before)) (pos (count table)) refused
  pub out : after ≡ cond (asks_rights policy u table (length before)) (rights_on (policy_of policy) u (records table) ++ drop (count table) before) before

-- a number, less 16384 where the label stays hidden, is under n
abbrev pub below : ℕ → ℕ → Bool
below n x = ltb (x % records_max) n

-- with at most 16384 numbers of the table's records, and room for a byte a number
unfoldable pub asks_nodes : List ℕ → ℕ → List ℕ → List ℕ → ℕ → Bool
asks_nodes policy u table shown room =
    asks policy u table
    && (leb (length shown) records_max
    && (leb (length shown) room
    && all (below (count table)) shown))

-- The marks of the selection and then the bytes that were there, with the number of nodes; or nothing changed ("If the path is not well formed, nothing
-- of it is used.").
pub record SelectionAnswered (policy : List ℕ) (u : ℕ) (table shown path before after : List ℕ) (r : Result ℕ TrialError) : Type 0 where
  pub answer : r ≡ cond (asks_nodes policy u table shown (length before)) (either (path_of path) (Ok (length shown)) (Err NotWellFormed)) (Err NotAsked)
  pub marks : after ≡ cond (asks_nodes policy u table shown (length before)) (either (path_of path) (map bit (selection path (passes_own (policy_of policy) u) (view_of table shown)) ++ drop (length shown) before) before) before

-- the same with a number for the answer
pub record SelectionTried (policy : List ℕ) (u : ℕ) (table shown path before after : List ℕ) (r : ℤ) : Type 0 where
  pub answer : r ≡ cond (asks_nodes policy u table shown (length before)) (either (path_of path) (pos (length shown)) not_well_formed) refused
  pub marks : after ≡ cond (asks_nodes policy u table shown (length before)) (either (path_of path) (map bit (selection path (passes_own (policy_of policy) u) (view_of table shown)) ++ drop (length shown) before) before) before
