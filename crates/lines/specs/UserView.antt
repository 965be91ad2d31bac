-- What a session's user has and sees, and what a path selects there (document 01, "View", "Paths", "Changes").
use Rattle.std.specs.Prelude.{ℕ, ◌<◌, ◌≡◌, Bool, true, false, List, eqb, get_or}
use Rattle.rights.specs.Path.{Path}
use Rattle.rights.specs.PathReader.{Got, got, bad}
use Rattle.rights.specs.Nodes.{Nodes}
use Rattle.rights.specs.Isa.{passes_own}
use Rattle.rights.specs.Policy.{policy_word}
use Rattle.rights.specs.Rights.{rights_on}
use Rattle.rights.specs.XPath.{xpath_selection}
use Rattle.rights.specs.Table.{records}
use Rattle.views.specs.Shown.{Stored, stored, view, shown}
use Rattle.views.specs.Done.{done_marks, in_table}
use Rattle.views.specs.declared.done.Change.{Change}
use Rattle.lines.specs.State.{user_byte, user_of, day_in, policy_in}

-- there is no user yet
abbrev pub no_user : List ℕ → Bool
no_user s = eqb (user_byte s) 0

-- the user's rights on each node of the stored tree, the stored nodes with them on the session's day, and the view
abbrev pub rights_in : List ℕ → List ℕ → List ℕ
rights_in s t = rights_on (policy_in s) (user_of s) (records t)

abbrev pub stored_in : List ℕ → List ℕ → List Stored
stored_in s t = stored (day_in s) t (rights_in s t)

abbrev pub view_in : List ℕ → List ℕ → Nodes
view_in s t = view (stored_in s t)

-- the path is not well formed
abbrev pub not_path : Got Path → Bool
not_path (got p e) = false
not_path bad = true

-- "Paths of E run on the view": the marks of what a path selects there, `$` passing the names of all that the user is
abbrev pub marks_in : List ℕ → List ℕ → List ℕ → List Bool
marks_in s t path = xpath_selection path (passes_own (policy_in s) (user_of s)) (view_in s t)

-- "the first selected node in document order" (document 02, card 1): the path selects node k of the view, and none before it
pub record FirstSelected (s t path : List ℕ) (k : ℕ) : Type 0 where
  pub selected : get_or (marks_in s t path) k false ≡ true
  pub none_before : (j : ℕ) → j < k → get_or (marks_in s t path) j false ≡ false

-- "nothing is selected"
abbrev pub NoneSelected : List ℕ → List ℕ → List ℕ → Type 0
NoneSelected s t path = (j : ℕ) → get_or (marks_in s t path) j false ≡ false

-- The records that a path selects, a mark for each record, and those of them that a change does: "All selections and rights are taken before anything changes."
abbrev pub selected_in : List ℕ → List ℕ → List ℕ → List Bool
selected_in s t path = in_table (shown (stored_in s t)) (marks_in s t path)

abbrev pub done_in : Change → List ℕ → List ℕ → List ℕ → List Bool
done_in c s t path = done_marks c (policy_word (policy_in s)) t (rights_in s t) (shown (stored_in s t)) (selected_in s t path)
