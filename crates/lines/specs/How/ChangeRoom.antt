-- What a change decides before anything changes, in the areas that the caller lends (document 01, "Changes").
use Rattle.std.specs.Prelude.{ℕ, true, ◌≡◌, List, ◌++◌, map, length, drop}
use Rattle.rights.specs.Marks.{bit, mark_count}
use Rattle.rights.specs.Policy.{position, read}
use Rattle.rights.specs.Rights.{holds}
use Rattle.rights.specs.How.Groups.{asked_on}
use Rattle.rights.specs.Table.{count, records}
use Rattle.views.specs.How.Numbers.{shown_numbers}
use Rattle.views.specs.declared.done.Change.{Change}
use Rattle.lines.specs.State.{policy_in, user_of}
use Rattle.lines.specs.UserView.{rights_in, stored_in, marks_in, done_in}

-- a set of rights with the two that decide what is shown
pub record ForView (asked : ℕ) : Type 0 where
  pub reading : holds read asked ≡ true
  pub seeing : holds position asked ≡ true

-- the asked rights of the user on each record; the rest of the area is as it was
abbrev pub AskedHeld : ℕ → List ℕ → List ℕ → List ℕ → List ℕ → Type 0
AskedHeld asked s t rights rights' = rights' ≡ asked_on asked (policy_in s) (user_of s) (records t) ++ drop (count t) rights

-- the user's rights on each record; the rest of the area is as it was
abbrev pub RightsHeld : List ℕ → List ℕ → List ℕ → List ℕ → Type 0
RightsHeld s t rights rights' = rights' ≡ rights_in s t ++ drop (count t) rights

-- what the selection of a path leaves: k, how many nodes are shown, their numbers, and their marks; the rest of both areas is as it was
pub record Chosen (s t path shown marks : List ℕ) (k : ℕ) (shown' marks' : List ℕ) : Type 0 where
  pub size : k ≡ length (shown_numbers (stored_in s t))
  pub numbers : shown' ≡ shown_numbers (stored_in s t) ++ drop k shown
  pub picked : marks' ≡ map bit (marks_in s t path) ++ drop k marks

-- the records that a change does
abbrev pub MarkedFor : Change → List ℕ → List ℕ → List ℕ → List ℕ → List ℕ → Type 0
MarkedFor c s t path done done' = done' ≡ map bit (done_in c s t path) ++ drop (count t) done

-- and k, how many nodes are selected
pub record Decided (c : Change) (s t path done : List ℕ) (k : ℕ) (done' : List ℕ) : Type 0 where
  pub size : k ≡ mark_count (marks_in s t path)
  pub marks : MarkedFor c s t path done done'
