-- What is shown, by the depth of the shown chain and by the numbers of the shown nodes, and how a change reads what is shown and selected off those numbers.
-- proofs/ShownLaws.antt, proofs/ViewLaws.antt and proofs/DoneLaws.antt show that this is what `shown`, `view` and `in_table` say.
use Rattle.std.specs.Prelude.{ℕ, zero, suc, ◌%◌, ◌+◌, min, Bool, true, false, cond, ◌&&◌, ◌≡◌, List, [], ◌∷◌, ◌++◌, map, eqb, leb, get_or, drop}
use Rattle.rights.specs.Limits.{records_max}
use Rattle.rights.specs.Table.{count}
use Rattle.rights.specs.Marks.{bit, marks_of, keep}
use Rattle.rights.specs.Policy.{policy_word, read}
use Rattle.rights.specs.PolicyBytes.{policy_of}
use Rattle.views.specs.Done.{done_marks}
use Rattle.views.specs.declared.done.Change.{Change}
use Rattle.views.specs.declared.done.Change.TheVariants.{Rename, Update, Append, Before, After, Remove, Window}
use Rattle.rights.specs.Rights.{holds}
use Rattle.views.specs.Shown.{Stored, stored_level, showable, shown}

-- the depth of the shown chain after a node at level l, shown or not
abbrev pub depth_after : ℕ → ℕ → Bool → ℕ
depth_after d l b = cond b (l + 1) (min d l)

module _ {E : Type 0} (lev : E → ℕ) (gr : E → Bool) where
  -- What is shown, with one number, the depth of the shown chain: a node is shown if its level is at most that and it is granted. Equal to `shown_by`
  -- on every nested list (proofs/ShownLaws.antt).
  abbrev pub is_shown_at : ℕ → E → Bool
  is_shown_at d x = gr x && leb (lev x) d

  unfoldable pub shown_from : ℕ → List E → List Bool
  shown_from d [] = []
  shown_from d (x ∷ xs) = is_shown_at d x ∷ shown_from (depth_after d (lev x) (is_shown_at d x)) xs

-- the number that stands for a shown node: its record's, and 16384 more where the label stays hidden
abbrev pub shown_number : Stored → ℕ
shown_number x = cond (holds read x.rights) x.number (x.number + records_max)

-- the view by numbers: `view_of table (shown_numbers (stored day table rights))` is the view (proofs/ViewLaws.antt)
abbrev pub shown_numbers : List Stored → List ℕ
shown_numbers xs = map shown_number (keep (shown xs) xs)

-- the numbers by the depth of the shown chain
abbrev pub numbers_from : ℕ → List Stored → List ℕ
numbers_from d xs = map shown_number (keep (shown_from stored_level showable d xs) xs)

-- the next shown node is record i
abbrev pub is_next : List ℕ → ℕ → Bool
is_next [] i = false
is_next (x ∷ xs) i = eqb (x % records_max) i

-- of n records from i on, whether each is shown, and whether it is shown and marked
unfoldable pub shown_by_numbers : List ℕ → ℕ → ℕ → List Bool
shown_by_numbers xs zero i = []
shown_by_numbers xs (suc n) i = is_next xs i ∷ shown_by_numbers (cond (is_next xs i) (drop 1 xs) xs) n (suc i)

unfoldable pub by_numbers : List ℕ → List Bool → ℕ → ℕ → List Bool
by_numbers xs ms zero i = []
by_numbers xs ms (suc n) i =
    cond (is_next xs i) (get_or ms 0 false ∷ by_numbers (drop 1 xs) (drop 1 ms) n (suc i)) (false ∷ by_numbers xs ms n (suc i))

-- What a change does, from the numbers of the shown nodes and their marks: in the first bytes of `done`, one a record; the others stay. First by the
-- labels that count as policy words, then by a policy.
abbrev pub DoneWhere : Change → (List ℕ → Bool) → List ℕ → List ℕ → List ℕ → List ℕ → List ℕ → List ℕ → Type 0
DoneWhere c word table rights shown marks done done' =
    done'
    ≡ map bit (done_marks c word table rights (shown_by_numbers shown (count table) 0) (by_numbers shown (marks_of marks) (count table) 0))
    ++ drop (count table) done

abbrev pub DoneBy : Change → List ℕ → List ℕ → List ℕ → List ℕ → List ℕ → List ℕ → List ℕ → Type 0
DoneBy c policy table rights shown marks done done' = DoneWhere c (policy_word (policy_of policy)) table rights shown marks done done'

-- the changes that ask whether a label is a policy word
abbrev pub asks_word : Change → Bool
asks_word Rename = true
asks_word Update = true
asks_word Append = false
asks_word Before = false
asks_word After = false
asks_word Remove = false
asks_word Window = false
