-- The forms of a line (document 01, "Lines"), a row each: the stage that it belongs to, how its word is written, and the kinds of the parts that follow the word.
-- A new form is a row here and an entry of form_words.
use Rattle.std.specs.Prelude.{ℕ, List, [], ◌∷◌, map}
use Rattle.rights.specs.Bytes.{bytes}
use Rattle.forms.specs.declared.layout.Word.{Word}
use Rattle.forms.specs.declared.layout.Word.TheVariants as word
use Rattle.forms.specs.Word.{among, label_bytes_at}
use Rattle.forms.specs.Kind.{Kind, Label, Path, Tree, Sign, Right, Day}

-- "Stages, in order" A to E, by number
abbrev pub stage_a : ℕ
stage_a = 0

abbrev pub stage_b : ℕ
stage_b = 1

abbrev pub stage_c : ℕ
stage_c = 2

abbrev pub stage_d : ℕ
stage_d = 3

abbrev pub stage_e : ℕ
stage_e = 4

-- what is no form belongs to no stage
abbrev pub no_stage : ℕ
no_stage = 5

pub record FormRow : Type 0 where
  pub stage : ℕ
  pub letters : List ℕ
  pub shape : List Kind

abbrev pub row : ℕ → List ℕ → List Kind → FormRow
row g w ks = record { stage = g; letters = w; shape = ks }

abbrev pub layout : Word → FormRow
layout word.Subject = row stage_a (bytes "subject") (Label ∷ [])
-- "N is an R"
layout word.Isa = row stage_a (bytes "isa") (Label ∷ Label ∷ [])
layout word.Rule = row stage_b (bytes "rule") (Sign ∷ Right ∷ Path ∷ Label ∷ [])
layout word.Root = row stage_c (bytes "root") (Label ∷ [])
layout word.Child = row stage_d (bytes "child") (Tree ∷ [])
layout word.User = row stage_e (bytes "user") (Label ∷ [])
layout word.View = row stage_e (bytes "view") []
layout word.Query = row stage_e (bytes "query") (Path ∷ [])
layout word.Find = row stage_e (bytes "find") (Path ∷ [])
layout word.Rename = row stage_e (bytes "rename") (Path ∷ Label ∷ [])
layout word.Update = row stage_e (bytes "update") (Path ∷ Label ∷ [])
layout word.Append = row stage_e (bytes "append") (Path ∷ Tree ∷ [])
layout word.Before = row stage_e (bytes "before") (Path ∷ Tree ∷ [])
layout word.After = row stage_e (bytes "after") (Path ∷ Tree ∷ [])
layout word.Remove = row stage_e (bytes "remove") (Path ∷ [])
-- document 02, card 3
layout word.Sheet = row stage_e (bytes "sheet") (Label ∷ [])
-- document 02, card 7
layout word.Day = row stage_e (bytes "day") (Day ∷ [])
layout word.Window = row stage_e (bytes "window") (Path ∷ Day ∷ Day ∷ [])
-- no form
layout word.Other = row no_stage [] []

abbrev pub stage_of : Word → ℕ
stage_of w = (layout w).stage

abbrev pub letters : Word → List ℕ
letters w = (layout w).letters

abbrev pub shape_of : Word → List Kind
shape_of w = (layout w).shape

-- the words that begin a form
abbrev pub form_words : List Word
form_words =
    word.Subject
    ∷ word.Isa
    ∷ word.Rule
    ∷ word.Root
    ∷ word.Child
    ∷ word.User
    ∷ word.View
    ∷ word.Query
    ∷ word.Find
    ∷ word.Rename
    ∷ word.Update
    ∷ word.Append
    ∷ word.Before
    ∷ word.After
    ∷ word.Remove
    ∷ word.Sheet
    ∷ word.Day
    ∷ word.Window
    ∷ []

abbrev pub words : List (List ℕ × Word)
words = map (λ w. (letters w, w)) form_words

-- the word that the label bytes at a place write
unfoldable pub word_at : List ℕ → ℕ → Word
word_at s at = among word.Other words (label_bytes_at s at)
