-- The conditions of the refusals in the paper's words (document 01, "Who can be turned down, and for what"), and the table of each form's own: the numbers that
-- it may be refused with, in the paper's order. The whole line's table is store's Refusals.
use Rattle.std.specs.Prelude.{ℕ, ◌+◌, ◌*◌, ◌≤◌, ◌<◌, ◌≡◌, Bool, true, false, List, [], ◌∷◌, ◌++◌, ◌⊎◌, length, get_or}
use Rattle.rights.specs.Labels.{same_label, restricted}
use Rattle.rights.specs.Marks.{mark_count}
use Rattle.rights.specs.Nodes.{level_of, label_of}
use Rattle.rights.specs.Path.{Path}
use Rattle.rights.specs.PathReader.{number_of}
use Rattle.rights.specs.PathText.{write, Within}
use Rattle.rights.specs.Policy.{Policy, name_of, policy_word, some, uses}
use Rattle.rights.specs.Table.{count, level, record_at}
use Rattle.rights.specs.Tree.{Tree, nodes_of}
use Rattle.views.specs.Change.{lower, free}
use Rattle.views.specs.declared.insert.Place.{Place}
use Rattle.views.specs.declared.insert.Place.TheVariants as place
use Rattle.forms.specs.declared.layout.Word.{Word}
use Rattle.forms.specs.declared.layout.Word.TheVariants as word
use Rattle.forms.specs.Layout.{shape_of}
use Rattle.forms.specs.Command.{Values, Command}
use Rattle.lines.specs.PolicyEdit.{isa_held, bracketed, step_list}
use Rattle.lines.specs.Refusal.{rank}
use Rattle.lines.specs.State.{user_byte, policy_in}
use Rattle.lines.specs.UserView.{done_in}
use Rattle.lines.specs.Work.{change_at}
use Rattle.lines.specs.Clause.{size_of}

-- some element has P
abbrev pub Some : {A : Type 0} → (A → Type 0) → List A → Type 0
Some P [] = ⊥
Some P (x ∷ xs) = P x ⊎ Some P xs

-- "4 path not well formed": no path within the limits is written so
abbrev pub NoPath : List ℕ → Type 0
NoPath text = (p : Path) → Within p → text ≡ write p → ⊥

-- the text is a path that passes a test
abbrev pub PathThat : (Path → Bool) → List ℕ → Type 0
PathThat f text = (p : Path) × Within p × (text ≡ write p) × (f p ≡ true)

-- "5 a name unknown, declared twice, an isa line repeated, or R not before N". Subject u has the name x:
abbrev pub Named : Policy → ℕ → List ℕ → Type 0
Named P u x = (u < length P.names) × (same_label x (name_of P u) ≡ true)

abbrev pub Declared : Policy → List ℕ → Type 0
Declared P x = (u : ℕ) × Named P u x

abbrev pub Unknown : Policy → List ℕ → Type 0
Unknown P x = (u : ℕ) → Named P u x → ⊥

abbrev pub NotBefore : Policy → List ℕ → List ℕ → Type 0
NotBefore P r n = (v : ℕ) × (u : ℕ) × Named P v r × Named P u n × (u ≤ v)

abbrev pub Repeated : Policy → List ℕ → List ℕ → Type 0
Repeated P n r = (u : ℕ) × (v : ℕ) × Named P u n × Named P v r × (isa_held P u v ≡ true)

-- "9 RESTRICTED as a label": of a step of a rule's path, which has no brackets (6), and of a node of a tree
abbrev pub IsRestricted : List ℕ → Type 0
IsRestricted l = same_label l restricted ≡ true

abbrev pub names_restricted : Path → Bool
names_restricted p = some (uses false restricted) (step_list p)

abbrev pub TreeRestricted : Tree → Type 0
TreeRestricted u = Some (λ n. IsRestricted (label_of n)) (nodes_of 0 u)

-- "10 a level above 11": of a node of a tree whose root lands at level l
abbrev pub DeepAt : ℕ → Tree → Type 0
DeepAt l u = Some (λ n. 11 < level_of n) (nodes_of l u)

-- "15 .. a day outside 1 to 366 or F after T" (document 02, card 7): of days as they are typed
abbrev pub typed_day : List ℕ → ℕ
typed_day d = number_of 0 d

abbrev pub NoDay : List ℕ → Type 0
NoDay d = (typed_day d < 1) ⊎ (366 < typed_day d)

-- Rows: a number, and its condition
abbrev pub Conditions : Type 1
Conditions = List (ℕ × Type 0)

module _ (s t : List ℕ) where
  -- what every form asks that shows the view
  abbrev pub view_rows : Conditions
  view_rows = (8, user_byte s ≡ 0) ∷ []

  -- what every form with a path of E asks
  abbrev pub path_rows : List ℕ → Conditions
  path_rows p = (4, NoPath p) ∷ view_rows

  abbrev pub relabel_rows : List ℕ → List ℕ → Conditions
  relabel_rows p l = path_rows p ++ ((9, IsRestricted l ⊎ (policy_word (policy_in s) l ≡ true)) ∷ [])

  -- "10 .. at a place that would be done": node i, beside which the tree lands at the same level, or below it; "11 .. insertions D × tree size"
  abbrev pub DeepPlace : Place → List ℕ → Tree → Type 0
  DeepPlace at p u = (i : ℕ) × (i < count t) × (get_or (done_in (change_at at) s t p) i false ≡ true) × DeepAt (lower at + level (record_at t i)) u

  abbrev pub insert_rows : Place → List ℕ → Tree → Conditions
  insert_rows at p u =
      path_rows p
      ++ ((9, TreeRestricted u) ∷ (10, DeepPlace at p u) ∷ (11, free t < mark_count (done_in (change_at at) s t p) * size_of u) ∷ [])

  -- each form's own rows; a number without a row never applies to the form
  abbrev pub rows_by : (w : Word) → Values (shape_of w) → Conditions
  rows_by word.Subject (n, tt) = (5, Declared (policy_in s) n) ∷ (7, 64 ≤ length (policy_in s).names) ∷ (9, IsRestricted n) ∷ []
  rows_by word.Isa (n, (r, tt)) =
      (5, Unknown (policy_in s) n)
      ∷ (5, Unknown (policy_in s) r)
      ∷ (5, NotBefore (policy_in s) r n)
      ∷ (5, Repeated (policy_in s) n r)
      ∷ (7, 128 ≤ length (policy_in s).isa)
      ∷ []
  rows_by word.Rule (a, (r, (p, (n, tt)))) =
      (4, NoPath p)
      ∷ (5, Unknown (policy_in s) n)
      ∷ (6, PathThat bracketed p)
      ∷ (7, 128 ≤ length (policy_in s).rules)
      ∷ (9, PathThat names_restricted p)
      ∷ []
  rows_by word.Root (l, tt) = (9, IsRestricted l) ∷ (11, free t < 1) ∷ []
  rows_by word.Child (u, tt) = (9, TreeRestricted u) ∷ (10, DeepAt 1 u) ∷ (11, free t < size_of u) ∷ []
  rows_by word.User (n, tt) = (5, Unknown (policy_in s) n) ∷ []
  rows_by word.View tt = view_rows
  rows_by word.Query (p, tt) = path_rows p
  rows_by word.Find (p, tt) = path_rows p
  rows_by word.Rename (p, (l, tt)) = relabel_rows p l
  rows_by word.Update (p, (l, tt)) = relabel_rows p l
  rows_by word.Append (p, (u, tt)) = insert_rows place.Append p u
  rows_by word.Before (p, (u, tt)) = insert_rows place.Before p u
  rows_by word.After (p, (u, tt)) = insert_rows place.After p u
  rows_by word.Remove (p, tt) = path_rows p
  rows_by word.Sheet (l, tt) = view_rows
  rows_by word.Day (d, tt) = (15, NoDay d) ∷ []
  rows_by word.Window (p, (f, (l, tt))) = path_rows p ++ ((15, NoDay f ⊎ NoDay l ⊎ (typed_day l < typed_day f)) ∷ [])
  rows_by word.Other tt = []

  abbrev pub rows : Command → Conditions
  rows c = rows_by c.word c.values

-- the condition of number n holds
abbrev pub Holds : ℕ → Conditions → Type 0
Holds n [] = ⊥
Holds n (r ∷ rs) = ((r.0 ≡ n) × r.1) ⊎ Holds n rs

-- m is tested before n: "13 is tested first, then 1 to 12 rising" (law rank_is)
abbrev pub Before : ℕ → ℕ → Type 0
Before m n = rank m < rank n

-- it holds, and that of no number before it does
abbrev pub First : ℕ → Conditions → Type 0
First n rs = Holds n rs × ((m : ℕ) → Before m n → Holds m rs → ⊥)
