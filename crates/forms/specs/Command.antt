-- What a line says (document 01, "Lines"): a form by its word, with the values of its parts, as it is written there, and which values may be written.
-- Which forms there are, and the kinds of their parts, is the table `layout`. Nothing here speaks of how a line is read.
use Rattle.std.specs.Prelude.{ℕ, ◌≤◌, ◌≡◌, Bool, true, not, cond, ◌&&◌, ◌||◌, List, [], ◌∷◌, ◌++◌, eqb, length}
use Rattle.rights.specs.Bytes.{bytes, all, digit_byte}
use Rattle.rights.specs.Policy.{Right, position, read, insert, update, delete, bit_of}
use Rattle.rights.specs.PathReader.{number_of}
use Rattle.rights.specs.Tree.{Tree, write_tree, nodes_of}
use Rattle.forms.specs.declared.layout.Word.{Word}
use Rattle.forms.specs.Text.{line_byte}
use Rattle.forms.specs.Word.{accept, deny}
use Rattle.forms.specs.Part.{day_digits}
use Rattle.forms.specs.Kind.{Kind}
use Rattle.forms.specs.Kind as kind
use Rattle.forms.specs.Layout.{stage_of, letters, shape_of}
use Rattle.forms.specs.Form.{Held, AllHeld, ReadForm}
use Rattle.forms.specs.TreeText.{Short, GoodTree, GoodLabel}

-- What a part of each kind says: a name, a label or a path its text, a tree, whether a rule accepts, a right, a day its digits
abbrev pub Value : Kind → Type 0
Value kind.Label = List ℕ
Value kind.Path = List ℕ
Value kind.Tree = Tree
Value kind.Sign = Bool
Value kind.Right = Right
Value kind.Day = List ℕ

abbrev pub Values : List Kind → Type 0
Values [] = Unit {0}
Values (k ∷ ks) = Value k × Values ks

pub record Command : Type 0 where
  pub word : Word
  pub values : Values (shape_of word)

abbrev pub command : (w : Word) → Values (shape_of w) → Command
command w vs = record { word = w; values = vs }

-- the stage that it belongs to
abbrev pub stage_for : Command → ℕ
stage_for c = stage_of c.word

unfoldable pub write_right : Right → List ℕ
write_right position = bytes "position"
write_right read = bytes "read"
write_right insert = bytes "insert"
write_right update = bytes "update"
write_right delete = bytes "delete"

unfoldable pub write_value : (k : Kind) → Value k → List ℕ
write_value kind.Label l = l
write_value kind.Path p = p
write_value kind.Tree t = write_tree t
write_value kind.Sign b = cond b accept deny
write_value kind.Right r = write_right r
write_value kind.Day d = d

-- "Parts are parted by one space; no other spaces."
abbrev pub write_values : (ks : List Kind) → Values ks → List ℕ
write_values [] vs = bytes ")"
write_values (k ∷ ks) (v, vs) = bytes " " ++ (write_value k v ++ write_values ks vs)

-- `(`, the word, the parts, `)`
unfoldable pub written : Command → List ℕ
written c = bytes "(" ++ (letters c.word ++ write_values (shape_of c.word) c.values)

-- "any run of one or more bytes without space or parenthesis passes as a path"; each byte of a line is 32 to 126
unfoldable pub run_byte : ℕ → Bool
run_byte b = line_byte b && not (eqb b 32 || (eqb b 40 || eqb b 41))

abbrev pub GoodPath : List ℕ → Type 0
GoodPath p = (1 ≤ length p) × (all run_byte p ≡ true)

-- "A day is typed as 1 to 3 digits" (document 02, card 7)
abbrev pub GoodDay : List ℕ → Type 0
GoodDay d = Short digit_byte day_digits d

-- What may be written: "Labels also serve as subject names."
unfoldable pub GoodValue : (k : Kind) → Value k → Type 0
GoodValue kind.Label l = GoodLabel l
GoodValue kind.Path p = GoodPath p
GoodValue kind.Tree t = GoodTree t
GoodValue kind.Sign b = Unit {0}
GoodValue kind.Right r = Unit {0}
GoodValue kind.Day d = GoodDay d

abbrev pub GoodValues : (ks : List Kind) → Values ks → Type 0
GoodValues [] vs = Unit {0}
GoodValues (k ∷ ks) (v, vs) = GoodValue k v × GoodValues ks vs

-- a word of a form, which has letters, and good values
pub record GoodCommand (c : Command) : Type 0 where
  pub word : 1 ≤ length (letters c.word)
  pub values : GoodValues (shape_of c.word) c.values

-- The command as a form that is read: a tree by its nodes, a right by its bit, a day by its number (law written_read)
abbrev pub held_of : (k : Kind) → Value k → Held k
held_of kind.Label l = l
held_of kind.Path p = p
held_of kind.Tree t = nodes_of 0 t
held_of kind.Sign b = b
held_of kind.Right r = bit_of r
held_of kind.Day d = number_of 0 d

abbrev pub all_held_of : (ks : List Kind) → Values ks → AllHeld ks
all_held_of [] vs = tt
all_held_of (k ∷ ks) (v, vs) = (held_of k v, all_held_of ks vs)

abbrev pub form_of : Command → ReadForm
form_of c = record { word = c.word; parts = all_held_of (shape_of c.word) c.values }
