-- How a line's form is read (document 01, "Lines"): its word, then the parts of the word's shape. How it is written stands in Command.
use Rattle.std.specs.Prelude.{Option, None, ℕ, suc, ◌+◌, ◌-◌, Bool, cond, ◌&&◌, List, [], ◌∷◌, ◌++◌, length, get_or, take, drop, leb, eqb}
use Rattle.rights.specs.Bytes.{byte_at}
use Rattle.rights.specs.Labels.{label_byte}
use Rattle.rights.specs.Nodes.{Node}
use Rattle.forms.specs.declared.layout.Word.{Word}
use Rattle.forms.specs.declared.layout.Word.TheVariants.{Other}
use Rattle.forms.specs.Word.{sign_at, right_at}
use Rattle.forms.specs.Layout.{shape_of, word_at}
use Rattle.forms.specs.Part.{run_end, day_at}
use Rattle.forms.specs.Kind.{Kind, Label, Path, Tree, Sign, Right, Day, part_end}
use Rattle.forms.specs.Tree.{◌and_then◌, tree_nodes}

-- "Parts are parted by one space": a space and a part
abbrev pub one_part : Kind → List ℕ → ℕ → Option ℕ
one_part k s at = cond (eqb (byte_at s at) 32) (part_end k s (at + 1)) None

-- the places after the word and after each part, if all of them are there
pub data Places : Type 0 where
  are : List ℕ → Places
  none : Places

abbrev pub ◌onTo◌ : List ℕ → Places → Places
◌onTo◌ xs (are es) = are (xs ++ es)
◌onTo◌ xs none = none

infixr 20 ◌onTo◌
-- `)` ends the line
abbrev pub closes_line : List ℕ → ℕ → Bool
closes_line s at = eqb (byte_at s at) 41 && leb (length s) (at + 1)

-- the parts that stand from a place on, and `)`
unfoldable pub parts_of : List Kind → List ℕ → ℕ → Places
parts_of [] s at = cond (closes_line s at) (are (at ∷ [])) none
parts_of (k ∷ ks) s at = one_part k s at and_then (none, λ e. (at ∷ []) onTo parts_of ks s e)

-- place i is that after part i, place 0 that after the word
abbrev pub place_in : List ℕ → ℕ → ℕ
place_in es i = get_or es i 0

-- the bytes of the part that follows a space at a, up to b
abbrev pub part_bytes : List ℕ → ℕ → ℕ → List ℕ
part_bytes line a b = take (b - (a + 1)) (drop (a + 1) line)

-- What is held of a part of each kind: the bytes of a label or a path, a tree's nodes, whether a sign accepts, the bit of a right, the number of a day
abbrev pub Held : Kind → Type 0
Held Label = List ℕ
Held Path = List ℕ
Held Tree = List Node
Held Sign = Bool
Held Right = ℕ
Held Day = ℕ

abbrev pub AllHeld : List Kind → Type 0
AllHeld [] = Unit {0}
AllHeld (k ∷ ks) = Held k × AllHeld ks

-- A form that was read: its word, and what is held of its parts
pub record ReadForm : Type 0 where
  pub word : Word
  pub parts : AllHeld (shape_of word)

-- refusal 2
abbrev pub no_form : ReadForm
no_form = record { word = Other; parts = tt }

-- of the part of kind k that follows a space at a, up to b; of the parts of a shape that stand after place i
abbrev pub held_at : (k : Kind) → List ℕ → ℕ → ℕ → Held k
held_at Label s a b = part_bytes s a b
held_at Path s a b = part_bytes s a b
held_at Tree s a b = tree_nodes s (a + 1)
held_at Sign s a b = eqb (sign_at s (a + 1)) 1
held_at Right s a b = right_at s (a + 1)
held_at Day s a b = day_at s (a + 1)

abbrev pub all_held_at : (ks : List Kind) → List ℕ → (ℕ → ℕ) → ℕ → AllHeld ks
all_held_at [] s e i = tt
all_held_at (k ∷ ks) s e i = (held_at k s (e i) (e (suc i)), all_held_at ks s e (suc i))

-- the form of a word whose parts stand after the places e
abbrev pub form_at : Word → List ℕ → (ℕ → ℕ) → ReadForm
form_at w s e = record { word = w; parts = all_held_at (shape_of w) s e 0 }

abbrev pub form_by : Word → List ℕ → Places → ReadForm
form_by w s (are es) = form_at w s (place_in es)
form_by w s none = no_form

-- `(`, a word, and the parts of its shape: the places after them
unfoldable pub ends_in : List ℕ → Places
ends_in s = cond (eqb (byte_at s 0) 40) (run_end label_byte s 1 and_then (none, λ e. parts_of (shape_of (word_at s 1)) s e)) none

-- What a line says
unfoldable pub read_form : List ℕ → ReadForm
read_form s = form_by (word_at s 1) s (ends_in s)

-- the nodes of a form's tree; none if it holds no tree
abbrev pub nodes_or : (k : Kind) → Held k → List Node → List Node
nodes_or Label l ns = ns
nodes_or Path p ns = ns
nodes_or Tree t ns = t
nodes_or Sign b ns = ns
nodes_or Right r ns = ns
nodes_or Day d ns = ns

abbrev pub nodes_held : (ks : List Kind) → AllHeld ks → List Node
nodes_held [] hs = []
nodes_held (k ∷ ks) (h, hs) = nodes_or k h (nodes_held ks hs)

abbrev pub tree_in : ReadForm → List Node
tree_in f = nodes_held (shape_of f.word) f.parts
