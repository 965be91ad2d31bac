-- The solver's file (document 02, card 2): which bytes are a document of the narrow kind, and which tree it is. A document is given as it is written.
-- Nothing here speaks of how one is read.
use Rattle.std.specs.Prelude.{ℕ, ◌≡◌, Bool, true, not, ◌||◌, List, ◌++◌, eqb}
use Rattle.rights.specs.Bytes.{bytes, byte_at, digit_byte, all}
use Rattle.rights.specs.Tree.{Tree, tree, Trees, none, more}
use Rattle.forms.specs.TreeText.{GoodLabel}

-- "spaces, tabs and line ends": the bytes 32, 9, 13 and 10
unfoldable pub blank_byte : ℕ → Bool
blank_byte b = eqb b 32 || (eqb b 9 || (eqb b 13 || eqb b 10))

-- "A name is a label that does not begin with a digit, hyphen or full stop."
unfoldable pub name_start : ℕ → Bool
name_start b = not (digit_byte b || (eqb b 45 || eqb b 46))

-- "Text between tags": blanks alone, or a label with blanks around it
pub data Text : Type 0 where
  blank : List ℕ → Text
  said : List ℕ → List ℕ → List ℕ → Text

mutual
  -- "`<a/>` and `<a></a>` mean the same": an empty tag, or what stands between two tags
  pub data Element : Type 0 where
    empty : List ℕ → Element
    full : List ℕ → Content → Element

  -- the last text, or a text, an element and what follows them
  pub data Content : Type 0 where
    ends : Text → Content
    goes : Text → Element → Content → Content

-- "There is one root element; spaces, tabs and line ends may stand around it."
pub record Document : Type 0 where
  pub before : List ℕ
  pub root : Element
  pub after : List ℕ

-- As it is written: "no space stands inside a tag".
abbrev pub write_text : Text → List ℕ
write_text (blank b) = b
write_text (said b l c) = b ++ (l ++ c)

unfoldable mutual
  pub write_element : Element → List ℕ
  write_element (empty n) = bytes "<" ++ (n ++ bytes "/>")
  write_element (full n c) = bytes "<" ++ (n ++ (bytes ">" ++ (write_content c ++ (bytes "</" ++ (n ++ bytes ">")))))

  pub write_content : Content → List ℕ
  write_content (ends x) = write_text x
  write_content (goes x e c) = write_text x ++ (write_element e ++ write_content c)

abbrev pub write_document : Document → List ℕ
write_document d = d.before ++ (write_element d.root ++ d.after)

-- The tree: "Text between tags is trimmed .. if anything is left it must be a label and becomes a leaf."
abbrev pub with_text : Text → Trees → Trees
with_text (blank b) ts = ts
with_text (said b l c) ts = more (tree l none) ts

unfoldable mutual
  pub element_tree : Element → Tree
  element_tree (empty n) = tree n none
  element_tree (full n c) = tree n (content_trees c)

  pub content_trees : Content → Trees
  content_trees (ends x) = with_text x none
  content_trees (goes x e c) = with_text x (more (element_tree e) (content_trees c))

abbrev pub document_tree : Document → Tree
document_tree d = element_tree d.root

-- What may be written
abbrev pub Blanks : List ℕ → Type 0
Blanks b = all blank_byte b ≡ true

abbrev pub GoodName : List ℕ → Type 0
GoodName n = GoodLabel n × (name_start (byte_at n 0) ≡ true)

abbrev pub GoodText : Text → Type 0
GoodText (blank b) = Blanks b
GoodText (said b l c) = Blanks b × GoodLabel l × Blanks c

unfoldable mutual
  pub GoodElement : Element → Type 0
  GoodElement (empty n) = GoodName n
  GoodElement (full n c) = GoodName n × GoodContent c

  pub GoodContent : Content → Type 0
  GoodContent (ends x) = GoodText x
  GoodContent (goes x e c) = GoodText x × GoodElement e × GoodContent c

pub record GoodDocument (d : Document) : Type 0 where
  pub before : Blanks d.before
  pub root : GoodElement d.root
  pub after : Blanks d.after

-- the bytes are a document of this tree
abbrev pub DocumentOf : List ℕ → Tree → Type 0
DocumentOf s u = (d : Document) × GoodDocument d × (s ≡ write_document d) × (u ≡ document_tree d)
