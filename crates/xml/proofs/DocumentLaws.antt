-- What a reader of documents may rely on: which bytes are a document is decided, a document is of one tree, and the tree's labels are good. Assumes nothing.
use Prim.Native.Nat.{ℕ}
use mathlib.Core.Path.{◌≡◌, refl}
use mathlib.Core.List.{List, [], ◌∷◌}
use mathlib.Core.Logic.{◌⊎◌, inl, inr}
use native.Mathlib.Omega.{arith}
use Rattle.rights.specs.Tree.{Tree, tree, Trees, none, more}
use Rattle.rights.proofs.ListLaws.{by_case}
use Rattle.forms.specs.TreeText.{GoodTree, GoodTrees}
use Rattle.xml.specs.Document.{Text, blank, said, Element, empty as bare, full, Content, ends, goes}
use Rattle.xml.specs.Document.{with_text, element_tree, content_trees, GoodName, GoodText, GoodElement, GoodContent, DocumentOf}
use Rattle.xml.specs.How.Tokens.{Token, opens, closes, empty, text, got, tokens, is_document}
use Rattle.xml.proofs.TokenLaws.{Piece, text_tokens, tokens_of}
use Rattle.xml.proofs.DocumentComplete.{pieces_of, pieces_in, document_tokens, document_read}
use Rattle.xml.proofs.DocumentSound.{read_document}

-- A document is of one tree: its tokens make one

-- the trees that tokens make in each open element, the innermost first
leaf : List ℕ → List Trees → List Trees
leaf l [] = []
leaf l (ts ∷ r) = more (tree l none) ts ∷ r

branch : List ℕ → List Trees → List Trees
branch n [] = []
branch n (us ∷ []) = []
branch n (us ∷ ts ∷ r) = more (tree n us) ts ∷ r

unfoldable trees_of : List Token → List Trees
trees_of [] = none ∷ []
trees_of (opens n ∷ xs) = branch n (trees_of xs)
trees_of (closes n ∷ xs) = none ∷ trees_of xs
trees_of (empty n ∷ xs) = leaf n (trees_of xs)
trees_of (text l ∷ xs) = leaf l (trees_of xs)

text_trees : (x : Text) (xs : List Token) (ts : Trees) (r : List Trees) → trees_of xs ≡ ts ∷ r → trees_of (text_tokens x xs) ≡ with_text x ts ∷ r
unfolding trees_of leaf
text_trees (blank b) xs ts r e = e
text_trees (said b l c) xs ts r e = rw e

mutual
  unfolding pieces_of pieces_in trees_of leaf branch element_tree content_trees

  element_trees : (e : Element) (x : Text) (ps : List Piece) (ts : Trees) (r : List Trees) → trees_of (tokens_of ps) ≡ ts ∷ r → trees_of (tokens_of (pieces_of x e ps)) ≡ with_text x (more (element_tree e) ts) ∷ r
  element_trees (bare n) x ps ts r q = text_trees x (empty n ∷ tokens_of ps) (more (tree n none) ts) r (rw q)
  element_trees (full n c) x ps ts r q = text_trees x (opens n ∷ tokens_of (pieces_in c n ps)) (more (tree n (content_trees c)) ts) r (rw (content_trees_lem c n ps (ts ∷ r) q))

  content_trees_lem : (c : Content) (n : List ℕ) (ps : List Piece) (r : List Trees) → trees_of (tokens_of ps) ≡ r → trees_of (tokens_of (pieces_in c n ps)) ≡ content_trees c ∷ r
  content_trees_lem (ends x) n ps r q = text_trees x (closes n ∷ tokens_of ps) none r (rw q)
  content_trees_lem (goes x e c) n ps r q = element_trees e x (pieces_in c n ps) (content_trees c) r (content_trees_lem c n ps r q)

document_trees : (s : List ℕ) (u : Tree) → DocumentOf s u → (xs : List Token) × (tokens s ≡ got xs) × (trees_of xs ≡ more u none ∷ [])
unfolding trees_of
document_trees s u (d, g, e, q) =
    let b : Text = blank d.before in
    (tokens_of (pieces_of b d.root []), rw e (document_tokens d g), rw q (element_trees d.root b [] none [] refl))

pub one_tree : (s : List ℕ) (u v : Tree) → DocumentOf s u → DocumentOf s v → u ≡ v
one_tree s u v a b =
    let x = document_trees s u a in
    let y = document_trees s v b in
    let i : x.0 ≡ y.0 = cc in
    let e = x.2 in
    let f = y.2 in
    cc

-- The labels of its tree are good, and the root's is a name

with_good : (x : Text) (ts : Trees) → GoodText x → GoodTrees ts → GoodTrees (with_text x ts)
unfolding GoodTrees GoodTree
with_good (blank b) ts g h = h
with_good (said b l c) ts g h = ((g.1, tt), h)

mutual
  unfolding element_tree content_trees GoodElement GoodContent GoodTrees GoodTree

  element_tree_good : (e : Element) → GoodElement e → GoodTree (element_tree e)
  element_tree_good (bare n) g = (g.0, tt)
  element_tree_good (full n c) g = (g.0.0, content_trees_good c g.1)

  content_trees_good : (c : Content) → GoodContent c → GoodTrees (content_trees c)
  content_trees_good (ends x) g = with_good x none (g) tt
  content_trees_good (goes x e c) g = with_good x (more (element_tree e) (content_trees c)) g.0 (element_tree_good e g.1, content_trees_good c g.2)

pub document_good : (s : List ℕ) (u : Tree) → DocumentOf s u → GoodTree u
document_good s u (d, g, e, q) = rw q (element_tree_good d.root g.root)

root_named : (e : Element) (l : List ℕ) (ts : Trees) → GoodElement e → tree l ts ≡ element_tree e → GoodName l
unfolding element_tree GoodElement
root_named (bare n) l ts g q = let i : l ≡ n = cc in rw i g
root_named (full n c) l ts g q = let i : l ≡ n = cc in rw i g.0

pub root_name : (s l : List ℕ) (ts : Trees) → DocumentOf s (tree l ts) → GoodName l
root_name s l ts (d, g, e, q) = root_named d.root l ts g.root q

-- Every list of bytes is a document of a tree, or of none

pub documents : (s : List ℕ) → ((u : Tree) × DocumentOf s u) ⊎ ((u : Tree) → DocumentOf s u → ⊥)
documents s =
    by_case (is_document s)
    (λ e. let r = read_document s e in inl (r.0, r.1))
    (λ e. inr (λ u d. let q = (document_read s u d).0 in let z : ◌≡◌ {A = ℕ} 0 1 = cc in omega arith))
