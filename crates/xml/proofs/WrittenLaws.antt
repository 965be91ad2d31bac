-- Which trees have a document. Assumes nothing.
use Prim.Native.Nat.{ℕ}
use mathlib.Core.Path.{◌≡◌, refl, ap}
use mathlib.Core.List.{List, []}
use mathlib.Core.Logic.{inl, inr, ◌↔◌}
use Rattle.rights.specs.Bytes.{all}
use Rattle.rights.specs.Tree.{Tree, tree, Trees, none, more}
use Rattle.xml.specs.Document.{blank, said, Element, empty, full, Content, ends, goes, Document}
use Rattle.xml.specs.Document.{Blanks, write_document, element_tree, content_trees, GoodElement, GoodContent, DocumentOf}
use Rattle.xml.specs.Written.{Leaf, Named, Contents, AfterText}

-- the tree of a document

mutual
  unfolding element_tree content_trees GoodElement GoodContent Named Contents AfterText

  element_named : (e : Element) → GoodElement e → Named (element_tree e)
  element_named (empty n) g = (g, tt)
  element_named (full n c) g = (g.0, content_contents c g.1)

  content_contents : (c : Content) → GoodContent c → Contents (content_trees c)
  content_contents (ends (blank b)) g = tt
  content_contents (ends (said b l k)) g = inr (g.1, tt)
  content_contents (goes (blank b) e c) g = inl (element_named e g.1, content_contents c g.2)
  content_contents (goes (said b l k) e c) g = inr (g.0.1, (element_named e g.1, content_contents c g.2))

-- a document of the tree, without a blank

no_blanks : Blanks []
unfolding all
no_blanks = refl

more_alike : {u v : Tree} {us vs : Trees} → u ≡ v → us ≡ vs → more u us ≡ more v vs
more_alike q r = rw (q, r)

abbrev ElementOf : Tree → Type 0
ElementOf u = (e : Element) × GoodElement e × (u ≡ element_tree e)

abbrev ContentOf : Trees → Type 0
ContentOf us = (c : Content) × GoodContent c × (us ≡ content_trees c)

mutual
  unfolding element_tree content_trees GoodElement GoodContent Named Contents AfterText

  element_of : (u : Tree) → Named u → ElementOf u
  element_of (tree l us) h = let (c, g, q) = content_of us h.1 in (full l c, (h.0, g), ap (tree l) q)

  content_of : (us : Trees) → Contents us → ContentOf us
  content_of none h = (ends (blank []), no_blanks, refl)
  content_of (more u us) (inl h) =
      let (e, g, q) = element_of u h.0 in let (c, i, r) = content_of us h.1 in
      (goes (blank []) e c, (no_blanks, g, i), more_alike q r)
  content_of (more (tree l none) us) (inr h) = text_of l us h
  content_of (more (tree l (more v vs)) us) (inr h) = absurd h.0

  text_of : (l : List ℕ) (us : Trees) → Leaf (tree l none) × AfterText us → ContentOf (more (tree l none) us)
  text_of l none h = (ends (said [] l []), (no_blanks, h.0, no_blanks), refl)
  text_of l (more u us) h =
      let (e, g, q) = element_of u h.1.0 in let (c, i, r) = content_of us h.1.1 in
      (goes (said [] l []) e c, ((no_blanks, h.0, no_blanks), g, i), ap (more (tree l none)) (more_alike q r))

-- Exactly these trees have a document.
pub tree_documents : (u : Tree) → ((s : List ℕ) × DocumentOf s u) ↔ Named u
tree_documents u = (
  λ (s, (d, g, e, q)). rw q (element_named d.root g.root),
  λ h.
      let (e, g, q) = element_of u h in
      let d : Document = record { before = []; root = e; after = [] } in
      (write_document d, (d, record { before = no_blanks; root = g; after = no_blanks }, refl, q)),
)
