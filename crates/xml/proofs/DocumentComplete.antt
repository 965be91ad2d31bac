-- What is written as a document is read as one, with the nodes of its tree. Assumes nothing.
use Prim.Native.Nat.{ℕ, suc, ◌-◌}
use mathlib.Core.Path.{◌≡◌, refl, ap, ◌∙◌}
use mathlib.Core.List.{List, [], ◌∷◌, ◌++◌, append_assoc, append-nil}
use mathlib.Core.Bool.{true}
use native.Mathlib.Omega.{arith}
use borrow.Author.Tests.{eq-eqb}
use Rattle.rights.specs.Tree.{Tree, Trees, none, more, nodes_of, nodes_in}
use Rattle.xml.specs.Document.{Text, blank, said, Element, empty as bare, full, Content, ends, goes, Document, write_text, write_element, write_content, write_document}
use Rattle.xml.specs.Document.{with_text, element_tree, content_trees, GoodName, GoodText, GoodElement, GoodContent, GoodDocument, DocumentOf}
use Rattle.xml.specs.How.Tokens.{Token, opens, closes, empty, got, tokens, nested_in, nested, same_bytes, matched_in, token_nodes, is_document, document_nodes}
use Rattle.xml.proofs.TokenLaws.{Piece, piece, write_pieces, text_tokens, tokens_of, GoodPieces, tokens_pieces}

-- the pieces of an element after a text, and of what stands between two tags of this name, before further ones
unfoldable mutual
  pub pieces_of : Text → Element → List Piece → List Piece
  pieces_of x (bare n) ps = piece x (empty n) ∷ ps
  pieces_of x (full n c) ps = piece x (opens n) ∷ pieces_in c n ps

  pub pieces_in : Content → List ℕ → List Piece → List Piece
  pieces_in (ends x) n ps = piece x (closes n) ∷ ps
  pieces_in (goes x e c) n ps = pieces_of x e (pieces_in c n ps)

mutual
  unfolding pieces_of pieces_in write_element write_content

  element_written : (e : Element) (x : Text) (ps : List Piece) (z : List ℕ) → write_pieces (pieces_of x e ps) z ≡ write_text x ++ (write_element e ++ write_pieces ps z)
  element_written (bare n) x ps z = simp append_assoc
  element_written (full n c) x ps z = rw (content_written c n ps z) (simp append_assoc)

  content_written : (c : Content) (n : List ℕ) (ps : List Piece) (z : List ℕ) → write_pieces (pieces_in c n ps) z ≡ write_content c ++ (60 ∷ 47 ∷ (n ++ (62 ∷ write_pieces ps z)))
  content_written (ends x) n ps z = refl
  content_written (goes x e c) n ps z = rw (element_written e x (pieces_in c n ps) z, content_written c n ps z) (simp append_assoc)

mutual
  unfolding pieces_of pieces_in GoodElement GoodContent

  element_good : (e : Element) (x : Text) (ps : List Piece) → GoodText x → GoodElement e → GoodPieces ps → GoodPieces (pieces_of x e ps)
  element_good (bare n) x ps gx g gp = (gx, g, gp)
  element_good (full n c) x ps gx g gp = (gx, g.0, content_good c n ps g.1 g.0 gp)

  content_good : (c : Content) (n : List ℕ) (ps : List Piece) → GoodContent c → GoodName n → GoodPieces ps → GoodPieces (pieces_in c n ps)
  content_good (ends x) n ps g gn gp = (g, gn.0, gp)
  content_good (goes x e c) n ps g gn gp = element_good e x (pieces_in c n ps) g.0 g.1 (content_good c n ps g.2 gn gp)

-- The tags nest

pub text_nested : (x : Text) (d : ℕ) (xs : List Token) → nested_in (suc d) (text_tokens x xs) ≡ nested_in (suc d) xs
unfolding nested_in
text_nested (blank b) d xs = refl
text_nested (said b l c) d xs = refl

mutual
  unfolding pieces_of pieces_in nested_in

  element_nested : (e : Element) (x : Text) (ps : List Piece) (d : ℕ) → nested_in (suc d) (tokens_of (pieces_of x e ps)) ≡ nested_in (suc d) (tokens_of ps)
  element_nested (bare n) x ps d = text_nested x d (empty n ∷ tokens_of ps)
  element_nested (full n c) x ps d = text_nested x d (opens n ∷ tokens_of (pieces_in c n ps)) ∙ content_nested c n ps (suc d)

  content_nested : (c : Content) (n : List ℕ) (ps : List Piece) (d : ℕ) → nested_in (suc d) (tokens_of (pieces_in c n ps)) ≡ nested_in d (tokens_of ps)
  content_nested (ends x) n ps d = text_nested x d (closes n ∷ tokens_of ps)
  content_nested (goes x e c) n ps d = element_nested e x (pieces_in c n ps) d ∙ content_nested c n ps d

-- The closing tags match

same_self : (n : List ℕ) → same_bytes n n ≡ true
unfolding same_bytes
same_self [] = refl
same_self (b ∷ n) = rw (eq-eqb b b refl, same_self n)

pub text_matched : (x : Text) (ns : List (List ℕ)) (xs : List Token) → matched_in ns (text_tokens x xs) ≡ matched_in ns xs
unfolding matched_in
text_matched (blank b) ns xs = refl
text_matched (said b l c) ns xs = refl

mutual
  unfolding pieces_of pieces_in matched_in

  element_matched : (e : Element) (x : Text) (ps : List Piece) (ns : List (List ℕ)) → matched_in ns (tokens_of (pieces_of x e ps)) ≡ matched_in ns (tokens_of ps)
  element_matched (bare n) x ps ns = text_matched x ns (empty n ∷ tokens_of ps)
  element_matched (full n c) x ps ns = text_matched x ns (opens n ∷ tokens_of (pieces_in c n ps)) ∙ content_matched c n ps ns

  content_matched : (c : Content) (n : List ℕ) (ps : List Piece) (ns : List (List ℕ)) → matched_in (n ∷ ns) (tokens_of (pieces_in c n ps)) ≡ matched_in ns (tokens_of ps)
  content_matched (ends x) n ps ns = text_matched x (n ∷ ns) (closes n ∷ tokens_of ps) ∙ rw (same_self n)
  content_matched (goes x e c) n ps ns = element_matched e x (pieces_in c n ps) (n ∷ ns) ∙ content_matched c n ps ns

-- The nodes are the tree's

pub text_nodes : (x : Text) (d : ℕ) (xs : List Token) → token_nodes d (text_tokens x xs) ≡ nodes_in d (with_text x none) ++ token_nodes d xs
unfolding token_nodes nodes_in nodes_of
text_nodes (blank b) d xs = refl
text_nodes (said b l c) d xs = refl

pub with_nodes : (x : Text) (d : ℕ) (ts : Trees) → nodes_in d (with_text x ts) ≡ nodes_in d (with_text x none) ++ nodes_in d ts
unfolding nodes_in nodes_of
with_nodes (blank b) d ts = refl
with_nodes (said b l c) d ts = refl

mutual
  unfolding pieces_of pieces_in token_nodes nodes_in nodes_of element_tree content_trees

  element_nodes : (e : Element) (x : Text) (ps : List Piece) (d : ℕ) → token_nodes d (tokens_of (pieces_of x e ps)) ≡ nodes_in d (with_text x none) ++ (nodes_of d (element_tree e) ++ token_nodes d (tokens_of ps))
  element_nodes (bare n) x ps d = text_nodes x d (empty n ∷ tokens_of ps)
  element_nodes (full n c) x ps d = text_nodes x d (opens n ∷ tokens_of (pieces_in c n ps)) ∙ rw (content_nodes c n ps d)

  content_nodes : (c : Content) (n : List ℕ) (ps : List Piece) (d : ℕ) → token_nodes (suc d) (tokens_of (pieces_in c n ps)) ≡ nodes_in (suc d) (content_trees c) ++ token_nodes d (tokens_of ps)
  content_nodes (ends x) n ps d = let z : suc d - 1 ≡ d = omega arith in text_nodes x (suc d) (closes n ∷ tokens_of ps) ∙ ap (λ (k : ℕ). nodes_in (suc d) (with_text x none) ++ token_nodes k (tokens_of ps)) z
  content_nodes (goes x e c) n ps d =
      element_nodes e x (pieces_in c n ps) (suc d) ∙ rw (content_nodes c n ps d, with_nodes x (suc d) (more (element_tree e) (content_trees c))) (simp append_assoc)

-- The whole document

root_nested : (b : List ℕ) (e : Element) → nested (tokens_of (pieces_of (blank b) e [])) ≡ true
unfolding pieces_of nested nested_in
root_nested b (bare n) = refl
root_nested b (full n c) = content_nested c n [] 0

pub document_tokens : (d : Document) → GoodDocument d → tokens (write_document d) ≡ got (tokens_of (pieces_of (blank d.before) d.root []))
document_tokens d g =
    let b : Text = blank d.before in
    rw (← (element_written d.root b [] d.after)) (tokens_pieces (pieces_of b d.root []) d.after (element_good d.root b [] g.before g.root tt) g.after)

pub document_read : (s : List ℕ) (u : Tree) → DocumentOf s u → (is_document s ≡ true) × (document_nodes s ≡ nodes_of 0 u)
unfolding is_document document_nodes matched_in token_nodes nodes_in
document_read s u (d, g, e, q) =
    let b : Text = blank d.before in
    let t = document_tokens d g in (
      rw (e, t, root_nested d.before d.root) (element_matched d.root b [] []),
      rw (e, t, q) (element_nodes d.root b [] 0 ∙ append-nil (nodes_of 0 (element_tree d.root))),
    )
