-- What is read as a document was written as one. Assumes nothing.
use Prim.Native.Nat.{ℕ, suc, ◌-◌}
use mathlib.Core.Path.{◌≡◌, refl, ap, ap₂, ◌∙◌}
use mathlib.Core.List.{List, [], ◌∷◌, ◌++◌, append_assoc, append-nil}
use mathlib.Core.Bool.{true, ◌&&◌}
use native.Mathlib.Omega.{arith}
use lib.Dec.{eqb}
use lib.ListN.{length}
use borrow.Author.Tests.{eqb-true}
use Rattle.rights.specs.Nodes.{Node}
use Rattle.rights.specs.Tree.{Tree, tree, none, more, nodes_of, nodes_in}
use Rattle.rights.proofs.PathTexts.{and_left, and_right}
use Rattle.xml.specs.Document.{Text, blank, said, empty as bare, full, Content, ends, goes, Document, write_element, write_content, write_document}
use Rattle.xml.specs.Document.{with_text, element_tree, content_trees, document_tree, Blanks, GoodName, GoodText, GoodElement, GoodContent, GoodDocument, DocumentOf}
use Rattle.xml.specs.How.Tokens.{Token, opens, closes, empty, text, Tokens, got, bad, tokens, nested_in, nested, same_bytes, matched_in, token_nodes, good_tokens, nodes_of_tokens, is_document, document_nodes}
use Rattle.xml.proofs.LexLaws.{write_tag}
use Rattle.xml.proofs.TokenLaws.{Piece, piece, write_pieces, text_tokens, tokens_of, GoodPieces, pieces_there}
use Rattle.xml.proofs.DocumentComplete.{text_nested, text_matched, text_nodes, with_nodes}

-- What is still to stand in each open element, the innermost first, where these are their names
abbrev Contents : List (List ℕ) → Type 0
Contents [] = Unit {0}
Contents (n ∷ ns) = Content × Contents ns

-- as it is written, each with its closing tag
abbrev write_open : (ns : List (List ℕ)) → Contents ns → List ℕ → List ℕ
write_open [] cs z = z
write_open (n ∷ ns) cs z = write_content cs.0 ++ write_tag (closes n) (write_open ns cs.1 z)

abbrev GoodOpen : (ns : List (List ℕ)) → Contents ns → Type 0
GoodOpen [] cs = Unit {0}
GoodOpen (n ∷ ns) cs = GoodContent cs.0 × GoodOpen ns cs.1

abbrev nodes_open : (ns : List (List ℕ)) → Contents ns → List Node
nodes_open [] cs = []
nodes_open (n ∷ ns) cs = nodes_in (suc (length ns)) (content_trees cs.0) ++ nodes_open ns cs.1

record Filled (ns : List (List ℕ)) (ps : List Piece) (z : List ℕ) : Type 0 where
  contents : Contents ns
  good : GoodOpen ns contents
  writing : write_pieces ps z ≡ write_open ns contents z
  nodes : token_nodes (length ns) (tokens_of ps) ≡ nodes_open ns contents

same_bytes_lem : (m n : List ℕ) → same_bytes m n ≡ true → m ≡ n
unfolding same_bytes
same_bytes_lem [] [] e = refl
same_bytes_lem [] (y ∷ n) e = absurd (let z : ◌≡◌ {A = ℕ} 0 1 = cc in omega arith)
same_bytes_lem (x ∷ m) [] e = absurd (let z : ◌≡◌ {A = ℕ} 0 1 = cc in omega arith)
same_bytes_lem (x ∷ m) (y ∷ n) e = ap₂ ◌∷◌ (eqb-true x y (and_left (eqb x y) (same_bytes m n) e)) (same_bytes_lem m n (and_right (eqb x y) (same_bytes m n) e))

-- a further piece
module _ (x : Text) (ps : List Piece) (z : List ℕ) (g : GoodText x) where
  fill_closes : (m n : List ℕ) (ns : List (List ℕ)) → m ≡ n → Filled ns ps z → Filled (m ∷ ns) (piece x (closes n) ∷ ps) z
  unfolding write_content GoodContent content_trees token_nodes
  fill_closes m n ns e f = record {
    contents = (ends x, f.contents);
    good = (g, f.good);
    writing = rw (e, f.writing);
    nodes = let k : suc (length ns) - 1 ≡ length ns = omega arith in text_nodes x (suc (length ns)) (closes n ∷ tokens_of ps)
        ∙ ap (λ (v : List Node). nodes_in (suc (length ns)) (with_text x none) ++ v) (ap (λ (i : ℕ). token_nodes i (tokens_of ps)) k ∙ f.nodes);
  }

  fill_empty : (m n : List ℕ) (ns : List (List ℕ)) → GoodName n → Filled (m ∷ ns) ps z → Filled (m ∷ ns) (piece x (empty n) ∷ ps) z
  unfolding write_content write_element GoodContent GoodElement content_trees element_tree token_nodes nodes_in nodes_of
  fill_empty m n ns h f = record {
    contents = (goes x (bare n) f.contents.0, f.contents.1);
    good = ((g, h, f.good.0), f.good.1);
    writing = rw f.writing (simp append_assoc);
    nodes = text_nodes x (suc (length ns)) (empty n ∷ tokens_of ps) ∙ rw (f.nodes, with_nodes x (suc (length ns)) (more (tree n none) (content_trees f.contents.0))) (simp append_assoc);
  }

  fill_opens : (m n : List ℕ) (ns : List (List ℕ)) → GoodName n → Filled (n ∷ m ∷ ns) ps z → Filled (m ∷ ns) (piece x (opens n) ∷ ps) z
  unfolding write_content write_element GoodContent GoodElement content_trees element_tree token_nodes nodes_in nodes_of
  fill_opens m n ns h f = record {
    contents = (goes x (full n f.contents.0) f.contents.1.0, f.contents.1.1);
    good = ((g, (h, f.good.0), f.good.1.0), f.good.1.1);
    writing = rw f.writing (simp append_assoc);
    nodes = text_nodes x (suc (length ns)) (opens n ∷ tokens_of ps) ∙ rw (f.nodes, with_nodes x (suc (length ns)) (more (tree n (content_trees f.contents.0)) (content_trees f.contents.1.0))) (simp append_assoc);
  }

none_open : {C : Type 0} (x : Text) (y : Token) (xs : List Token) → nested_in 0 (text_tokens x (y ∷ xs)) ≡ true → C
unfolding nested_in
none_open (blank b) y xs e = absurd (let z : ◌≡◌ {A = ℕ} 0 1 = cc in omega arith)
none_open (said b l c) y xs e = absurd (let z : ◌≡◌ {A = ℕ} 0 1 = cc in omega arith)

fill : (ps : List Piece) (ns : List (List ℕ)) (z : List ℕ) → GoodPieces ps → nested_in (length ns) (tokens_of ps) ≡ true → matched_in ns (tokens_of ps) ≡ true → Filled ns ps z
unfolding nested_in matched_in token_nodes
fill [] [] z g a b = record { contents = tt; good = tt; writing = refl; nodes = refl }
fill [] (m ∷ ns) z g a b = absurd (omega (arith, eqb-true (suc (length ns)) 0 a))
fill (piece x t ∷ ps) [] z g a b = none_open x t (tokens_of ps) a
fill (piece x (closes n) ∷ ps) (m ∷ ns) z g a b =
    let u = rw (text_nested x (length ns) (closes n ∷ tokens_of ps)) at a in
    let v = rw (text_matched x (m ∷ ns) (closes n ∷ tokens_of ps)) at b in
    fill_closes x ps z g.0 m n ns (same_bytes_lem m n (and_left (same_bytes m n) _ v)) (fill ps ns z g.2 u (and_right (same_bytes m n) _ v))
fill (piece x (empty n) ∷ ps) (m ∷ ns) z g a b =
    let u = rw (text_nested x (length ns) (empty n ∷ tokens_of ps)) at a in
    let v = rw (text_matched x (m ∷ ns) (empty n ∷ tokens_of ps)) at b in
    fill_empty x ps z g.0 m n ns g.1 (fill ps (m ∷ ns) z g.2 u v)
fill (piece x (opens n) ∷ ps) (m ∷ ns) z g a b =
    let u = rw (text_nested x (length ns) (opens n ∷ tokens_of ps)) at a in
    let v = rw (text_matched x (m ∷ ns) (opens n ∷ tokens_of ps)) at b in
    fill_opens x ps z g.0 m n ns g.1 (fill ps (n ∷ m ∷ ns) z g.2 u v)
fill (piece x (text l) ∷ ps) (m ∷ ns) z g a b = absurd g.1

-- The whole document

pub record DocumentRead (s : List ℕ) (xs : List Token) : Type 0 where
  pub is : Document
  pub good : GoodDocument is
  pub writing : s ≡ write_document is
  pub nodes : token_nodes 0 xs ≡ nodes_of 0 (document_tree is)

root_filled : (s : List ℕ) (ps : List Piece) (z : List ℕ) → GoodPieces ps → Blanks z → s ≡ write_pieces ps z → nested (tokens_of ps) ≡ true → matched_in [] (tokens_of ps) ≡ true → DocumentRead s (tokens_of ps)
unfolding nested matched_in token_nodes nodes_of nodes_in element_tree content_trees write_element GoodElement
root_filled s [] z g h w a b = absurd (let i : ◌≡◌ {A = ℕ} 0 1 = cc in omega arith)
root_filled s (piece (said d l c) t ∷ ps) z g h w a b = absurd (let i : ◌≡◌ {A = ℕ} 0 1 = cc in omega arith)
root_filled s (piece (blank d) (closes n) ∷ ps) z g h w a b = absurd (let i : ◌≡◌ {A = ℕ} 0 1 = cc in omega arith)
root_filled s (piece (blank d) (text l) ∷ ps) z g h w a b = absurd g.1
root_filled s (piece (blank d) (empty n) ∷ ps) z g h w a b =
    let f = fill ps [] z g.2 a b in
    record {
      is = record { before = d; root = bare n; after = z };
      good = record { before = g.0; root = g.1; after = h };
      writing = w ∙ rw f.writing (simp append_assoc);
      nodes = rw f.nodes;
    }
root_filled s (piece (blank d) (opens n) ∷ ps) z g h w a b =
    let f = fill ps (n ∷ []) z g.2 a b in
    record {
      is = record { before = d; root = full n f.contents.0; after = z };
      good = record { before = g.0; root = (g.1, f.good.0); after = h };
      writing = w ∙ rw f.writing (simp append_assoc);
      nodes = rw (f.nodes, append-nil (nodes_in 1 (content_trees f.contents.0)));
    }

tokens_document : (s : List ℕ) (xs : List Token) → tokens s ≡ got xs → nested xs && matched_in [] xs ≡ true → DocumentRead s xs
tokens_document s xs e t =
    let p = pieces_there xs s e in
    let q = p.told in
    let a : nested (tokens_of p.pieces) ≡ true = rw (← q) (and_left (nested xs) (matched_in [] xs) t) in
    let b : matched_in [] (tokens_of p.pieces) ≡ true = rw (← q) (and_right (nested xs) (matched_in [] xs) t) in
    rw q (root_filled s p.pieces p.after p.good p.blank p.writing a b)

pub read_document : (s : List ℕ) → is_document s ≡ true → (u : Tree) × DocumentOf s u × (document_nodes s ≡ nodes_of 0 u)
unfolding is_document document_nodes
read_document s h = go (tokens s) refl h
  where
    go : (y : Tokens) → tokens s ≡ y → good_tokens y ≡ true → (u : Tree) × DocumentOf s u × (nodes_of_tokens (tokens s) ≡ nodes_of 0 u)
    go (got xs) e t = let r = tokens_document s xs e t in (document_tree r.is, (r.is, r.good, r.writing, refl), rw e r.nodes)
    go bad e t = absurd (let z : ◌≡◌ {A = ℕ} 0 1 = cc in omega arith)
