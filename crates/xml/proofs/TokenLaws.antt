-- The tokens of bytes, one after the other: they are those of the tags and texts that are written. Assumes nothing.
use Prim.Native.Nat.{ℕ, zero, suc, ◌+◌, ◌<◌}
use mathlib.Core.Path.{◌≡◌, refl, sym, ap, ◌∙◌}
use mathlib.Core.List.{List, [], ◌∷◌, ◌++◌, append_assoc, append-nil}
use mathlib.Core.Bool.{false}
use native.Mathlib.Omega.{arith}
use lib.ListN.{length, take, drop, take-append-drop, length-append, length-drop}
use lib.Seq.{drop-drop, drop-append_seam, drop-append-add, drop-length}
use Rattle.rights.specs.Bytes.{byte_at, all, run}
use Rattle.rights.specs.Labels.{label_byte}
use Rattle.rights.proofs.PathTexts.{and_left, run-all, run_over}
use Rattle.forms.specs.TreeText.{GoodLabel}
use Rattle.xml.specs.Document.{blank_byte, Text, blank, said, write_text, Blanks, GoodText}
use Rattle.xml.specs.How.Tokens.{Token, opens, closes, empty, text, Lexed, token, end, bad, lex_after, lex, Tokens, got, bad as none-got, with_token, on_lexed, tokens_from, tokens}
use Rattle.xml.proofs.LexLaws.{write_tag, GoodTag, TagAt, TokenAt, Says, lexed_there, Lexes, tag_lexes, text_lexes, front-label, label_not_blank}

-- How many tokens may be read does not matter, where it is more than the bytes

tag_short : (x : Token) (r : List ℕ) → GoodTag x → length r < length (write_tag x r)
tag_short (opens n) r g = simp length-append (omega arith)
tag_short (closes n) r g = simp length-append (omega arith)
tag_short (empty n) r g = simp length-append (omega arith)
tag_short (text l) r g = absurd g

at_short : (w : List ℕ) (x : Token) (j : ℕ) → TagAt w x j → length (drop j w) < length w
at_short w x j t = omega (arith, tag_short x (drop j w) t.good, ap length t.there)

token_short : (w : List ℕ) (x : Token) (j : ℕ) → TokenAt w x j → length (drop j w) < length w
token_short w (opens n) j t = at_short w (opens n) j t
token_short w (closes n) j t = at_short w (closes n) j t
token_short w (empty n) j t = at_short w (empty n) j t
token_short w (text l) j t = omega (arith, t.good.0, simp length-append at (ap length t.there))

lex_there : (s : List ℕ) → Says (run blank_byte s) (drop (run blank_byte s) s) (lex s)
unfolding lex
lex_there s = lexed_there (run blank_byte s) (drop (run blank_byte s) s)

lex_short : (s : List ℕ) (x : Token) (n : ℕ) → lex s ≡ token x n → length (drop n s) < length s
lex_short s x n e =
    let k : ℕ = run blank_byte s in
    let t = rw e at (lex_there s) in
    let q : drop t.0 (drop k s) ≡ drop n s = drop-drop t.0 k s ∙ ap (λ (i : ℕ). drop i s) (sym t.1) in
    omega (arith, token_short (drop k s) x t.0 t.2, length-drop k s, ap length q)

tokens_any : (f g : ℕ) (s : List ℕ) → length s < f → length s < g → tokens_from f s ≡ tokens_from g s
unfolding tokens_from
tokens_any zero g s h i = absurd (omega arith)
tokens_any (suc f) zero s h i = absurd (omega arith)
tokens_any (suc f) (suc g) s h i = go (lex s) refl (tokens_any f g)
  where
    go : (y : Lexed) → lex s ≡ y → ((r : List ℕ) → length r < f → length r < g → tokens_from f r ≡ tokens_from g r)
        → on_lexed (λ x n. with_token x (tokens_from f (drop n s))) y ≡ on_lexed (λ x n. with_token x (tokens_from g (drop n s))) y
    go (token x n) e ih = let l = lex_short s x n e in ap (with_token x) (ih (drop n s) (omega arith) (omega arith))
    go end e ih = refl
    go bad e ih = refl

pub tokens-step : (s : List ℕ) (x : Token) (n : ℕ) → lex s ≡ token x n → tokens s ≡ with_token x (tokens (drop n s))
unfolding tokens_from
tokens-step s x n e = let l = lex_short s x n e in rw e (ap (with_token x) (tokens_any (length s) (suc (length (drop n s))) (drop n s) l (omega arith)))

pub tokens_end : (s : List ℕ) → lex s ≡ end → tokens s ≡ got []
unfolding tokens_from
tokens_end s e = rw e

-- What is written has these tokens

tokens_next : (b w : List ℕ) (x : Token) (r : List ℕ) → Blanks b → blank_byte (byte_at w 0) ≡ false → Lexes (length b) w x r → tokens (b ++ w) ≡ with_token x (tokens r)
unfolding lex
tokens_next b w x r h t y =
    let e : lex (b ++ w) ≡ token x (length b + y.0) = rw (run_over blank_byte b w h t, drop-append_seam b w) y.1 in
    let q : drop (length b + y.0) (b ++ w) ≡ r = drop-append-add b w y.0 ∙ y.2 in
    rw q at (tokens-step (b ++ w) x (length b + y.0) e)

tag_first : (x : Token) (r : List ℕ) → GoodTag x → byte_at (write_tag x r) 0 ≡ 60
tag_first (opens n) r g = refl
tag_first (closes n) r g = refl
tag_first (empty n) r g = refl
tag_first (text l) r g = absurd g

-- a text that may be blank, and the tag after it
pub data Piece : Type 0 where
  piece : Text → Token → Piece

-- pieces as they are written, and the blanks after them
abbrev pub write_pieces : List Piece → List ℕ → List ℕ
write_pieces [] z = z
write_pieces (piece x t ∷ ps) z = write_text x ++ write_tag t (write_pieces ps z)

-- a text is a token if it is not blank
abbrev pub text_tokens : Text → List Token → List Token
text_tokens (blank b) xs = xs
text_tokens (said b l c) xs = text l ∷ xs

abbrev pub tokens_of : List Piece → List Token
tokens_of [] = []
tokens_of (piece x t ∷ ps) = text_tokens x (t ∷ tokens_of ps)

abbrev pub GoodPieces : List Piece → Type 0
GoodPieces [] = Unit {0}
GoodPieces (piece x t ∷ ps) = GoodText x × GoodTag t × GoodPieces ps

tokens_piece : (x : Text) (t : Token) (r : List ℕ) (xs : List Token) → GoodText x → GoodTag t → tokens r ≡ got xs → tokens (write_text x ++ write_tag t r) ≡ got (text_tokens x (t ∷ xs))
unfolding blank_byte all
tokens_piece (blank b) t r xs g h e = rw (tokens_next b (write_tag t r) t r g (rw (tag_first t r h)) (tag_lexes (length b) t r h), e)
tokens_piece (said b l c) t r xs g h e =
    let w : List ℕ = write_tag t r in
    let f = tag_first t r h in
    let a = tokens_next b (l ++ (c ++ w)) (text l) w g.0 (label_not_blank _ (front-label l (c ++ w) g.1)) (text_lexes (length b) l c w g.1 g.2 f) in
    let d = tokens_next [] w t r refl (rw f) (tag_lexes 0 t r h) in
    let z : (b ++ (l ++ c)) ++ w ≡ b ++ (l ++ (c ++ w)) = simp append_assoc in
    rw (z, a, d, e)

pub tokens_pieces : (ps : List Piece) (z : List ℕ) → GoodPieces ps → Blanks z → tokens (write_pieces ps z) ≡ got (tokens_of ps)
unfolding lex lex_after blank_byte
tokens_pieces [] z g h =
    let n : run blank_byte z ≡ length z = rw (append-nil z) at (run_over blank_byte z [] h refl) in
    tokens_end z (rw (n, drop-length z))
tokens_pieces (piece x t ∷ ps) z g h = tokens_piece x t (write_pieces ps z) (tokens_of ps) g.0 g.1 (tokens_pieces ps z g.2 h)

-- What has tokens was written

-- the pieces that bytes are written with, and blanks after them, where the bytes have these tokens
pub record Pieces (s : List ℕ) (xs : List Token) : Type 0 where
  pub pieces : List Piece
  pub after : List ℕ
  pub good : GoodPieces pieces
  pub blank : Blanks after
  pub writing : s ≡ write_pieces pieces after
  pub told : xs ≡ tokens_of pieces

with_elim : {C : Type 0} (x : Token) (y : Tokens) (xs : List Token) → ((ys : List Token) → y ≡ got ys → xs ≡ x ∷ ys → C) → with_token x y ≡ got xs → C
with_elim x (got ys) xs h e = h ys refl (cc)
with_elim x none-got xs h e = absurd (let z : ◌≡◌ {A = ℕ} 0 1 = cc in omega arith)

-- by what stands at the front
tokens_elim : {C : Type 0} (s : List ℕ) (xs : List Token)
    → (lex s ≡ end → xs ≡ [] → C) → ((x : Token) (n : ℕ) (ys : List Token) → lex s ≡ token x n → tokens (drop n s) ≡ got ys → xs ≡ x ∷ ys → C) → tokens s ≡ got xs → C
unfolding tokens_from
tokens_elim {C} s xs f g e = go (lex s) refl
  where
    go : (y : Lexed) → lex s ≡ y → C
    go (token x n) q = with_elim x (tokens (drop n s)) xs (λ ys. g x n ys q) (sym (tokens-step s x n q) ∙ e)
    go end q = let t = tokens_end s q in f q (cc)
    go bad q = absurd (let t = rw q at e in let z : ◌≡◌ {A = ℕ} 0 1 = cc in omega arith)

all_end : (s : List ℕ) → lex s ≡ end → Blanks s
all_end s e =
    let k : ℕ = run blank_byte s in
    let q : drop k s ≡ [] = rw e at (lex_there s) in
    let t : take k s ≡ s = sym (append-nil (take k s)) ∙ ap (λ (v : List ℕ). take k s ++ v) (sym q) ∙ take-append-drop k s in
    rw t at (run-all blank_byte s)

-- no tag begins with a blank or a label byte
blank_first : (z : List ℕ) → Blanks z → byte_at z 0 ≡ 60 → ⊥
unfolding all blank_byte
blank_first [] h e = omega arith
blank_first (b ∷ z) h e = let p = and_left (blank_byte b) (all blank_byte z) h in let q : blank_byte b ≡ false = rw e in let i : ◌≡◌ {A = ℕ} 0 1 = cc in omega arith

said_first : (d m e w : List ℕ) → Blanks d → GoodLabel m → byte_at ((d ++ (m ++ e)) ++ w) 0 ≡ 60 → ⊥
unfolding all label_byte
said_first [] m e w h g q =
    let p = front-label m (e ++ w) g in
    let u : byte_at (m ++ (e ++ w)) 0 ≡ 60 = rw (← (append_assoc m e w)) q in
    let v : label_byte (byte_at (m ++ (e ++ w)) 0) ≡ false = rw u in
    let i : ◌≡◌ {A = ℕ} 0 1 = cc in
    omega arith
said_first (b ∷ d) m e w h g q = blank_first (b ∷ d) h q

tag_before : (b : List ℕ) (x : Token) (r : List ℕ) (xs : List Token) → Blanks b → GoodTag x → Pieces r xs → Pieces (b ++ write_tag x r) (x ∷ xs)
tag_before b x r xs h g y = record {
  pieces = piece (blank b) x ∷ y.pieces;
  after = y.after;
  good = (h, g, y.good);
  blank = y.blank;
  writing = ap (λ (v : List ℕ). b ++ write_tag x v) y.writing;
  told = ap (λ (v : List Token). x ∷ v) y.told;
}

text_before : (b l c r : List ℕ) (xs : List Token) → Blanks b → GoodLabel l → Blanks c → byte_at r 0 ≡ 60 → Pieces r xs → Pieces (b ++ (l ++ (c ++ r))) (text l ∷ xs)
text_before b l c r xs hb g hc f y = go y.pieces y.good y.writing y.told
  where
    go : (ps : List Piece) → GoodPieces ps → r ≡ write_pieces ps y.after → xs ≡ tokens_of ps → Pieces (b ++ (l ++ (c ++ r))) (text l ∷ xs)
    go [] h w t = absurd (blank_first y.after y.blank (rw w at f))
    go (piece (blank []) t ∷ ps) h w v = record {
      pieces = piece (said b l c) t ∷ ps;
      after = y.after;
      good = ((hb, g, hc), h.1, h.2);
      blank = y.blank;
      writing = rw w (simp append_assoc);
      told = ap (λ (u : List Token). text l ∷ u) v;
    }
    go (piece (blank (a ∷ d)) t ∷ ps) h w v = absurd (blank_first (a ∷ d) h.0 (rw w at f))
    go (piece (said d m e) t ∷ ps) h w v = absurd (said_first d m e (write_tag t (write_pieces ps y.after)) h.0.0 h.0.1 (rw w at f))

token_before : (s : List ℕ) (x : Token) (n : ℕ) (xs : List Token) → lex s ≡ token x n → Pieces (drop n s) xs → Pieces s (x ∷ xs)
token_before s x n xs q y = rw (take-append-drop k s) at (go x t.2 (rw r at y))
  where
    k : ℕ
    k = run blank_byte s

    w : List ℕ
    w = drop k s

    t : Says k w (token x n)
    t = rw q at (lex_there s)

    j : ℕ
    j = t.0

    r : drop n s ≡ drop j w
    r = ap (λ (i : ℕ). drop i s) t.1 ∙ sym (drop-drop j k s)

    tagged : (z : Token) → TagAt w z j → Pieces (drop j w) xs → Pieces (take k s ++ w) (z ∷ xs)
    tagged z a p = rw a.there (tag_before (take k s) z (drop j w) xs (run-all blank_byte s) a.good p)

    go : (z : Token) → TokenAt w z j → Pieces (drop j w) xs → Pieces (take k s ++ w) (z ∷ xs)
    go (opens m) a p = tagged (opens m) a p
    go (closes m) a p = tagged (closes m) a p
    go (empty m) a p = tagged (empty m) a p
    go (text l) a p = rw a.there (text_before (take k s) l a.blanks (drop j w) xs (run-all blank_byte s) a.good a.blank a.tag p)

pub pieces_there : (xs : List Token) (s : List ℕ) → tokens s ≡ got xs → Pieces s xs
pieces_there [] s =
    tokens_elim s []
    (λ q _. record { pieces = []; after = s; good = tt; blank = all_end s q; writing = refl; told = refl })
    (λ x n ys q t e. absurd (let z : ◌≡◌ {A = ℕ} 0 1 = cc in omega arith))
pieces_there (x ∷ xs) s =
    tokens_elim s (x ∷ xs)
    (λ q e. absurd (let z : ◌≡◌ {A = ℕ} 0 1 = cc in omega arith))
    (λ y n ys q t e.
    let a : y ≡ x = cc in
    let b : ys ≡ xs = cc in
    token_before s x n xs (rw a at q) (pieces_there xs (drop n s) (rw b at t)))
