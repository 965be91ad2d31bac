-- Nested tokens match exactly if they match in each window up to the deepest level; what the tally of the nodes is. Assumes nothing.
use Rattle.std.specs.Prelude.{Option, Some, None, is_some}
use Prim.Native.Nat.{ℕ, zero, suc, ◌+◌, ◌-◌, ◌*◌, ◌≤◌, ◌<◌, max}
use mathlib.Core.Path.{◌≡◌, refl, sym, ap, ◌∙◌}
use mathlib.Core.List.{List, [], ◌∷◌}
use mathlib.Core.Bool.{Bool, true, false, cond, ◌&&◌, ◌||◌, and-true, and-false, or-false, or_assoc}
use native.Mathlib.Omega.{arith}
use native.Mathlib.Nat.{le-max_left, le-max_right, max-zero, zero-mul, suc-mul, add-zero, zero-add, max_comm}
use lib.Dec.{ltb}
use lib.ListN.{length}
use borrow.Author.Tests.{ltb-true, ltb-false, le-leb, lt-leb, lt-ltb, le-ltb}
use Rattle.rights.specs.Nodes.{Node, level_of}
use Rattle.rights.specs.Policy.{some}
use Rattle.rights.proofs.ListLaws.{by_case}
use Rattle.rights.proofs.TableLaws.{both}
use Rattle.xml.specs.How.Tokens.{Token, opens, closes, empty, text, Tokens, got, bad, tokens, nested, same_bytes, matched_in, token_nodes, good_tokens, nodes_of_tokens, is_document, document_nodes}
use Rattle.xml.specs.How.Loading.{deepest, is_restricted, tally_of, document_kind}
use Rattle.xml.specs.How.Scan.{tallied, tally_all, no_nodes, in_window, matched_within, window, kind_within, FirstWindow}
use Rattle.xml.specs.declared.document.Tally.{Tally}

-- two windows, one after the other
window_split : (a w l : ℕ) (b : Bool) → cond (in_window 0 (a + w) l) b true ≡ (cond (in_window 0 a l) b true && cond (in_window a w l) b true)
window_split a w l b =
    let z : l - 0 ≡ l = omega arith in
    rw (le-leb 0 l (omega arith), z)
    (by_case (ltb l a)
    (λ e. let h = ltb-true l a e in rw (e, lt-ltb l (a + w) (omega arith), lt-leb a l h) (sym (and-true b)))
    (λ e.
    let h = ltb-false l a e in
    rw (e, le-leb a l h)
    (by_case (ltb (l - a) w)
    (λ f. rw (f, lt-ltb l (a + w) (omega (arith, ltb-true (l - a) w f))))
    (λ f. rw (f, le-ltb l (a + w) (omega (arith, ltb-false (l - a) w f)))))))

and_swap : (p q x y : Bool) → (p && q) && (x && y) ≡ (p && x) && (q && y)
and_swap true true x y = refl
and_swap true false x y = sym (and-false x)
and_swap false q x y = refl

pub matched_split : (a w : ℕ) (ns : List (List ℕ)) (xs : List Token) → matched_within 0 (a + w) ns xs ≡ (matched_within 0 a ns xs && matched_within a w ns xs)
unfolding matched_within
matched_split a w ns [] = refl
matched_split a w ns (opens n ∷ xs) = matched_split a w (n ∷ ns) xs
matched_split a w [] (closes n ∷ xs) = refl
matched_split a w (m ∷ ns) (closes n ∷ xs) =
    rw (window_split a w (length ns) (same_bytes m n), matched_split a w ns xs)
    (and_swap (cond (in_window 0 a (length ns)) (same_bytes m n) true) (cond (in_window a w (length ns)) (same_bytes m n) true) (matched_within 0 a ns xs) (matched_within a w ns xs))
matched_split a w ns (empty n ∷ xs) = matched_split a w ns xs
matched_split a w ns (text l ∷ xs) = matched_split a w ns xs

-- what matches does in every window
pub matched_every : (low w : ℕ) (ns : List (List ℕ)) (xs : List Token) → matched_in ns xs ≡ true → matched_within low w ns xs ≡ true
unfolding matched_within matched_in
matched_every low w ns [] e = refl
matched_every low w ns (opens n ∷ xs) e = matched_every low w (n ∷ ns) xs e
matched_every low w [] (closes n ∷ xs) e = refl
matched_every low w (m ∷ ns) (closes n ∷ xs) e =
    let h = both (same_bytes m n) (matched_in ns xs) e in
    rw (h.0, matched_every low w ns xs h.1) (by_case (in_window low w (length ns)) (λ f. rw f) (λ f. rw f))
matched_every low w ns (empty n ∷ xs) e = matched_every low w ns xs e
matched_every low w ns (text l ∷ xs) e = matched_every low w ns xs e

-- a window that has all levels
pub matched_whole : (w : ℕ) (ns : List (List ℕ)) (xs : List Token) → length ns ≤ w → deepest (token_nodes (length ns) xs) < w → matched_within 0 w ns xs ≡ matched_in ns xs
unfolding matched_within matched_in token_nodes deepest
matched_whole w ns [] h d = refl
matched_whole w ns (opens n ∷ xs) h d =
    let a = le-max_left (length ns) (deepest (token_nodes (suc (length ns)) xs)) in
    let b = le-max_right (length ns) (deepest (token_nodes (suc (length ns)) xs)) in
    matched_whole w (n ∷ ns) xs (omega arith) (omega arith)
matched_whole w [] (closes n ∷ xs) h d = refl
matched_whole w (m ∷ ns) (closes n ∷ xs) h d =
    let z : suc (length ns) - 1 ≡ length ns = omega arith in
    let y : length ns - 0 ≡ length ns = omega arith in
    let d' = rw z at d in
    rw (le-leb 0 (length ns) (omega arith), y, lt-ltb (length ns) w (omega arith), matched_whole w ns xs (omega arith) d')
matched_whole w ns (empty n ∷ xs) h d = matched_whole w ns xs h (omega (arith, le-max_right (length ns) (deepest (token_nodes (length ns) xs)), d))
matched_whole w ns (text l ∷ xs) h d = matched_whole w ns xs h (omega (arith, le-max_right (length ns) (deepest (token_nodes (length ns) xs)), d))

-- The tags match exactly if they do in each of n windows of w levels that have all levels: this way, and `matched_every`.

matched_none_there : (ns : List (List ℕ)) (xs : List Token) → matched_within 0 0 ns xs ≡ true
unfolding matched_within
matched_none_there ns [] = refl
matched_none_there ns (opens n ∷ xs) = matched_none_there (n ∷ ns) xs
matched_none_there [] (closes n ∷ xs) = refl
matched_none_there (m ∷ ns) (closes n ∷ xs) = rw (le-leb 0 (length ns) (omega arith), le-ltb (length ns - 0) 0 (omega arith), matched_none_there ns xs)
matched_none_there ns (empty n ∷ xs) = matched_none_there ns xs
matched_none_there ns (text l ∷ xs) = matched_none_there ns xs

pub matched_windows : (w n : ℕ) (xs : List Token) → deepest (token_nodes 0 xs) < n * w → ((k : ℕ) → k < n → matched_within (k * w) w [] xs ≡ true) → matched_in [] xs ≡ true
matched_windows w n xs d h = sym (matched_whole (n * w) [] xs (omega arith) d) ∙ first n h
  where
    first : (n : ℕ) → ((k : ℕ) → k < n → matched_within (k * w) w [] xs ≡ true) → matched_within 0 (n * w) [] xs ≡ true
    first zero h = rw (zero-mul w) (matched_none_there [] xs)
    first (suc n) h = rw (suc-mul n w) (matched_split (n * w) w [] xs ∙ rw (first n (λ k l. h k (omega arith)), h n (omega arith)))

-- The tally

max_assoc : (a b c : ℕ) → max (max a b) c ≡ max a (max b c)
max_assoc a b c = omega arith

pub tally_is : (t : Tally) (xs : List Node)
    → tally_all t xs ≡ record { nodes = t.nodes + length xs; deepest = max t.deepest (deepest xs); restricted = t.restricted || some is_restricted xs }
unfolding tally_all deepest some
tally_is t [] = rw (add-zero t.nodes, max-zero t.deepest, or-false t.restricted)
tally_is t (x ∷ xs) =
    let z : t.nodes + 1 + length xs ≡ t.nodes + suc (length xs) = omega arith in
    tally_is (tallied t x) xs ∙ rw (z, max_assoc t.deepest (level_of x) (deepest xs), or_assoc t.restricted (is_restricted x) (some is_restricted xs))

pub tally_all_lem : (xs : List Node) → tally_all no_nodes xs ≡ tally_of xs
tally_all_lem xs = tally_is no_nodes xs ∙ rw (zero-add (length xs), max_comm 0 (deepest xs), max-zero (deepest xs))

-- One window after the other

module _ (s : List ℕ) (deep : ℕ) where
  -- the first low levels match
  abbrev pub Matched : ℕ → Type 0
  Matched low = (xs : List Token) → FirstWindow s deep xs → matched_within 0 (low + window) [] xs ≡ true

  pub matched_first : Matched 0
  matched_first xs f = f.matches

  module _ (low : ℕ) (kind : Option Tally) (k : kind ≡ kind_within low window (tokens s)) where
    kind-of : (xs : List Token) → FirstWindow s deep xs → kind ≡ cond (matched_within low window [] xs) (Some (tally_all no_nodes (token_nodes 0 xs))) None
    kind-of xs f = k ∙ rw (f.read, f.nests)

    pub matched_none : is_some kind ≡ false → (xs : List Token) → FirstWindow s deep xs → false ≡ matched_in [] xs
    matched_none e xs f =
        by_case (matched_in [] xs)
        (λ b. absurd (let r = rw (kind-of xs f, matched_every low window [] xs b) at e in let z : ◌≡◌ {A = ℕ} 0 1 = cc in omega arith))
        (λ b. sym b)

    pub matched_next : (before : ℕ) → low ≡ before + window → Matched before → is_some kind ≡ true → Matched low
    matched_next before z m e xs f =
        let here = rw (← z) at (m xs f) in
        by_case (matched_within low window [] xs)
        (λ b. matched_split low window [] xs ∙ rw (here, b))
        (λ b. absurd (let r = rw (kind-of xs f, b) at e in let y : ◌≡◌ {A = ℕ} 0 1 = cc in omega arith))

  pub matched_last : (low : ℕ) → low ≤ deep → deep - low < window → Matched low → (xs : List Token) → FirstWindow s deep xs → true ≡ matched_in [] xs
  matched_last low h l m xs f = let d = f.deep_is in sym (m xs f) ∙ matched_whole (low + window) [] xs (omega arith) (omega arith)

-- The answer

module _ (s : List ℕ) (kind : Option Tally) (k : kind ≡ kind_within 0 window (tokens s)) where
  pub no_document_lem : kind ≡ None → None ≡ document_kind s
  unfolding document_kind is_document document_nodes
  no_document_lem e = go (tokens s) (sym k ∙ e)
    where
      go : (T : Tokens) → kind_within 0 window T ≡ None → None ≡ cond (good_tokens T) (Some (tally_of (nodes_of_tokens T))) None
      go (got xs) q =
          by_case (nested xs)
          (λ n. by_case (matched_in [] xs)
          (λ b. absurd (let r = rw (n, matched_every 0 window [] xs b) at q in let z : ◌≡◌ {A = ℕ} 0 1 = cc in omega arith))
          (λ b. rw (n, b)))
          (λ n. rw n)
      go bad q = refl

  module _ (t : Tally) (e : kind ≡ Some t) where
    pub first_window : (xs : List Token) × FirstWindow s t.deepest xs × (t ≡ tally_of (token_nodes 0 xs))
    first_window = go (tokens s) refl (sym k ∙ e)
      where
        go : (T : Tokens) → tokens s ≡ T → kind_within 0 window T ≡ Some t → (xs : List Token) × FirstWindow s t.deepest xs × (t ≡ tally_of (token_nodes 0 xs))
        go (got xs) r q =
            by_case (nested xs)
            (λ n. by_case (matched_within 0 window [] xs)
            (λ b.
            let q' = rw (n, b) at q in
            let c : tally_all no_nodes (token_nodes 0 xs) ≡ t = cc in
            let z : t ≡ tally_of (token_nodes 0 xs) = sym c ∙ tally_all_lem (token_nodes 0 xs) in
            (xs, record { read = r; nests = n; matches = b; deep_is = sym (ap (λ (t : Tally). t.deepest) z) }, z))
            (λ b. absurd (let q' = rw (n, b) at q in let z : ◌≡◌ {A = ℕ} 0 1 = cc in omega arith)))
            (λ n. absurd (let q' = rw n at q in let z : ◌≡◌ {A = ℕ} 0 1 = cc in omega arith))
        go bad r q = absurd (let z : ◌≡◌ {A = ℕ} 0 1 = cc in omega arith)

    pub document_is : (b : Bool) → ((xs : List Token) → FirstWindow s t.deepest xs → b ≡ matched_in [] xs) → document_kind s ≡ cond b (Some t) None
    unfolding document_kind is_document document_nodes
    document_is b h = let w = first_window in let f = w.1 in rw (f.read, f.nests, ← h w.0 f, ← w.2)

-- What an answer says

pub record Told (s : List ℕ) (t : Tally) : Type 0 where
  pub document : is_document s ≡ true
  pub tally : t ≡ tally_of (document_nodes s)

pub told_document : (s : List ℕ) (t : Tally) → Some t ≡ document_kind s → Told s t
unfolding document_kind
told_document s t e =
    by_case (is_document s)
    (λ b. let q = rw b at e in record { document = b; tally = cc })
    (λ b. absurd (let q = rw b at e in let z : ◌≡◌ {A = ℕ} 0 1 = cc in omega arith))

pub told_no_document : (s : List ℕ) → None ≡ document_kind s → is_document s ≡ false
unfolding document_kind
told_no_document s e = by_case (is_document s) (λ b. absurd (let q = rw b at e in let z : ◌≡◌ {A = ℕ} 0 1 = cc in omega arith)) (λ b. b)
