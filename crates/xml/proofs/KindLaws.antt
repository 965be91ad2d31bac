-- What a pass tells: whether the tokens nest and the closing tags of the window match, and what the nodes are like. Assumes nothing.
use Rattle.std.specs.Prelude.{Option, Some, None}
use Prim.Native.Nat.{ℕ, suc, ◌+◌, ◌-◌, ◌<◌}
use mathlib.Core.Path.{◌≡◌, refl, sym, ◌∙◌}
use mathlib.Core.List.{List, [], ◌∷◌}
use mathlib.Core.Bool.{true, false, cond, ◌&&◌, and-false}
use native.Mathlib.Omega.{arith}
use lib.Dec.{eqb, leb}
use lib.ListN.{length, get_or, length-set, replicate, length-replicate, get_or-replicate}
use lib.Seq.{get_or-set_same, get_or-set_other}
use borrow.Author.Tests.{leb-true, ltb-true, le-leb, lt-ltb, eqb-true, eqb-false, eq-eqb, ne_eqb}
use Rattle.rights.specs.Nodes.{node}
use Rattle.rights.proofs.ListLaws.{by_case}
use Rattle.rights.proofs.TableLaws.{both}
use Rattle.xml.specs.How.Tokens.{Token, opens, closes, empty, text, Tokens, got, bad, with_token, nested_in, nested, same_bytes, token_nodes}
use Rattle.xml.specs.How.Scan.{tallied, tally_all, no_nodes, in_window, matched_within, kind_within, opened, closes_it, told, told_by}
use Rattle.xml.specs.declared.document.Tally.{Tally}

-- The names of the window are those of the open elements: the name of level l among them

unfoldable pub name_of : ℕ → List (List ℕ) → List ℕ
name_of l [] = []
name_of l (m ∷ ns) = cond (eqb l (length ns)) m (name_of l ns)

abbrev pub Open : ℕ → List (List ℕ) → List (List ℕ) → Type 0
Open low names ns = (k : ℕ) → k < length names → low + k < length ns → get_or names k [] ≡ name_of (low + k) ns

module _ (low : ℕ) (names : List (List ℕ)) where
  open_more : (ns : List (List ℕ)) (n : List ℕ) → Open low names ns → Open low (opened low names (length ns) n) (n ∷ ns)
  unfolding name_of
  open_more ns n h = by_case (in_window low (length names) (length ns)) inside outside
    where
      inside : in_window low (length names) (length ns) ≡ true → Open low (opened low names (length ns) n) (n ∷ ns)
      inside e =
          let w = both (leb low (length ns)) _ e in
          let a = leb-true low (length ns) w.0 in
          let b = ltb-true (length ns - low) (length names) w.1 in
          rw e (λ k l m.
          by_case (eqb (low + k) (length ns))
          (λ q. let z : k ≡ length ns - low = omega (arith, eqb-true (low + k) (length ns) q) in rw (q, z) (get_or-set_same names (length ns - low) n [] b))
          (λ q.
          let f = eqb-false (low + k) (length ns) q in
          rw (q, get_or-set_other names (length ns - low) k n [] (λ z. f (omega (arith, z)))) (h k (omega (arith, l, length-set names (length ns - low) n)) (omega (arith, f, m)))))

      outside : in_window low (length names) (length ns) ≡ false → Open low (opened low names (length ns) n) (n ∷ ns)
      outside e =
          rw e (λ k l m.
          by_case (eqb (low + k) (length ns))
          (λ q.
          let z = eqb-true (low + k) (length ns) q in
          let i = rw (le-leb low (length ns) (omega arith), lt-ltb (length ns - low) (length names) (omega arith)) at e in
          absurd (let y : ◌≡◌ {A = ℕ} 0 1 = cc in omega arith))
          (λ q. rw q (h k l (omega (arith, m, eqb-false (low + k) (length ns) q)))))

  open_less : (ns : List (List ℕ)) (m : List ℕ) → Open low names (m ∷ ns) → Open low names ns
  unfolding name_of
  open_less ns m h k l b = h k l (omega arith) ∙ rw (ne_eqb (low + k) (length ns) (λ z. omega (arith, z)))

  length-opened : (l : ℕ) (n : List ℕ) → length (opened low names l n) ≡ length names
  length-opened l n = by_case (in_window low (length names) l) (λ e. rw e (length-set names (l - low) n)) (λ e. rw e)

  -- a tag closes the innermost element
  closes_innermost : (ns : List (List ℕ)) (m n : List ℕ) → Open low names (m ∷ ns) → closes_it low names (length ns) n ≡ cond (in_window low (length names) (length ns)) (same_bytes m n) true
  unfolding name_of
  closes_innermost ns m n h =
      by_case (in_window low (length names) (length ns))
      (λ e.
      let w = both (leb low (length ns)) _ e in
      let a = leb-true low (length ns) w.0 in
      let b = ltb-true (length ns - low) (length names) w.1 in
      let z : low + (length ns - low) ≡ length ns = omega arith in
      let g : get_or names (length ns - low) [] ≡ m = h (length ns - low) b (omega arith) ∙ rw (z, eq-eqb (length ns) (length ns) refl) in
      rw (e, g))
      (λ e. rw e)

-- what is told of the tokens that follow, where these elements are open
abbrev told_of : ℕ → ℕ → List (List ℕ) → Tally → List Token → Option Tally
told_of low w ns t xs = cond (nested_in (length ns) xs && matched_within low w ns xs) (Some (tally_all t (token_nodes (length ns) xs))) None

told_is : (low : ℕ) (names : List (List ℕ)) (ns : List (List ℕ)) (t : Tally) (xs : List Token) → Open low names ns → told low names (length ns) t xs ≡ told_of low (length names) ns t xs
unfolding told nested_in matched_within tally_all token_nodes
told_is low names [] t [] h = refl
told_is low names (m ∷ ns) t [] h = rw (ne_eqb (suc (length ns)) 0 (λ z. omega (arith, z)))
told_is low names [] t (x ∷ xs) h = refl
told_is low names (m ∷ ns) t (opens n ∷ xs) h =
    told_is low (opened low names (suc (length ns)) n) (n ∷ m ∷ ns) (tallied t (node (suc (length ns)) n)) xs (open_more low names (m ∷ ns) n h)
    ∙ rw (length-opened low names (suc (length ns)) n)
told_is low names (m ∷ ns) t (closes n ∷ xs) h =
    let z : suc (length ns) - 1 ≡ length ns = omega arith in
    rw (closes_innermost low names ns m n h, z)
    (by_case (cond (in_window low (length names) (length ns)) (same_bytes m n) true)
    (λ e. rw e (told_is low names ns t xs (open_less low names ns m h)))
    (λ e. rw (e, and-false (nested_in (length ns) xs))))
told_is low names (m ∷ ns) t (empty n ∷ xs) h = told_is low names (m ∷ ns) (tallied t (node (suc (length ns)) n)) xs h
told_is low names (m ∷ ns) t (text l ∷ xs) h = told_is low names (m ∷ ns) (tallied t (node (suc (length ns)) l)) xs h

-- A pass from the first token on

module _ (low : ℕ) (names : List (List ℕ)) (n : List ℕ) where
  pub kind_opens : (T : Tokens) → Open low names (n ∷ []) → kind_within low (length names) (with_token (opens n) T) ≡ told_by low names 1 (tallied no_nodes (node 0 n)) T
  unfolding nested matched_within tally_all token_nodes
  kind_opens (got xs) h = sym (told_is low names (n ∷ []) (tallied no_nodes (node 0 n)) xs h)
  kind_opens bad h = refl

  pub kind_empty : (T : Tokens) → kind_within low (length names) (with_token (empty n) T) ≡ told_by low names 0 (tallied no_nodes (node 0 n)) T
  unfolding nested matched_within tally_all token_nodes
  kind_empty (got xs) = sym (told_is low names [] (tallied no_nodes (node 0 n)) xs (λ k l b. absurd (omega arith)))
  kind_empty bad = refl

module _ (low w : ℕ) (n : List ℕ) where
  pub kind_closes : (T : Tokens) → kind_within low w (with_token (closes n) T) ≡ None
  unfolding nested
  kind_closes (got xs) = refl
  kind_closes bad = refl

  pub kind_text : (T : Tokens) → kind_within low w (with_token (text n) T) ≡ None
  unfolding nested
  kind_text (got xs) = refl
  kind_text bad = refl

pub kind_none : (low w : ℕ) → kind_within low w (got []) ≡ None
unfolding nested
kind_none low w = refl

-- a window in which every name is that of the root
pub root_open : (low w : ℕ) (n : List ℕ) → Open low (replicate w n) (n ∷ [])
unfolding name_of
root_open low w n k l b =
    let z : low + k ≡ 0 = omega arith in
    get_or-replicate w k n [] (omega (arith, length-replicate {A = List ℕ} w n)) ∙ rw z
