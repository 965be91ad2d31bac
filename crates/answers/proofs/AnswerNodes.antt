-- The parts of an answer, node by node. Assumes nothing.
use Prim.Native.Nat.{ℕ, zero, suc, ◌+◌, ◌≤◌, ◌<◌}
use mathlib.Core.Path.{◌≡◌, refl, sym, ap, ◌∙◌}
use mathlib.Core.Bool.{Bool, true, false, not, cond}
use mathlib.Core.List.{List, [], ◌∷◌, ◌++◌, append_assoc}
use native.Mathlib.Omega.{arith}
use native.Mathlib.Nat.{not-suc-le-zero}
use native.Mathlib.Numerals.{add-one}
use lib.Dec.{eqb}
use lib.ListN.{length, get_or, take, drop, replicate, drop_of_length-le}
use lib.Seq.{drop-cons}
use borrow.Author.Tests.{eq-eqb, ne_eqb}
use Rattle.rights.specs.Nodes.{Node, node, level_of, label_of, level_at, label_at}
use Rattle.answers.specs.Answer.{none_line, hit_line, hit_lines, find_text, child_lines, view_text, next_level, opening, root_line, end_line}
use Rattle.rights.specs.Marks.{marks_of, mark_count, keep}
use Rattle.rights.proofs.ListLaws.{by_case}
use Rattle.answers.specs.How.AnswerParts.{node_at, hit_line_at, node_text}

-- Hits

pub hit_none : (ms : List ℕ) (vs : List Node) (i : ℕ) → get_or ms i 0 ≡ 0 → hit_line_at ms vs i ≡ []
unfolding hit_line_at
hit_none ms vs i e = rw (eq-eqb (get_or ms i 0) 0 e)

pub hit_some : (ms : List ℕ) (vs : List Node) (i : ℕ) → (get_or ms i 0 ≡ 0 → ⊥) → hit_line_at ms vs i ≡ hit_line (node_at vs i)
unfolding hit_line_at
hit_some ms vs i h = rw (ne_eqb (get_or ms i 0) 0 h)

module _ (ms : List ℕ) (vs : List Node) (i : ℕ) (h : i < length ms) (k : i < length vs) where
  pub hits_pass : get_or ms i 0 ≡ 0 → keep (marks_of (drop i ms)) (drop i vs) ≡ keep (marks_of (drop (i + 1) ms)) (drop (i + 1) vs)
  unfolding keep
  hits_pass e = rw (add-one i, drop-cons ms i 0, drop-cons vs i (node 0 []), eq-eqb (get_or ms i 0) 0 e)

  pub hits_take : (get_or ms i 0 ≡ 0 → ⊥) → keep (marks_of (drop i ms)) (drop i vs) ≡ node_at vs i ∷ keep (marks_of (drop (i + 1) ms)) (drop (i + 1) vs)
  unfolding keep
  hits_take e = rw (add-one i, drop-cons ms i 0, drop-cons vs i (node 0 []), ne_eqb (get_or ms i 0) 0 e)

  pub hits_step : hit_lines (keep (marks_of (drop i ms)) (drop i vs)) ≡ hit_line_at ms vs i ++ hit_lines (keep (marks_of (drop (i + 1) ms)) (drop (i + 1) vs))
  unfolding keep hit_lines hit_line_at
  hits_step = rw (add-one i, drop-cons ms i 0, drop-cons vs i (node 0 [])) (go (eqb (get_or ms i 0) 0))
    where
      go : (b : Bool) → hit_lines (cond (not b) (node_at vs i ∷ keep (marks_of (drop (suc i) ms)) (drop (suc i) vs)) (keep (marks_of (drop (suc i) ms)) (drop (suc i) vs)))
          ≡ cond b [] (hit_line (node_at vs i)) ++ hit_lines (keep (marks_of (drop (suc i) ms)) (drop (suc i) vs))
      go true = refl
      go false = refl

hits_of_none : (ms : List ℕ) → keep {A = Node} (marks_of ms) [] ≡ []
unfolding keep
hits_of_none [] = refl
hits_of_none (m ∷ ms) = refl

pub hits_end : (ms : List ℕ) (vs : List Node) (i : ℕ) → length vs ≤ i → keep (marks_of (drop i ms)) (drop i vs) ≡ []
hits_end ms vs i h = rw (drop_of_length-le vs h) (hits_of_none (drop i ms))

pub hit_lines_end : (ms : List ℕ) (vs : List Node) (i : ℕ) → length vs ≤ i → hit_lines (keep (marks_of (drop i ms)) (drop i vs)) ≡ []
unfolding hit_lines
hit_lines_end ms vs i h = rw (hits_end ms vs i h)

-- as many marks are set as there are hits
pub count_hits : (ms : List ℕ) (vs : List Node) (n : ℕ) → n ≡ length vs → mark_count (take n (marks_of ms)) ≡ length (keep (marks_of ms) vs)
unfolding keep
count_hits [] [] n e = rw e
count_hits [] (v ∷ vs) n e = rw e
count_hits (m ∷ ms) [] n e = rw e
count_hits (m ∷ ms) (v ∷ vs) n e =
    rw e (by_case (eqb m 0) (λ z. rw z (count_hits ms vs (length vs) refl)) (λ z. rw z (ap suc (count_hits ms vs (length vs) refl))))

-- Views

pub children-step : (vs : List Node) (i : ℕ) → i < length vs → child_lines (drop i vs) ≡ node_text vs i ++ child_lines (drop (i + 1) vs)
unfolding child_lines node_text
children-step vs i h =
    rw (drop-cons vs i (node 0 []), add-one i, add-one (level_of (node_at vs i)))
    (sym (append_assoc (opening (level_of (node_at vs i))) _ _ ∙ ap (opening (level_of (node_at vs i)) ++◌) (append_assoc (label_of (node_at vs i)) _ _)))

pub children_end : (vs : List Node) (i : ℕ) → length vs ≤ i → child_lines (drop i vs) ≡ []
unfolding child_lines
children_end vs i h = rw drop_of_length-le

pub view-none : (vs : List Node) → length vs ≡ 0 → view_text vs ≡ end_line 0
unfolding view_text
view-none [] e = refl
view-none (v ∷ vs) e = absurd (omega arith)

pub view-some : (vs : List Node) (k : ℕ) → 0 < length vs → k ≡ length vs → view_text vs ≡ root_line (label_at vs 0) ++ (child_lines (drop 1 vs) ++ end_line k)
unfolding view_text label_at
view-some [] k h e = absurd (not-suc-le-zero h)
view-some (v ∷ vs) k h e = rw e

pub next_some : (vs : List Node) (j : ℕ) → j < length vs → next_level (drop j vs) ≡ level_at vs j
unfolding level_at
next_some vs j h = rw (drop-cons vs j (node 0 []))

pub next_none : (vs : List Node) (j : ℕ) → length vs ≤ j → next_level (drop j vs) ≡ 1
next_none vs j h = rw drop_of_length-le

-- `)` once more
pub closed_more : (k : ℕ) → replicate {A = ℕ} (k + 1) 41 ≡ replicate k 41 ++ (41 ∷ [])
closed_more k = rw add-one (go k)
  where
    go : (k : ℕ) → replicate {A = ℕ} (suc k) 41 ≡ replicate k 41 ++ (41 ∷ [])
    go zero = refl
    go (suc k) = ap (41 ∷◌) (go k)

-- The first hit

module _ (ms : List ℕ) (vs : List Node) (i : ℕ) (same : keep (marks_of (drop i ms)) (drop i vs) ≡ keep (marks_of ms) vs) where
  pub found_hit : i < length ms → i < length vs → (get_or ms i 0 ≡ 0 → ⊥) → find_text (keep (marks_of ms) vs) ≡ hit_line (node_at vs i)
  found_hit h k e = ap find_text (sym same ∙ hits_take ms vs i h k e)

  pub found_none : length vs ≤ i → find_text (keep (marks_of ms) vs) ≡ none_line
  found_none h = ap find_text (sym same ∙ hits_end ms vs i h)
