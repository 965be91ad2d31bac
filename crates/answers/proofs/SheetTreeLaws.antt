-- The sheet for a room's door, found by places in the view, is that of the nested tree that is shown. Assumes nothing.
use Prim.Native.Nat.{ℕ, zero, suc, ◌+◌, ◌-◌, ◌≤◌, ◌<◌}
use mathlib.Core.Path.{◌≡◌, refl, sym, ap, ◌∙◌}
use mathlib.Core.List.{List, [], ◌∷◌, ◌++◌, map, append-nil}
use native.Mathlib.Omega.{arith}
use lib.ListN.{length, get_or-eq_default}
use borrow.Author.Tests.{eq-eqb, ne_eqb}
use Rattle.rights.specs.Bytes.{bytes}
use Rattle.rights.specs.Labels.{same_label}
use Rattle.rights.specs.Nodes.{node, Nodes, level_at, label_at, TreeShaped}
use Rattle.rights.specs.Tree.{Tree, tree, Trees, none, more, nodes_of}
use Rattle.rights.specs.XPath.{at, children, filter, each, stretch}
use Rattle.rights.proofs.ListLaws.{by_case}
use Rattle.answers.specs.Sheet.{cell, nth, days, carries, labelled, lesson, row_text, head_row, row, sheet_text}
use Rattle.answers.specs.SheetTree.{in_period, in_room, first_label, day_label, lesson_label, day_cells, week_row, week_sheet, SheetPrinted}
use Rattle.answers.proofs.AnswerTreeLaws.{tree_of_view}
use Rattle.answers.proofs.ChildrenLaws.{Stands, StandIn, root_stands}
use Rattle.answers.proofs.SheetParts.{children-none}

-- the first k of some nodes; where there are fewer, the place after the last node stands for each that is missing
firsts : Nodes → ℕ → List ℕ → List ℕ
firsts t zero js = []
firsts t (suc k) [] = length t ∷ firsts t k []
firsts t (suc k) (j ∷ js) = j ∷ firsts t k js

days_first : (t : Nodes) → days t ≡ firsts t 5 (children t (at 0))
unfolding days firsts
days_first t = go (children t (at 0))
  where
    go : (js : List ℕ) → map (nth t js) (0 ∷ 1 ∷ 2 ∷ 3 ∷ 4 ∷ []) ≡ firsts t 5 js
    go [] = refl
    go (a ∷ []) = refl
    go (a ∷ b ∷ []) = refl
    go (a ∷ b ∷ c ∷ []) = refl
    go (a ∷ b ∷ c ∷ d ∷ []) = refl
    go (a ∷ b ∷ c ∷ d ∷ e ∷ js) = refl

module _ (t : Nodes) where
  -- the place after the last node has no label and no children
  end_label : label_at t (length t) ≡ []
  unfolding label_at
  end_label = let h : length t ≤ length t = omega arith in rw (get_or-eq_default t (node 0 []) h)

  end_stands : Stands t (length t) (tree [] none)
  unfolding Stands
  end_stands = (end_label, children-none t (length t) (omega arith))

  -- The node that a cell's label is of

  in_period_lem : (k n : ℕ) (ps : Trees) (js : List ℕ) → n ≡ suc k → StandIn t js ps → StandIn t (children t (at (nth t js k))) (in_period n ps)
  unfolding StandIn in_period
  in_period_lem k n none js q e = rw e (children-none t (length t) (omega arith))
  in_period_lem zero n (more (tree l us) ps) js q (i, is, e, s, r) = rw (e, eq-eqb n 1 q) s.1
  in_period_lem (suc k) n (more (tree l us) ps) js q (i, is, e, s, r) = rw (e, ne_eqb n 1 (λ z. omega arith)) (in_period_lem k (n - 1) ps is (omega arith) r)

  in_room_lem : (room : List ℕ) (us : Trees) (js : List ℕ) → StandIn t js us
      → StandIn t (children t (at (nth t (filter (carries room t) js) 0))) (in_room room us)
  unfolding StandIn in_room filter
  in_room_lem room none js e = rw e (children-none t (length t) (omega arith))
  in_room_lem room (more (tree l us) ts) js (i, is, e, s, r) =
      by_case (same_label l room)
      (λ q. rw (e, s.0, q) s.1)
      (λ q. rw (e, s.0, q) (in_room_lem room ts is r))

  first_label_lem : (us : Trees) (js : List ℕ) → StandIn t js us → label_at t (nth t js 0) ≡ first_label us
  unfolding StandIn first_label
  first_label_lem none js e = rw e end_label
  first_label_lem (more (tree l us) ts) js (i, is, e, s, r) = rw e s.0

  lesson-label : (room : List ℕ) (n : ℕ) → 1 ≤ n → (i : ℕ) (day : Tree) → Stands t i day → label_at t (lesson room t n i) ≡ lesson_label room n day
  unfolding Stands lesson labelled
  lesson-label room n h i (tree l ps) s = first_label_lem _ _ (in_room_lem room _ _ (in_period_lem (n - 1) n ps (children t (at i)) (omega arith) s.1))

  -- The cells of a row

  module _ (g : ℕ → ℕ) (held : Tree → List ℕ) (same : (i : ℕ) (day : Tree) → Stands t i day → label_at t (g i) ≡ held day) (blank : held (tree [] none) ≡ []) where
    cells : (k : ℕ) (js : List ℕ) (ds : Trees) → StandIn t js ds → each (λ i. cell (label_at t (g i))) (firsts t k js) ≡ day_cells held k ds
    unfolding each firsts day_cells StandIn cell
    cells zero js ds h = refl
    cells (suc k) js none h = rw (h, same (length t) (tree [] none) end_stands, blank, cells k [] none refl)
    cells (suc k) js (more u ds) (i, is, e, s, r) = rw (e, same i u s, cells k is ds r)

each_map : (f : ℕ → List ℕ) (g : ℕ → ℕ) (xs : List ℕ) → each f (map g xs) ≡ each (λ x. f (g x)) xs
unfolding each
each_map f g [] = refl
each_map f g (x ∷ xs) = rw (each_map f g xs)

-- The rows

module _ (room s : List ℕ) (ds : Trees) where
  abbrev week : Nodes
  week = nodes_of 0 (tree s ds)

  head_row_held : head_row week ≡ week_row (bytes "  ") day_label ds
  unfolding head_row row_text Stands
  head_row_held =
      rw (days_first week, cells week (λ i. i) day_label (λ i day h. label i day h) refl 5 (children week (at 0)) ds (root_stands (tree s ds)).1)
    where
      label : (i : ℕ) (day : Tree) → Stands week i day → label_at week i ≡ day_label day
      label i (tree l us) h = h.0

  row-held : (n : ℕ) → 1 ≤ n → row room week n ≡ week_row ((48 + n) ∷ bytes " ") (lesson_label room n) ds
  unfolding row row_text Stands in_period in_room first_label
  row-held n h =
      rw (each_map (λ i. cell (label_at week i)) (lesson room week n) (days week), days_first week)
      (ap (λ (x : List ℕ). (48 + n) ∷ (bytes " " ++ (x ++ bytes "\n")))
      (cells week (lesson room week n) (lesson_label room n) (lesson-label week room n h) refl 5 (children week (at 0)) ds (root_stands (tree s ds)).1))

  -- The sheet of a view is that of the nested tree whose nodes, in document order, are the view.
  pub sheet_of_tree : sheet_text room week ≡ week_sheet room ds
  unfolding sheet_text week_sheet each
  sheet_of_tree =
      rw (head_row_held, row-held 1 (omega arith), row-held 2 (omega arith), row-held 3 (omega arith), row-held 4 (omega arith), row-held 5 (omega arith), row-held 6 (omega arith), row-held 7 (omega arith), row-held 8 (omega arith), append-nil (week_row (bytes "8 ") (lesson_label room 8) ds))

-- So is what is printed of a view that shows something.
pub sheet_printed : (room : List ℕ) (vs : Nodes) → 0 < length vs → TreeShaped vs → SheetPrinted room vs (sheet_text room vs)
sheet_printed room vs h n = go (tree_of_view vs h n)
  where
    go : (t : Tree) × (nodes_of 0 t ≡ vs) → SheetPrinted room vs (sheet_text room vs)
    go (tree l ts, e) = record { label = l; days = ts; nodes = sym e; is = ap (sheet_text room) (sym e) ∙ sheet_of_tree room l ts }

-- With the root hidden it is the sheet of no days: "What is missing leaves a blank cell."
pub sheet_empty : (room : List ℕ) → sheet_text room [] ≡ week_sheet room none
unfolding sheet_text head_row row row_text lesson labelled days cell each filter stretch level_at label_at week_sheet day_cells
sheet_empty room = refl
