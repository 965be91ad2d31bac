-- The sheet of a room is the same in whatever case the room is typed (document 02, card 6). Assumes nothing.
use Prim.Native.Nat.{ℕ, ◌+◌}
use mathlib.Core.Bool.{true}
use mathlib.Core.Path.{◌≡◌, ap, fun_ext}
use mathlib.Core.List.{List, ◌++◌, map}
use Rattle.rights.specs.Labels.{same_label}
use Rattle.rights.specs.Nodes.{Nodes, label_at}
use Rattle.rights.specs.XPath.{at, children, filter, each}
use Rattle.rights.proofs.LabelLaws.{same_right}
use Rattle.answers.specs.Sheet.{nth, days, period, labelled, lesson, row_text, head_row, row, periods, sheet_text}

module _ (x y : List ℕ) (e : same_label x y ≡ true) (t : Nodes) where
  found_any_case : (i : ℕ) → labelled x t i ≡ labelled y t i
  unfolding labelled
  found_any_case i = ap (λ f. nth t (filter f (children t (at i))) 0) (fun_ext (λ j. same_right x y e (label_at t j)))

  lesson_any_case : (n day : ℕ) → lesson x t n day ≡ lesson y t n day
  unfolding lesson
  lesson_any_case n day = ap (λ i. nth t (children t (at i)) 0) (found_any_case (period t day n))

  row_any_case : (n : ℕ) → row x t n ≡ row y t n
  unfolding row
  row_any_case n = ap (λ f. row_text (48 + n) t (map f (days t))) (fun_ext (lesson_any_case n))

  pub sheet_any_case : sheet_text x t ≡ sheet_text y t
  unfolding sheet_text
  sheet_any_case = ap (λ f. head_row t ++ each f periods) (fun_ext row_any_case)
