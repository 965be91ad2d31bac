-- What is shown hangs on position and read alone: rights that agree in these two show the same nodes. Assumes nothing.
use Prim.Native.Nat.{ℕ, suc, ◌+◌}
use mathlib.Core.Bool.{Bool, true, false, cond, ◌&&◌}
use mathlib.Core.Path.{◌≡◌, refl, ap, ◌∙◌}
use mathlib.Core.List.{List, [], ◌∷◌, map}
use lib.Bits.{bit_and}
use Rattle.rights.specs.Marks.{keep}
use Rattle.rights.specs.Table.{level}
use Rattle.rights.specs.Policy.{position, read}
use Rattle.rights.specs.Rights.{holds}
use Rattle.rights.proofs.FiveRights.{holds-among}
use Rattle.views.specs.Shown.{stored_from, stored_level, grants, in_window, showable, at_parent, shown_after, shown}
use Rattle.views.specs.How.Numbers.{shown_number, shown_numbers}

module _ {A : Type 0} (day : ℕ) (f g : A → ℕ) (er : (a : A) → holds read (f a) ≡ holds read (g a)) (ep : (a : A) → holds position (f a) ≡ holds position (g a)) where
  abbrev MarksAlike : ℕ → List (List ℕ) → List A → Type 0
  MarksAlike i rs cs =
      (before : List (ℕ × Bool))
      → shown_after stored_level showable before (stored_from day i rs (map f cs)) ≡ shown_after stored_level showable before (stored_from day i rs (map g cs))

  marks_alike : (i : ℕ) (rs : List (List ℕ)) (cs : List A) → MarksAlike i rs cs
  unfolding shown_after stored_from
  marks_alike i [] cs before = refl
  marks_alike i (r ∷ rs) [] before = refl
  marks_alike i (r ∷ rs) (c ∷ cs) before =
      let ih : MarksAlike (suc i) rs cs = marks_alike (suc i) rs cs in
      rw (er c, ep c) (ap (λ (l : List Bool). ((grants (g c) && in_window day r) && at_parent true before (level r)) ∷ l) (ih _))

  numbers_alike : (bs : List Bool) (i : ℕ) (rs : List (List ℕ)) (cs : List A)
      → map shown_number (keep bs (stored_from day i rs (map f cs))) ≡ map shown_number (keep bs (stored_from day i rs (map g cs)))
  unfolding stored_from keep
  numbers_alike [] i rs cs = refl
  numbers_alike (b ∷ bs) i [] cs = refl
  numbers_alike (b ∷ bs) i (r ∷ rs) [] = refl
  numbers_alike (true ∷ bs) i (r ∷ rs) (c ∷ cs) = rw (er c) (ap (λ (l : List ℕ). cond (holds read (g c)) i (i + 16384) ∷ l) (numbers_alike bs (suc i) rs cs))
  numbers_alike (false ∷ bs) i (r ∷ rs) (c ∷ cs) = numbers_alike bs (suc i) rs cs

  pub shown_alike : (rs : List (List ℕ)) (cs : List A) → shown_numbers (stored_from day 0 rs (map f cs)) ≡ shown_numbers (stored_from day 0 rs (map g cs))
  shown_alike rs cs =
      ap (λ (bs : List Bool). map shown_number (keep bs (stored_from day 0 rs (map f cs)))) (marks_alike 0 rs cs [])
      ∙ numbers_alike (shown (stored_from day 0 rs (map g cs))) 0 rs cs

-- the rights among those asked, where position and read are asked
pub shown-asked : {A : Type 0} (day : ℕ) (g : A → ℕ) (asked : ℕ) → holds read asked ≡ true → holds position asked ≡ true → (rs : List (List ℕ)) (cs : List A)
    → shown_numbers (stored_from day 0 rs (map (λ a. bit_and (g a) asked) cs)) ≡ shown_numbers (stored_from day 0 rs (map g cs))
shown-asked day g asked hr hp rs cs =
    shown_alike day (λ a. bit_and (g a) asked) g
    (λ a. holds-among read (g a) asked ∙ rw hr (and_yes (holds read (g a))))
    (λ a. holds-among position (g a) asked ∙ rw hp (and_yes (holds position (g a))))
    rs cs
  where
    and_yes : (b : Bool) → b && true ≡ b
    and_yes true = refl
    and_yes false = refl
