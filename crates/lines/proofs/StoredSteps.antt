-- Steps that are stored pass the check and are read again. Assumes nothing.
use Prim.Native.Nat.{ℕ, zero, suc, ◌+◌, ◌*◌, ◌<◌}
use mathlib.Core.Path.{◌≡◌, refl, sym, ap, ap₂, ◌∙◌}
use mathlib.Core.Bool.{Bool, true, false, ◌||◌}
use mathlib.Core.List.{List, [], ◌∷◌}
use native.Mathlib.Nat.{not-suc-le-zero, le_of_suc-le-suc}
use native.Mathlib.Omega.{arith}
use lib.ListN.{length, get_or, take, drop}
use Rattle.rights.specs.Bytes.{every}
use Rattle.rights.specs.Labels.{restricted}
use Rattle.rights.specs.Path.{Test, label, any, own}
use Rattle.rights.specs.declared.path.Axis.{Axis}
use Rattle.rights.specs.declared.path.Axis.TheVariants.{Child}
use Rattle.rights.specs.PathText.{write_test, GoodTest}
use Rattle.rights.specs.Policy.{some, uses}
use Rattle.rights.specs.PolicyBytes.{step_of, steps_from}
use Rattle.rights.specs.PolicyCheck.{step_ok}
use Rattle.lines.specs.PolicyEdit.{step_record, step_records}
use Rattle.rights.specs.Table.{rec_at}
use Rattle.rights.specs.Allowed.{AllowedTest}
use Rattle.rights.specs.Held.{join}
use Rattle.rights.proofs.EveryLaws.{every-all}
use Rattle.rights.proofs.HeldStepLaws.{step-length, step_back, step-passes}
use Rattle.rights.proofs.PartLaws.{part_split}
use Rattle.lines.proofs.StoredPaths.{GoodStored, names_restricted_lem}

-- steps that stand at byte b
module _ (q : List ℕ) where
  pub stored_at_lem : (ws : List (Axis × Test)) (b j : ℕ) → j < length ws → GoodStored ws → take (length (step_records ws)) (drop b q) ≡ step_records ws → rec_at q (b + j * 32) ≡ step_record (get_or ws j (Child, any))
  unfolding step_records join GoodStored
  stored_at_lem [] b j h g e = absurd (not-suc-le-zero h)
  stored_at_lem (w ∷ ws) b zero h g e =
      let s = part_split q (step_record w) (step_records ws) b e in
      let z : b + 0 * 32 ≡ b = omega arith in
      rw z (ap (λ (n : ℕ). take n (drop b q)) (sym (step-length w g.0)) ∙ s.0)
  stored_at_lem (w ∷ ws) b (suc j) h g e =
      let s = part_split q (step_record w) (step_records ws) b e in
      let z : b + suc j * 32 ≡ b + length (step_record w) + j * 32 = omega (arith, step-length w g.0) in
      rw z (stored_at_lem ws (b + length (step_record w)) j (le_of_suc-le-suc h) g.1 s.1)

  pub stored-steps : (ws : List (Axis × Test)) (b j : ℕ) → GoodStored ws → take (length (step_records ws)) (drop (b + j * 32) q) ≡ step_records ws → steps_from q b (length ws) j ≡ ws
  unfolding step_records join GoodStored steps_from
  stored-steps [] b j g e = refl
  stored-steps (w ∷ ws) b j g e =
      let s = part_split q (step_record w) (step_records ws) (b + j * 32) e in
      let z : b + j * 32 + length (step_record w) ≡ b + suc j * 32 = omega (arith, step-length w g.0) in
      let r : rec_at q (b + j * 32) ≡ step_record w = ap (λ (n : ℕ). take n (drop (b + j * 32) q)) (sym (step-length w g.0)) ∙ s.0 in
      ap₂ (λ (u : Axis × Test) (v : List (Axis × Test)). u ∷ v)
      (ap step_of r ∙ step_back w g.0)
      (stored-steps ws b (suc j) g.1 (rw z at s.1))

good_at : (ws : List (Axis × Test)) (j : ℕ) → j < length ws → GoodStored ws → GoodTest (get_or ws j (Child, any)).1
unfolding GoodStored
good_at [] j h g = absurd (not-suc-le-zero h)
good_at (w ∷ ws) zero h g = g.0
good_at (w ∷ ws) (suc j) h g = good_at ws j (le_of_suc-le-suc h) g.1

pub or-none : (a b : Bool) → a || b ≡ false → (a ≡ false) × (b ≡ false)
or-none true b e = absurd (let z : ◌≡◌ {A = ℕ} 0 1 = cc in omega arith)
or-none false b e = (refl, e)

none_at : (f : Axis × Test → Bool) (ws : List (Axis × Test)) (j : ℕ) → j < length ws → some f ws ≡ false → f (get_or ws j (Child, any)) ≡ false
unfolding some
none_at f [] j h e = absurd (not-suc-le-zero h)
none_at f (w ∷ ws) zero h e = (or-none (f w) (some f ws) e).0
none_at f (w ∷ ws) (suc j) h e = none_at f ws j (le_of_suc-le-suc h) (or-none (f w) (some f ws) e).1

-- a step that may be written and does not name RESTRICTED may be held
allowed : (w : Axis × Test) → GoodTest w.1 → uses false restricted w ≡ false → AllowedTest w.1
unfolding GoodTest write_test
allowed (a, label l) g u = record { some = g.0; short = g.1; bytes = g.2; free = sym (names_restricted_lem (a, label l)) ∙ u }
allowed (a, any) g u = tt
allowed (a, own) g u = tt

pub steps_pass : (q : List ℕ) (ws : List (Axis × Test)) (b : ℕ) → GoodStored ws → some (uses false restricted) ws ≡ false → take (length (step_records ws)) (drop b q) ≡ step_records ws → every (λ j. step_ok q (b + j * 32)) (length ws) ≡ true
steps_pass q ws b g u e =
    every-all (λ j. step_ok q (b + j * 32)) (length ws) λ j h.
    step-passes q (b + j * 32) (get_or ws j (Child, any)) (stored_at_lem q ws b j h g e) (allowed (get_or ws j (Child, any)) (good_at ws j h g) (none_at (uses false restricted) ws j h u))
