-- The own checks of each form fail exactly if their conditions in the paper's words hold. Assumes nothing.
use Prim.Native.Nat.{ℕ, ◌≤◌, ◌<◌}
use mathlib.Core.Path.{◌≡◌, ap}
use mathlib.Core.Bool.{Bool, true, false, not, ◌||◌, and-false}
use mathlib.Core.List.{List, ◌++◌}
use mathlib.Core.Logic.{◌⊎◌, inl, inr, ⊎_elim, ◌↔◌}
use native.Mathlib.Omega.{arith}
use Rattle.rights.specs.Labels.{same_label, restricted}
use Rattle.rights.specs.Policy.{policy_word}
use Rattle.rights.specs.Table.{count, day_ok, window_ok}
use Rattle.rights.specs.Tree.{Tree}
use borrow.Author.Tests.{leb-false, lt-leb, not-true}
use lib.Dec.{leb}
use Rattle.rights.proofs.BoolLaws.{or_left, or_right, or_split}
use Rattle.rights.proofs.ListLaws.{by_case}
use Rattle.views.specs.Change.{free}
use Rattle.views.specs.declared.insert.Place.{Place}
use Rattle.views.specs.declared.insert.Place.TheVariants as place
use Rattle.forms.specs.TreeText.{GoodTree}
use Rattle.forms.specs.declared.layout.Word.{Word}
use Rattle.forms.specs.declared.layout.Word.TheVariants as word
use Rattle.forms.specs.Layout.{stage_of, shape_of}
use Rattle.forms.specs.Command.{Values, command, GoodValue, GoodCommand}
use Rattle.lines.specs.Refusal.{Check}
use Rattle.lines.specs.State.{stage_c, user_byte, policy_bytes, policy_in, store_ok}
use Rattle.lines.specs.Work.{on_view, work_insert}
use Rattle.lines.proofs.StateLaws.{store_held}
use Rattle.lines.specs.Clause.{size_of, tree_bytes, clause}
use Rattle.lines.specs.Conditions.{Conditions, typed_day, NoDay, path_rows, insert_rows, rows}
use Rattle.lines.proofs.ConditionLaws.{Tells}
use Rattle.lines.proofs.NameRows.{less_told, equal_told, path_told, bracket_told, restricted-told, unknown_told, declared_told, before-told, repeated_told, subjects_told, isa_told, rules_told}
use Rattle.lines.proofs.TreeRows.{tree_told, place_told, places_room_told, child_told, child_room_told}

same : {A : Type 0} → A ↔ A
same = (λ x. x, λ x. x)

or-told : (a b : Bool) → ((a ≡ true) ⊎ (b ≡ true)) ↔ (a || b ≡ true)
or-told a b = (⊎_elim (or_left a b) (or_right a b), λ e. or_split a b e inl inr)

-- 15: a number that is no day of the year, and two that are no window
no_day : (d : ℕ) → ((d < 1) ⊎ (366 < d)) ↔ (not (day_ok d) ≡ true)
no_day d = (
  ⊎_elim (λ h. rw (lt-leb 1 d h)) (λ h. simp (lt-leb d 366 h, and-false)),
  λ e. by_case (leb 1 d) (λ a. inr (leb-false d 366 (rw a at (not-true (day_ok d) e)))) (λ a. inl (leb-false 1 d a)),
)

day_told : (d : List ℕ) → NoDay d ↔ (not (day_ok (typed_day d)) ≡ true)
day_told d = no_day (typed_day d)

no_day_here : (d : List ℕ) → NoDay d → day_ok (typed_day d) ≡ false
no_day_here d h = not-true (day_ok (typed_day d)) ((day_told d).0 h)

window-told : (f l : List ℕ) → (NoDay f ⊎ NoDay l ⊎ (typed_day l < typed_day f)) ↔ (not (window_ok (typed_day f) (typed_day l)) ≡ true)
window-told f l = (
  ⊎_elim (λ h. rw (no_day_here f h)) (⊎_elim (λ h. simp (no_day_here l h, and-false)) (λ h. simp (lt-leb (typed_day f) (typed_day l) h, and-false))),
  λ e.
      by_case (day_ok (typed_day f))
      (λ a.
      by_case (day_ok (typed_day l))
      (λ b. inr (inr (leb-false (typed_day f) (typed_day l) (rw (a, b) at (not-true (window_ok (typed_day f) (typed_day l)) e)))))
      (λ b. inr (inl ((day_told l).1 (ap not b)))))
      (λ a. inl ((day_told f).1 (ap not a))),
)

module _ (s t : List ℕ) (L : Conditions) (ls : List Check) where
  path_tells : (p : List ℕ) → Tells L ls → Tells (path_rows s t p ++ L) (on_view p s ++ ls)
  path_tells p w = (path_told p, λ _. (equal_told (user_byte s) 0, λ _. w))

  insert_tells : (at : Place) (p : List ℕ) (u : Tree) → GoodTree u → Tells L ls → Tells (insert_rows s t at p u ++ L) ((work_insert at s t p (size_of u) (tree_bytes u)).checks ++ ls)
  insert_tells at p u g w =
      (path_told p, λ _. (equal_told (user_byte s) 0, λ _. (tree_told u g, λ _. (place_told s t u g at p, λ _. (places_room_told s t u g at p, λ _. w)))))

  -- the own checks of each form beside its own rows
  pub own_tells : (w : Word) (vs : Values (shape_of w)) → GoodCommand (command w vs) → store_ok s t ≡ true → (stage_c < stage_of w → 1 ≤ count t) → Tells L ls
      → Tells (rows s t (command w vs) ++ L) ((clause (command w vs) s t).checks ++ ls)
  unfolding GoodValue
  own_tells word.Subject (n, tt) g ok h w = (declared_told (policy_in s) n, λ _. (subjects_told (policy_bytes s), λ _. (same, λ _. w)))
  own_tells word.Isa (n, (r, tt)) g ok h w =
      let p = (store_held s t ok).policy in (
        unknown_told (policy_in s) n,
        λ kn. (unknown_told (policy_in s) r, λ kr. (before-told (policy_bytes s) p n r kn kr, λ _. (repeated_told (policy_bytes s) p n r kn kr, λ _. (isa_told (policy_bytes s), λ _. w)))),
      )
  own_tells word.Rule (a, (r, (p, (n, tt)))) g ok h w =
      (path_told p, λ _. (unknown_told (policy_in s) n, λ _. (bracket_told p, λ _. (rules_told (policy_bytes s), λ _. (restricted-told p, λ _. w)))))
  own_tells word.Root (l, tt) g ok h w = (same, λ _. (less_told (free t) 1, λ _. w))
  own_tells word.Child (u, tt) g ok h w =
      let k = (store_held s t ok).table in
      let r = h (omega arith) in
      (tree_told u g.values.0, λ _. (child_told s t u g.values.0 k r, λ _. (child_room_told s t u g.values.0 k r, λ _. w)))
  own_tells word.User (n, tt) g ok h w = (unknown_told (policy_in s) n, λ _. w)
  own_tells word.View tt g ok h w = (equal_told (user_byte s) 0, λ _. w)
  own_tells word.Query (p, tt) g ok h w = path_tells p w
  own_tells word.Find (p, tt) g ok h w = path_tells p w
  own_tells word.Rename (p, (l, tt)) g ok h w = (path_told p, λ _. (equal_told (user_byte s) 0, λ _. (or-told (same_label l restricted) (policy_word (policy_in s) l), λ _. w)))
  own_tells word.Update (p, (l, tt)) g ok h w = (path_told p, λ _. (equal_told (user_byte s) 0, λ _. (or-told (same_label l restricted) (policy_word (policy_in s) l), λ _. w)))
  own_tells word.Append (p, (u, tt)) g ok h w = insert_tells place.Append p u g.values.1.0 w
  own_tells word.Before (p, (u, tt)) g ok h w = insert_tells place.Before p u g.values.1.0 w
  own_tells word.After (p, (u, tt)) g ok h w = insert_tells place.After p u g.values.1.0 w
  own_tells word.Remove (p, tt) g ok h w = path_tells p w
  own_tells word.Sheet (l, tt) g ok h w = (equal_told (user_byte s) 0, λ _. w)
  own_tells word.Day (d, tt) g ok h w = (day_told d, λ _. w)
  own_tells word.Window (p, (f, (l, tt))) g ok h w = (path_told p, λ _. (equal_told (user_byte s) 0, λ _. (window-told f l, λ _. w)))
  own_tells word.Other tt g ok h w = absurd (omega (arith, g.word))
