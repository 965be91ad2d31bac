-- A reader's parts: what is had before a part gives what is had after it. Assumes nothing.
use Prim.Native.Nat.{ℕ, ◌+◌}
use mathlib.Core.Path.{◌≡◌, ◌∙◌}
use mathlib.Core.List.{List}
use native.Mathlib.Omega.{arith}
use native.Mathlib.Numerals.{add-one}
use lib.ListN.{length}
use Rattle.std.specs.Prelude.{Option, Some, None}
use Rattle.rights.proofs.ListLaws.{by_case}
use Rattle.forms.specs.declared.reader.Progress.{Progress}
use Rattle.forms.specs.Form.{closes_line}
use Rattle.forms.specs.How.Reader.{Came, Reading, Begun, Moves, Walks, area_in, area_from, shut_at}
use Rattle.forms.proofs.FormLaws.{line_closed, line_unclosed, area_four}

-- i parts were passed, where the area was a at first and is b now
pub record Walked (s a : List ℕ) (i : ℕ) (p : Progress) (b : List ℕ) : Type 0 where
  pub reading : Reading s i p
  pub size : length b ≡ length a
  pub area : area_in s a ≡ area_from s i (Some p) b

-- what a walk comes to
abbrev pub WalkedTo : List ℕ → List ℕ → Option Progress → List ℕ → Type 0
WalkedTo s a r b = Walks s r × (area_in s a ≡ b)

pub walk_starts : (s a : List ℕ) (p : Progress) → Begun s (Some p) → Walked s a 0 p a
walk_starts s a p b = record { reading = b.came; size = omega arith; area = b.area a }

module _ {s a : List ℕ} {i : ℕ} {p : Progress} {b : List ℕ} (w : Walked s a i p b) where
  pub walk_on : (q : Progress) (c : List ℕ) → Came s (i + 1) (Some q) × Moves s i p b (Some q) c → length c ≡ length b → Walked s a (i + 1) q c
  walk_on q c h l = record { reading = h.0; size = l ∙ w.size; area = rw (add-one i) (w.area ∙ h.1.area) }

  pub walk_stops : (c : List ℕ) → Came s (i + 1) None × Moves s i p b None c → WalkedTo s a None c
  walk_stops c h = (h.0, w.area ∙ h.1.area)

pub walk_ends : (s a : List ℕ) (p : Progress) (b : List ℕ) → Walked s a 4 p b → (r : Option Progress) → r ≡ shut_at s p → WalkedTo s a r b
walk_ends s a p b w r e =
    let area = w.area ∙ area_four s p w.reading b in
    by_case (closes_line s p.at) (λ c. rw (e, c) (line_closed s p w.reading c, area)) (λ c. rw (e, c) (line_unclosed s p w.reading c, area))
