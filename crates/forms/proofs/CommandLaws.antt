-- A command that is written is read as its own form with its own values. Assumes nothing.
use Prim.Native.Nat.{ℕ, suc, ◌+◌, ◌-◌, ◌≤◌}
use mathlib.Core.Path.{◌≡◌, refl, sym, ap, ap₂, ◌∙◌}
use mathlib.Core.List.{List, [], ◌∷◌, ◌++◌}
use native.Mathlib.Omega.{arith}
use lib.ListN.{length, drop, length-append, length-drop}
use lib.Seq.{take_at}
use Rattle.forms.specs.Kind.{Kind, Label, Path, Tree, Sign, Right, Day}
use Rattle.forms.specs.Layout.{shape_of}
use Rattle.forms.specs.Form.{part_bytes, place_in, held_at, all_held_at, read_form}
use Rattle.forms.specs.Command.{Value, Values, Command, write_value, write_values, written, GoodValue, GoodValues, GoodCommand, held_of, all_held_of, form_of}
use Rattle.forms.proofs.TreeTextLaws.{tree_complete}
use Rattle.forms.proofs.FormTextLaws.{sign_reads, right_reads, day_reads, part_after, values_stop, places_of, places_in, end_of, after_word, written_form}

-- The part of kind k at place a, after a space: it stands within the line and holds what it says, and the parts ks follow it
pub record PartSaid (s : List ℕ) (a : ℕ) (k : Kind) (v : Value k) (ks : List Kind) (vs : Values ks) : Type 0 where
  pub inside : a + 1 + length (write_value k v) ≤ length s
  pub holds : part_bytes s a (a + 1 + length (write_value k v)) ≡ write_value k v
  pub follows : drop (a + 1) s ≡ write_value k v ++ write_values ks vs

part_said : (s : List ℕ) (a : ℕ) (k : Kind) (v : Value k) (ks : List Kind) (vs : Values ks) → drop a s ≡ write_values (k ∷ ks) (v, vs) → PartSaid s a k v ks vs
part_said s a k v ks vs e =
    let d = part_after k v s a (write_values ks vs) e in
    let z : a + 1 + length (write_value k v) - (a + 1) ≡ length (write_value k v) = omega arith in
    record {
      inside = omega (arith, length-drop a s, ap length e, length-append (write_value k v) (write_values ks vs));
      holds = rw (z, d.0) (take_at (write_value k v) (write_values ks vs) (length (write_value k v)) refl);
      follows = d.0;
    }

-- The places of a shape's parts begin with the place before the first
first_place : (a : ℕ) (ks : List Kind) (vs : Values ks) → place_in (places_of a ks vs) 0 ≡ a
first_place a [] vs = refl
first_place a (k ∷ ks) vs = refl

-- what is held of a part is what it says
part_held : (s : List ℕ) (a : ℕ) (k : Kind) (v : Value k) (ks : List Kind) (vs : Values ks) → GoodValue k v → PartSaid s a k v ks vs
    → held_at k s a (a + 1 + length (write_value k v)) ≡ held_of k v
unfolding write_value GoodValue
part_held s a Label v ks vs g h = h.holds
part_held s a Path v ks vs g h = h.holds
part_held s a Tree v ks vs g h = (tree_complete s (a + 1) v (write_values ks vs) g h.follows).1
part_held s a Sign v ks vs g h = (sign_reads s (a + 1) v (write_values ks vs) h.follows (values_stop ks vs).no_label).1
part_held s a Right v ks vs g h = (right_reads s (a + 1) v (write_values ks vs) h.follows (values_stop ks vs).no_label).1
part_held s a Day v ks vs g h = day_reads s (a + 1) v (write_values ks vs) g h.follows (values_stop ks vs).no_digit

all_held : (ks : List Kind) (vs : Values ks) → GoodValues ks vs → (s : List ℕ) (a : ℕ) → drop a s ≡ write_values ks vs
    → (e : ℕ → ℕ) (i : ℕ) → ((j : ℕ) → e (i + j) ≡ place_in (places_of a ks vs) j) → all_held_at ks s e i ≡ all_held_of ks vs
all_held [] vs g s a d e i h = refl
all_held (k ∷ ks) (v, vs) g s a d e i h =
    let b : ℕ = a + 1 + length (write_value k v) in
    let z : i + 0 ≡ i = omega arith in
    let y : suc i ≡ i + 1 = omega arith in
    let next : (j : ℕ) → e (suc i + j) ≡ place_in (places_of b ks vs) j = λ j. let x : suc i + j ≡ i + suc j = omega arith in ap e x ∙ h (suc j) in
    ap₂ (λ x xs. (x, xs))
    (ap₂ (held_at k s) (ap e (sym z) ∙ h 0) (ap e y ∙ h 1 ∙ first_place b ks vs) ∙ part_held s a k v ks vs g.0 (part_said s a k v ks vs d))
    (all_held ks vs g.1 s b (part_after k v s a (write_values ks vs) d).1 e (suc i) next)

-- A good command, written, is read as its form with its values.
pub written_read : (c : Command) → GoodCommand c → read_form (written c) ≡ form_of c
written_read c g =
    written_form c g
    ∙ ap (λ ps. record { word = c.word; parts = ps })
    (all_held (shape_of c.word) c.values g.values (written c) (end_of c) (after_word c) (place_in (places_in c)) 0
    (λ j. let z : 0 + j ≡ j = omega arith in ap (place_in (places_in c)) z))
