-- The places at which the reader of a line stands, and what it leaves in the area (document 01: "A line is read left to right from a place that only moves on"). Assumes nothing.
use Rattle.std.specs.Prelude.{Some}
use Prim.Native.Nat.{ℕ, suc, ◌+◌, ◌-◌, ◌<◌}
use mathlib.Core.Path.{◌≡◌, refl, sym, ap, ◌∙◌}
use mathlib.Core.Bool.{true, false}
use mathlib.Core.List.{List, [], ◌∷◌, ◌++◌, append-nil}
use mathlib.Core.Logic.{◌⊎◌, inl, inr}
use native.Mathlib.Omega.{arith}
use lib.Dec.{eqb}
use lib.ListN.{length, take, drop, length-drop, take-append-drop}
use lib.Seq.{drop-drop}
use borrow.Author.Tests.{eqb-true}
use Rattle.rights.specs.Bytes.{byte_at}
use Rattle.rights.specs.Labels.{label_byte}
use Rattle.rights.specs.Nodes.{Node}
use Rattle.rights.specs.Record.{pasted}
use Rattle.rights.proofs.ListLaws.{by_case, rest_of}
use Rattle.rights.proofs.RecordLaws.{pasted-none}
use Rattle.forms.specs.Part.{run_end}
use Rattle.forms.specs.Kind.{Kind, Label, Path, Tree, Sign, Right, Day, is_tree, part_end}
use Rattle.forms.specs.Layout.{shape_of, word_at}
use Rattle.forms.specs.Tree.{records_of}
use Rattle.forms.specs.Form.{Held, nodes_or, Places, are, none, ◌onTo◌, one_part, parts_of, place_in, no_form, held_at, all_held_at, ends_in, read_form, nodes_held, tree_in}
use Rattle.forms.specs.How.Codes.{area_by}
use Rattle.forms.specs.How.Reader.{area_after, area_in, Whole, Rises, between, Once}
use Rattle.forms.specs.declared.reader.Progress.{Progress}
use Rattle.forms.specs.Command.{Values, write_value, write_values, Command, GoodCommand, written}
use Rattle.forms.proofs.FormLaws.{none_form}
use Rattle.forms.proofs.FormTextLaws.{tree_last, word_law, never_are, then_elim, places_of, places_in, end_of, part_after, after_word, form_complete, command_or_none}

-- What parts that are there say of the places

abbrev list_of : Places → List ℕ
list_of (are es) = es
list_of none = []

onto_is : (xs : List ℕ) (p : Places) (es : List ℕ) → xs onTo p ≡ are es → (ys : List ℕ) × (p ≡ are ys) × (es ≡ xs ++ ys)
onto_is xs (are ys) es q = (ys, refl, sym (ap list_of q))
onto_is xs none es q = never_are q

one_is : (k : Kind) (s : List ℕ) (at e : ℕ) → one_part k s at ≡ Some e → (byte_at s at ≡ 32) × (part_end k s (at + 1) ≡ Some e)
one_is k s at e q =
    by_case (eqb (byte_at s at) 32)
    (λ b. (eqb-true _ _ b, rw b at q))
    (λ b. absurd (let z = rw b at q in let y : ◌≡◌ {A = ℕ} 0 1 = cc in omega arith))

-- The area: a tree is the last part, so its records are the only ones that were put

held_later : (ks : List Kind) (s : List ℕ) (i x : ℕ) (ys : List ℕ) → all_held_at ks s (place_in (x ∷ ys)) (suc i) ≡ all_held_at ks s (place_in ys) i
held_later [] s i x ys = refl
held_later (k ∷ ks) s i x ys = ap (λ hs. (held_at k s (place_in ys i) (place_in ys (suc i)), hs)) (held_later ks s (suc i) x ys)

tree_later : (k : Kind) → is_tree k ≡ false → (ks : List Kind) → tree_last (k ∷ ks) ≡ true → tree_last ks ≡ true
tree_later k n [] l = refl
tree_later k n (j ∷ ks) l = rw n at l

module _ (s a : List ℕ) where
  abbrev Put : List Kind → ℕ → List ℕ → Type 0
  Put ks at es = area_after ks s at a ≡ pasted a 0 (records_of (nodes_held ks (all_held_at ks s (place_in es) 0)))

  abbrev PutNext : Kind → Type 0
  PutNext k =
      (ks : List Kind) (at e : ℕ) (ys : List ℕ) → tree_last (k ∷ ks) ≡ true → byte_at s at ≡ 32 → part_end k s (at + 1) ≡ Some e → (tree_last ks ≡ true → Put ks e ys) → Put (k ∷ ks) at (at ∷ ys)

  put_tree : PutNext Tree
  unfolding area_after area_by records_of
  put_tree [] at e ys l b q ih = rw (b, q)
  put_tree (j ∷ ks) at e ys l b q ih = absurd (let z : ◌≡◌ {A = ℕ} 0 1 = cc in omega arith)

  -- a part that is no tree puts nothing
  put_later : (k : Kind) → is_tree k ≡ false → ((h : Held k) (ns : List Node) → nodes_or k h ns ≡ ns) → PutNext k
  unfolding area_after area_by
  put_later k n o ks at e ys l b q ih = rw (b, q, n, o, held_later ks s 0 at ys) (ih (tree_later k n ks l))

  put_next : (k : Kind) → PutNext k
  put_next Label = put_later Label refl (λ h ns. refl)
  put_next Path = put_later Path refl (λ h ns. refl)
  put_next Tree = put_tree
  put_next Sign = put_later Sign refl (λ h ns. refl)
  put_next Right = put_later Right refl (λ h ns. refl)
  put_next Day = put_later Day refl (λ h ns. refl)

  parts_put : (ks : List Kind) (at : ℕ) (es : List ℕ) → tree_last ks ≡ true → parts_of ks s at ≡ are es → Put ks at es
  unfolding parts_of area_after records_of
  parts_put [] at es l = λ q. pasted-none a 0
  parts_put (k ∷ ks) at es l =
      then_elim (one_part k s at) _ λ e o q.
      let x = onto_is (at ∷ []) (parts_of ks s e) es q in
      let y = one_is k s at e o in
      rw x.2 (put_next k ks at e x.0 l y.0 y.1 (λ m. parts_put ks e x.0 m x.1))

  area_read : (es : List ℕ) → ends_in s ≡ are es → area_in s a ≡ pasted a 0 (records_of (tree_in (read_form s)))
  unfolding ends_in area_in read_form
  area_read es q =
      by_case (eqb (byte_at s 0) 40)
      (λ b. let r = rw b at q in then_elim (run_end label_byte s 1) _ (λ e o p. rw (b, o, p) (parts_put (shape_of (word_at s 1)) e es (word_law (word_at s 1)).tree_last_lem p)) r)
      (λ b. never_are (rw b at q))

  -- the area of a line that is a form has the records of its tree, and nothing else was put
  pub area_form : (read_form s ≡ no_form → ⊥) → area_in s a ≡ pasted a 0 (records_of (tree_in (read_form s)))
  area_form n = go (ends_in s) refl
    where
      go : (r : Places) → ends_in s ≡ r → area_in s a ≡ pasted a 0 (records_of (tree_in (read_form s)))
      go (are es) q = area_read es q
      go none q = absurd (n (sym (none_form s q)))

-- Each byte of a line that is a form is passed once

rises_parts : (ks : List Kind) (vs : Values ks) (s : List ℕ) (at a : ℕ) → drop at s ≡ write_values ks vs → a < at → Rises a (places_of at ks vs ++ (length s ∷ []))
unfolding Rises
rises_parts [] vs s at a e l = (l, (omega (arith, sym (length-drop at s) ∙ ap length e), tt))
rises_parts (k ∷ ks) (v, vs) s at a e l =
    (l, rises_parts ks vs s (at + 1 + length (write_value k v)) at (part_after k v s at (write_values ks vs) e).1 (omega arith))

bytes-between : (s es : List ℕ) (a : ℕ) → Rises a (es ++ (length s ∷ [])) → between s a (es ++ (length s ∷ [])) ≡ drop a s
unfolding Rises between
bytes-between s [] a r = append-nil (take (length s - a) (drop a s)) ∙ rest_of s a
bytes-between s (b ∷ es) a r =
    let z : a + (b - a) ≡ b = omega (arith, r.0) in
    ap (λ (v : List ℕ). take (b - a) (drop a s) ++ v) (bytes-between s es b r.1 ∙ sym (drop-drop (b - a) a s ∙ ap (λ (n : ℕ). drop n s) z)) ∙ take-append-drop (b - a) (drop a s)

pub places_once : (s es : List ℕ) → ends_in s ≡ are es → (read_form s ≡ no_form → ⊥) → Once s es
places_once s es q n = go (command_or_none s)
  where
    go : (read_form s ≡ no_form) ⊎ ((f : Command) × GoodCommand f × (s ≡ written f)) → Once s es
    go (inl e) = absurd (n e)
    go (inr x) =
        let f : Command = x.0 in
        let y : es ≡ places_in f = ap list_of (sym q ∙ ap ends_in x.2 ∙ (form_complete f x.1).ends) in
        let r : Rises 0 (es ++ (length s ∷ [])) = rw (y, x.2) (rises_parts (shape_of f.word) f.values (written f) (end_of f) 0 (after_word f) (omega arith)) in
        record { rises = r; bytes = bytes-between s es 0 r }

-- "a place that only moves on": so it is with the places at which the reader stood
pub reader_once : (s : List ℕ) (p : Progress) (w : Whole s p) → (read_form s ≡ no_form → ⊥) → Once s w.places
reader_once s p w n = places_once s w.places w.read n
