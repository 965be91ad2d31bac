-- Staff type labels in either case (document 02, card 6): a line does the same in whatever case a name, the path of a command or a room is typed. Assumes nothing.
use Prim.Native.Nat.{ℕ, ◌+◌}
use mathlib.Core.Bool.{Bool, true, ◌&&◌}
use mathlib.Core.Path.{◌≡◌, refl, sym, ap, ap₂, ◌∙◌}
use mathlib.Core.List.{List, [], ◌∷◌, ◌++◌, map-append}
use native.Mathlib.Omega.{arith}
use borrow.Author.Tests.{le-leb}
use lib.Dec.{leb}
use lib.ListN.{length, length-map}
use Rattle.rights.specs.Bytes.{bytes, all}
use Rattle.rights.specs.Labels.{folded, folded_label, same_label}
use Rattle.rights.specs.Path as path
use Rattle.rights.specs.PathReader.{path_of}
use Rattle.rights.specs.PathText.{write, Within}
use Rattle.rights.proofs.LabelLaws.{folded-cases, same-folded}
use Rattle.rights.proofs.PathComplete.{complete}
use Rattle.guarantee.proofs.AnyCase.{byte_kept, texts_any_case}
use Rattle.forms.specs.declared.layout.Word.{Word}
use Rattle.forms.specs.declared.layout.Word.TheVariants as word
use Rattle.forms.specs.Kind.{Kind}
use Rattle.forms.specs.Text.{line_byte, line_ok}
use Rattle.forms.specs.Layout.{letters, shape_of}
use Rattle.forms.specs.Command.{Values, command, write_value, write_values, written, GoodCommand}
use Rattle.guarantee.proofs.SheetAnyCase.{sheet_any_case}
use Rattle.lines.specs.State.{policy_in}
use Rattle.lines.specs.UserView.{view_in, not_path, marks_in}
use Rattle.lines.specs.Clause.{clause}
use Rattle.lines.proofs.EditTests.{name_any_case}
use Rattle.store.specs.Line.{step}
use Rattle.store.proofs.ClauseLaws.{step-written}

-- the same label, in whatever case
abbrev pub SameLabel : List ℕ → List ℕ → Type 0
SameLabel x y = same_label x y ≡ true

-- the same path, well formed, in whatever case
pub record SamePath (x y : List ℕ) : Type 0 where
  pub left : path.Path
  pub right : path.Path
  pub left-within : Within left
  pub right_within : Within right
  pub left_text : x ≡ write left
  pub right_text : y ≡ write right
  pub letters : SameLabel x y

-- The values of a form where what is compared may be typed in another case: the name of a subject that is declared, the path of a command, a room. What is stored is the same.
abbrev pub SameTyped : (w : Word) → Values (shape_of w) → Values (shape_of w) → Type 0
SameTyped word.Subject (n, _) (m, _) = n ≡ m
SameTyped word.Isa (n, (r, _)) (m, (q, _)) = SameLabel n m × SameLabel r q
SameTyped word.Rule (a, (r, (p, (n, _)))) (b, (q, (o, (m, _)))) = (a ≡ b) × (r ≡ q) × (p ≡ o) × SameLabel n m
SameTyped word.Root (l, _) (k, _) = l ≡ k
SameTyped word.Child (u, _) (v, _) = u ≡ v
SameTyped word.User (n, _) (m, _) = SameLabel n m
SameTyped word.View _ _ = Unit {0}
SameTyped word.Query (p, _) (q, _) = SamePath p q
SameTyped word.Find (p, _) (q, _) = SamePath p q
SameTyped word.Rename (p, (l, _)) (q, (k, _)) = SamePath p q × (l ≡ k)
SameTyped word.Update (p, (l, _)) (q, (k, _)) = SamePath p q × (l ≡ k)
SameTyped word.Append (p, (u, _)) (q, (v, _)) = SamePath p q × (u ≡ v)
SameTyped word.Before (p, (u, _)) (q, (v, _)) = SamePath p q × (u ≡ v)
SameTyped word.After (p, (u, _)) (q, (v, _)) = SamePath p q × (u ≡ v)
SameTyped word.Remove (p, _) (q, _) = SamePath p q
SameTyped word.Sheet (l, _) (k, _) = SameLabel l k
SameTyped word.Day (d, _) (e, _) = d ≡ e
SameTyped word.Window (p, (f, (l, _))) (q, (g, (k, _))) = SamePath p q × (f ≡ g) × (l ≡ k)
SameTyped word.Other _ _ = Unit {0}

-- the same letters in the text of each value
abbrev SameTexts : (ks : List Kind) → Values ks → Values ks → Type 0
SameTexts [] x y = Unit {0}
SameTexts (k ∷ ks) (v, x) (u, y) = (folded_label (write_value k v) ≡ folded_label (write_value k u)) × SameTexts ks x y

-- Its clause is the same, and its line has the same letters.
module _ (s t : List ℕ) where
  module _ {p q : List ℕ} (h : SamePath p q) where
    same-form : not_path (path_of p) ≡ not_path (path_of q)
    same-form = rw (h.left_text, h.right_text, complete h.left h.left-within, complete h.right h.right_within)

    same-marks : marks_in s t p ≡ marks_in s t q
    same-marks = rw (h.left_text, h.right_text) (texts_any_case h.left h.right h.left-within h.right_within (rw (← h.left_text, ← h.right_text) h.letters) _ (view_in s t))

    path-letters : folded_label p ≡ folded_label q
    path-letters = same-folded p q h.letters

  abbrev Same : (w : Word) → Values (shape_of w) → Values (shape_of w) → Type 0
  Same w x y = (clause (command w x) s t ≡ clause (command w y) s t) × SameTexts (shape_of w) x y

  clause_any_case : (w : Word) (x y : Values (shape_of w)) → SameTyped w x y → Same w x y
  unfolding write_value
  clause_any_case word.Subject (n, _) (m, _) e = (rw e, (ap folded_label e, tt))
  clause_any_case word.Isa (n, (r, _)) (m, (q, _)) e = (rw (name_any_case (policy_in s) n m e.0, name_any_case (policy_in s) r q e.1), (same-folded n m e.0, (same-folded r q e.1, tt)))
  clause_any_case word.Rule (a, (r, (p, (n, _)))) (b, (q, (o, (m, _)))) e = (rw (e.0, e.1, e.2, name_any_case (policy_in s) n m e.3), (rw e.0, (rw e.1, (rw e.2, (same-folded n m e.3, tt)))))
  clause_any_case word.Root (l, _) (k, _) e = (rw e, (ap folded_label e, tt))
  clause_any_case word.Child (u, _) (v, _) e = (rw e, (rw e, tt))
  clause_any_case word.User (n, _) (m, _) e = (rw (name_any_case (policy_in s) n m e), (same-folded n m e, tt))
  clause_any_case word.View _ _ e = (refl, tt)
  clause_any_case word.Query (p, _) (q, _) e = (rw (same-form e, same-marks e), (path-letters e, tt))
  clause_any_case word.Find (p, _) (q, _) e = (rw (same-form e, same-marks e), (path-letters e, tt))
  clause_any_case word.Rename (p, (l, _)) (q, (k, _)) e = (rw (same-form e.0, same-marks e.0, e.1), (path-letters e.0, (ap folded_label e.1, tt)))
  clause_any_case word.Update (p, (l, _)) (q, (k, _)) e = (rw (same-form e.0, same-marks e.0, e.1), (path-letters e.0, (ap folded_label e.1, tt)))
  clause_any_case word.Append (p, (u, _)) (q, (v, _)) e = (rw (same-form e.0, same-marks e.0, e.1), (path-letters e.0, (rw e.1, tt)))
  clause_any_case word.Before (p, (u, _)) (q, (v, _)) e = (rw (same-form e.0, same-marks e.0, e.1), (path-letters e.0, (rw e.1, tt)))
  clause_any_case word.After (p, (u, _)) (q, (v, _)) e = (rw (same-form e.0, same-marks e.0, e.1), (path-letters e.0, (rw e.1, tt)))
  clause_any_case word.Remove (p, _) (q, _) e = (rw (same-form e, same-marks e), (path-letters e, tt))
  clause_any_case word.Sheet (l, _) (k, _) e = (rw (sheet_any_case l k e (view_in s t)), (same-folded l k e, tt))
  clause_any_case word.Day (d, _) (c, _) e = (rw e, (ap folded_label e, tt))
  clause_any_case word.Window (p, (f, (l, _))) (q, (g, (k, _))) e =
      (rw (same-form e.0, same-marks e.0, e.1, e.2), (path-letters e.0, (ap folded_label e.1, (ap folded_label e.2, tt))))
  clause_any_case word.Other _ _ e = (refl, tt)

joined : (a b c d : List ℕ) → folded_label a ≡ folded_label c → folded_label b ≡ folded_label d → folded_label (a ++ b) ≡ folded_label (c ++ d)
joined a b c d e f = map-append folded a b ∙ ap₂ ◌++◌ e f ∙ sym (map-append folded c d)

values_text : (ks : List Kind) (x y : Values ks) → SameTexts ks x y → folded_label (write_values ks x) ≡ folded_label (write_values ks y)
values_text [] x y h = refl
values_text (k ∷ ks) (v, x) (u, y) h =
    joined (bytes " ") (write_value k v ++ write_values ks x) (bytes " ") (write_value k u ++ write_values ks y) refl
    (joined (write_value k v) (write_values ks x) (write_value k u) (write_values ks y) h.0 (values_text ks x y h.1))

-- So it is as long, and has bytes of a line where the other has.

byte_of_line : (b : ℕ) → line_byte (folded b) ≡ line_byte b
unfolding line_byte
byte_of_line b =
    folded-cases b
    (λ l h e. rw (e, le-leb 32 (b + 32) (omega arith), le-leb (b + 32) 126 (omega arith), le-leb 32 b (omega arith), le-leb b 126 (omega arith)))
    (λ e. ap line_byte e)

line_any_case : (x y : List ℕ) → folded_label x ≡ folded_label y → line_ok x ≡ line_ok y
unfolding line_ok
line_any_case x y e =
    ap₂ (λ (n : ℕ) (b : Bool). leb n 1024 && b)
    (sym (length-map x folded) ∙ ap length e ∙ length-map y folded)
    (sym (byte_kept line_byte byte_of_line x) ∙ ap (all line_byte) e ∙ byte_kept line_byte byte_of_line y)

text_any_case : (w : Word) (x y : Values (shape_of w)) → SameTexts (shape_of w) x y → folded_label (written (command w x)) ≡ folded_label (written (command w y))
unfolding written
text_any_case w x y h =
    joined (bytes "(") (letters w ++ write_values (shape_of w) x) (bytes "(") (letters w ++ write_values (shape_of w) y) refl
    (joined (letters w) (write_values (shape_of w) x) (letters w) (write_values (shape_of w) y) refl (values_text (shape_of w) x y h))

-- So it is answered alike and leaves the same.
pub typed_any_case : (s t : List ℕ) (room : ℕ) (w : Word) (x y : Values (shape_of w)) → GoodCommand (command w x) → GoodCommand (command w y) → SameTyped w x y
    → step s t (written (command w x)) room ≡ step s t (written (command w y)) room
typed_any_case s t room w x y g h e =
    let same = clause_any_case s t w x y e in
    rw (step-written s t room (command w x) g, step-written s t room (command w y) h, line_any_case (written (command w x)) (written (command w y)) (text_any_case w x y same.1), same.0)
