-- What is read as a form is what is written as one; every other line is no form (refusal 2). Assumes nothing.
use Rattle.std.specs.Prelude.{Option, Some, None}
use Prim.Native.Nat.{ℕ, ◌+◌, ◌≤◌, ◌<◌}
use mathlib.Core.Path.{◌≡◌, refl, sym, ap, subst, fun_ext, ◌∙◌}
use mathlib.Core.List.{List, [], ◌∷◌, ◌++◌, map}
use mathlib.Core.Bool.{Bool, true, false, cond, ◌&&◌, beq}
use mathlib.Core.Logic.{◌⊎◌, inl, inr, ◌↔◌}
use native.Mathlib.Omega.{arith}
use lib.Dec.{T, eqb, leb}
use lib.ListN.{length, get_or, take, drop, length-drop, drop_of_length-le}
use lib.Seq.{drop-append_seam, take-append_seam}
use borrow.Author.Tests.{le-leb, lt-leb, leb-true, eqb-true, eqb-false}
use Rattle.rights.specs.Limits.{label_max}
use Rattle.rights.specs.Bytes.{byte_at, all, digit_byte}
use Rattle.rights.specs.Labels.{label_byte}
use Rattle.rights.specs.Policy.{Right, position, read, insert, update, delete, bit_of}
use Rattle.rights.specs.PathReader.{run_at, number_of}
use Rattle.rights.proofs.PathTexts.{and_left, and_right, cond_elim, Reads, reads_byte, reads_take, run-all, run_length, run_over, byte_here}
use Rattle.forms.specs.declared.layout.Word.{Word}
use Rattle.forms.specs.declared.layout.Word.TheVariants as word
use Rattle.forms.specs.Word.{accept, deny, signs, rights, same_text, among, label_bytes_at, sign_at, right_at}
use Rattle.rights.proofs.RangeLaws.{on_range, beq_eq, lt_or_ge}
use Rattle.forms.specs.Text.{line_byte}
use Rattle.forms.specs.Part.{path_byte, label_end, day_digits, day_end, day_at, run_end, known_end}
use Rattle.forms.specs.Kind.{Kind, Label, Path, Tree, Sign, Right as RightKind, Day, is_tree, part_end}
use Rattle.forms.specs.Tree.{◌and_then◌}
use Rattle.forms.specs.Layout.{no_stage, stage_of, letters, shape_of, form_words, words, word_at}
use Rattle.forms.specs.Form.{one_part, Places, are, none, ◌onTo◌, closes_line, parts_of, place_in, ReadForm, no_form, form_at, ends_in, read_form}
use Rattle.forms.specs.Command.{Value, Values, Command, command, write_right, write_value, write_values, written, run_byte, GoodDay, GoodValue, GoodValues, GoodCommand}
use Rattle.forms.proofs.WordLaws.{word_text, word_texts, Every, among-is, among-or}
use Rattle.forms.proofs.TreeTextLaws.{drop_over, short_reads, short_sound, label_reads, tree_complete, tree_sound, tree_unique, label_unique}

-- A form that is written is read

-- after a part stands a space or `)`
pub record Stops (r : List ℕ) : Type 0 where
  pub no_label : label_byte (get_or r 0 0) ≡ false
  pub no_path : path_byte (get_or r 0 0) ≡ false
  pub no_digit : digit_byte (get_or r 0 0) ≡ false

pub values_stop : (ks : List Kind) (vs : Values ks) → Stops (write_values ks vs)
unfolding label_byte path_byte digit_byte
values_stop [] vs = record { no_label = refl; no_path = refl; no_digit = refl }
values_stop (k ∷ ks) (v, vs) = record { no_label = refl; no_path = refl; no_digit = refl }

-- a byte of a path is one that the reader takes for one
path_byte_lem : (b : ℕ) → path_byte b ≡ run_byte b
unfolding path_byte run_byte line_byte
path_byte_lem b = go (lt_or_ge b 127)
  where
    go : (b < 127) ⊎ (127 ≤ b) → path_byte b ≡ run_byte b
    go (inl h) = beq_eq (path_byte b) (run_byte b) (subst T (on_range (λ a. beq (path_byte a) (run_byte a)) true 0 127 tt b (omega arith) (omega arith)) tt)
    go (inr h) = rw (le-leb 33 b (omega arith), le-leb 42 b (omega arith), le-leb 32 b (omega arith), lt-leb b 39 (omega arith), lt-leb b 126 (omega arith))

runs_same : (p : List ℕ) → all path_byte p ≡ all run_byte p
runs_same p = ap (λ f. all f p) (fun_ext path_byte_lem)

module _ (s : List ℕ) (at : ℕ) where
  -- bytes of a class that something else follows
  run_at_lem : (f : ℕ → Bool) (w r : List ℕ) → all f w ≡ true → drop at s ≡ w ++ r → f (get_or r 0 0) ≡ false → (take (run_at f s at) (drop at s) ≡ w) × (run_at f s at ≡ length w)
  run_at_lem f w r g e h =
      let q : run_at f s at ≡ length w = rw e (run_over f w r g h) in
      (rw (q, e) (take-append_seam w r), q)

  run_reads : (f : ℕ → Bool) (w r : List ℕ) → 1 ≤ length w → all f w ≡ true → drop at s ≡ w ++ r → f (get_or r 0 0) ≡ false → run_end f s at ≡ Some (at + length w)
  unfolding run_end
  run_reads f w r l g e h =
      rw ((run_at_lem f w r g e h).1, le-leb 1 (length w) l)

  pub sign_reads : (b : Bool) (r : List ℕ) → drop at s ≡ cond b accept deny ++ r → label_byte (get_or r 0 0) ≡ false → (known_end (sign_at s at) s at ≡ Some (at + length (cond b accept deny))) × (eqb (sign_at s at) 1 ≡ b)
  unfolding known_end sign_at among same_text label_byte all
  sign_reads true r e h = let q = run_at_lem label_byte accept r refl e h in (rw q.0 (run_reads label_byte accept r (omega arith) refl e h), rw q.0)
  sign_reads false r e h = let q = run_at_lem label_byte deny r refl e h in (rw q.0 (run_reads label_byte deny r (omega arith) refl e h), rw q.0)

  pub right_reads : (a : Right) (r : List ℕ) → drop at s ≡ write_right a ++ r → label_byte (get_or r 0 0) ≡ false → (known_end (right_at s at) s at ≡ Some (at + length (write_right a))) × (right_at s at ≡ bit_of a)
  unfolding known_end right_at among same_text label_byte all write_right
  right_reads position r e h = let q = run_at_lem label_byte (write_right position) r refl e h in (rw q.0 (run_reads label_byte (write_right position) r (omega arith) refl e h), rw q.0)
  right_reads read r e h = let q = run_at_lem label_byte (write_right read) r refl e h in (rw q.0 (run_reads label_byte (write_right read) r (omega arith) refl e h), rw q.0)
  right_reads insert r e h = let q = run_at_lem label_byte (write_right insert) r refl e h in (rw q.0 (run_reads label_byte (write_right insert) r (omega arith) refl e h), rw q.0)
  right_reads update r e h = let q = run_at_lem label_byte (write_right update) r refl e h in (rw q.0 (run_reads label_byte (write_right update) r (omega arith) refl e h), rw q.0)
  right_reads delete r e h = let q = run_at_lem label_byte (write_right delete) r refl e h in (rw q.0 (run_reads label_byte (write_right delete) r (omega arith) refl e h), rw q.0)

  pub day_reads : (d r : List ℕ) → GoodDay d → drop at s ≡ d ++ r → digit_byte (get_or r 0 0) ≡ false → day_at s at ≡ number_of 0 d
  unfolding day_at
  day_reads d r g e h = let q = run_at_lem digit_byte d r g.2 e h in rw (q.0, q.1, le-leb (length d) day_digits g.1)

  value_reads : (k : Kind) (v : Value k) (r : List ℕ) → GoodValue k v → drop at s ≡ write_value k v ++ r → Stops r → part_end k s at ≡ Some (at + length (write_value k v))
  unfolding day_end GoodValue write_value
  value_reads Label l r g e h = label_reads s at l r g e h.no_label
  value_reads Path p r g e h = run_reads path_byte p r g.0 (runs_same p ∙ g.1) e h.no_path
  value_reads Tree t r g e h = (tree_complete s at t r g e).0
  value_reads Sign b r g e h = (sign_reads b r e h.no_label).0
  value_reads RightKind a r g e h = (right_reads a r e h.no_label).0
  value_reads Day d r g e h = short_reads s at digit_byte day_digits d r g e h.no_digit

-- the places after the word, which ends at a place, and after each part
abbrev pub places_of : ℕ → (ks : List Kind) → Values ks → List ℕ
places_of at [] vs = at ∷ []
places_of at (k ∷ ks) (v, vs) = at ∷ places_of (at + 1 + length (write_value k v)) ks vs

-- a part and what follows it
pub part_after : (k : Kind) (v : Value k) (s : List ℕ) (at : ℕ) (r : List ℕ) → drop at s ≡ 32 ∷ (write_value k v ++ r) → (drop (at + 1) s ≡ write_value k v ++ r) × (drop (at + 1 + length (write_value k v)) s ≡ r)
part_after k v s at r e = let d = drop_over s at (32 ∷ []) (write_value k v ++ r) e in (d, drop_over s (at + 1) (write_value k v) r d)

parts_complete : (ks : List Kind) (vs : Values ks) → GoodValues ks vs → (s : List ℕ) (at : ℕ) → drop at s ≡ write_values ks vs → parts_of ks s at ≡ are (places_of at ks vs)
unfolding parts_of
parts_complete [] vs g s at e =
    let b : byte_at s at ≡ 41 = rw (byte_here s at, e) in
    rw (b, le-leb (length s) (at + 1) (omega (arith, sym (length-drop at s) ∙ ap length e)))
parts_complete (k ∷ ks) (v, vs) g s at e =
    let b : byte_at s at ≡ 32 = rw (byte_here s at, e) in
    let d = part_after k v s at (write_values ks vs) e in
    rw (b, value_reads s (at + 1) k v (write_values ks vs) g.0 d.0 (values_stop ks vs), parts_complete ks vs g.1 s (at + 1 + length (write_value k v)) d.1)

-- a tree is the last part
abbrev pub tree_last : List Kind → Bool
tree_last [] = true
tree_last (k ∷ []) = true
tree_last (k ∷ l ∷ ks) = cond (is_tree k) false (tree_last (l ∷ ks))

-- What is known of each word, one clause a word: it is written in label bytes and found by them, it has a stage if it has letters, at most four parts follow it,
-- and a tree is the last of them
pub record WordLaw (w : Word) : Type 0 where
  pub spelt : all label_byte (letters w) ≡ true
  pub found : among word.Other words (letters w) ≡ w
  pub staged : eqb (stage_of w) no_stage ≡ eqb (length (letters w)) 0
  pub few : drop 5 (shape_of w) ≡ []
  pub tree_last_lem : tree_last (shape_of w) ≡ true

pub word_law : (w : Word) → WordLaw w
unfolding label_byte all among same_text
word_law word.Subject = record { spelt = refl; found = refl; staged = refl; few = refl; tree_last_lem = refl }
word_law word.Isa = record { spelt = refl; found = refl; staged = refl; few = refl; tree_last_lem = refl }
word_law word.Rule = record { spelt = refl; found = refl; staged = refl; few = refl; tree_last_lem = refl }
word_law word.Root = record { spelt = refl; found = refl; staged = refl; few = refl; tree_last_lem = refl }
word_law word.Child = record { spelt = refl; found = refl; staged = refl; few = refl; tree_last_lem = refl }
word_law word.User = record { spelt = refl; found = refl; staged = refl; few = refl; tree_last_lem = refl }
word_law word.View = record { spelt = refl; found = refl; staged = refl; few = refl; tree_last_lem = refl }
word_law word.Query = record { spelt = refl; found = refl; staged = refl; few = refl; tree_last_lem = refl }
word_law word.Find = record { spelt = refl; found = refl; staged = refl; few = refl; tree_last_lem = refl }
word_law word.Rename = record { spelt = refl; found = refl; staged = refl; few = refl; tree_last_lem = refl }
word_law word.Update = record { spelt = refl; found = refl; staged = refl; few = refl; tree_last_lem = refl }
word_law word.Append = record { spelt = refl; found = refl; staged = refl; few = refl; tree_last_lem = refl }
word_law word.Before = record { spelt = refl; found = refl; staged = refl; few = refl; tree_last_lem = refl }
word_law word.After = record { spelt = refl; found = refl; staged = refl; few = refl; tree_last_lem = refl }
word_law word.Remove = record { spelt = refl; found = refl; staged = refl; few = refl; tree_last_lem = refl }
word_law word.Sheet = record { spelt = refl; found = refl; staged = refl; few = refl; tree_last_lem = refl }
word_law word.Day = record { spelt = refl; found = refl; staged = refl; few = refl; tree_last_lem = refl }
word_law word.Window = record { spelt = refl; found = refl; staged = refl; few = refl; tree_last_lem = refl }
word_law word.Other = record { spelt = refl; found = refl; staged = refl; few = refl; tree_last_lem = refl }

abbrev pub end_of : Command → ℕ
end_of f = 1 + length (letters f.word)

-- the places in a line that says f
abbrev pub places_in : Command → List ℕ
places_in f = places_of (end_of f) (shape_of f.word) f.values

-- A good form, written, is read: its word, and the places of its parts
pub record WrittenRead (f : Command) : Type 0 where
  pub word : word_at (written f) 1 ≡ f.word
  pub ends : ends_in (written f) ≡ are (places_in f)

pub after_word : (f : Command) → drop (end_of f) (written f) ≡ write_values (shape_of f.word) f.values
unfolding written
after_word f = drop_over (written f) 1 (letters f.word) (write_values (shape_of f.word) f.values) refl

pub form_complete : (f : Command) → GoodCommand f → WrittenRead f
unfolding written word_at ends_in
form_complete f g =
    let r : List ℕ = write_values (shape_of f.word) f.values in
    let x = word_law f.word in
    let stop = (values_stop (shape_of f.word) f.values).no_label in
    let l = run_at_lem (written f) 1 label_byte (letters f.word) r x.spelt refl stop in
    let w : word_at (written f) 1 ≡ f.word = rw l.0 x.found in
    record {
      word = w;
      ends = rw (run_reads (written f) 1 label_byte (letters f.word) r g.word x.spelt refl stop, w) (parts_complete (shape_of f.word) f.values g.values (written f) (end_of f) (after_word f));
    }

-- what is read if f is typed: the word's form, with the parts at their places
abbrev placed : Command → ReadForm
placed f = form_at f.word (written f) (place_in (places_in f))

pub written_form : (f : Command) → GoodCommand f → read_form (written f) ≡ placed f
unfolding read_form
written_form f g = let x = form_complete f g in rw (x.word, x.ends)

-- What is read as a form was written

never_read : {C : Type 0} {j : ℕ} → None ≡ Some j → C
never_read e = absurd (let z : ◌≡◌ {A = ℕ} 0 1 = cc in omega arith)

same_place : (C : ℕ → Type 0) {i j : ℕ} → Some i ≡ Some j → C i → C j
same_place C {i} {j} e x = let z : i ≡ j = cc in rw (← z) x

module _ (s : List ℕ) (at : ℕ) where
  -- a run, and a part, that was read
  record RunRead (f : ℕ → Bool) (j : ℕ) : Type 0 where
    is : List ℕ
    some : 1 ≤ length is
    of : all f is ≡ true
    run_is : is ≡ take (run_at f s at) (drop at s)
    text : Reads s at is j

  run_sound : (f : ℕ → Bool) (j : ℕ) → run_end f s at ≡ Some j → RunRead f j
  unfolding run_end
  run_sound f j =
      cond_elim (leb 1 (run_at f s at))
      (λ b e. same_place (RunRead f) e (
      record {
        is = take (run_at f s at) (drop at s);
        some = rw (run_length f (drop at s)) (leb-true _ _ b);
        of = run-all f (drop at s);
        run_is = refl;
        text = reads_take s at (run_at f s at);
      }))
      λ _. never_read

  record ValueRead (k : Kind) (j : ℕ) : Type 0 where
    is : Value k
    good : GoodValue k is
    text : Reads s at (write_value k is) j

  sign_of : (sign_at s at ≡ 0 → ⊥) → (b : Bool) × (label_bytes_at s at ≡ cond b accept deny)
  unfolding sign_at
  sign_of =
      among-is (λ n w. (n ≡ 0 → ⊥) → (b : Bool) × (w ≡ cond b accept deny)) 0 signs (label_bytes_at s at)
      ((λ _. (true, refl)), ((λ _. (false, refl)), tt)) (λ e. absurd (e refl))

  right_of : (right_at s at ≡ 0 → ⊥) → (r : Right) × (label_bytes_at s at ≡ write_right r)
  unfolding right_at write_right
  right_of =
      among-is (λ n w. (n ≡ 0 → ⊥) → (r : Right) × (w ≡ write_right r)) 0 rights (label_bytes_at s at)
      ((λ _. (position, refl)), ((λ _. (read, refl)), ((λ _. (insert, refl)), ((λ _. (update, refl)), ((λ _. (delete, refl)), tt))))) (λ e. absurd (e refl))

  value_sound : (k : Kind) (j : ℕ) → part_end k s at ≡ Some j → ValueRead k j
  unfolding label_end day_end known_end GoodValue write_value
  value_sound Label j = λ e. let x = short_sound s at label_byte label_max j e in record { is = x.0; good = x.1; text = x.2 }
  value_sound Path j = λ e. let x = run_sound path_byte j e in record { is = x.is; good = (x.some, sym (runs_same x.is) ∙ x.of); text = x.text }
  value_sound Tree j = λ e. let t = tree_sound s at j e in record { is = t.is; good = t.good; text = t.text }
  value_sound Sign j =
      cond_elim (eqb (sign_at s at) 0) (λ _. never_read)
      λ b e. let x = run_sound label_byte j e in let y = sign_of (eqb-false _ _ b) in record { is = y.0; good = tt; text = rw (sym y.1 ∙ sym x.run_is) x.text }
  value_sound RightKind j =
      cond_elim (eqb (right_at s at) 0) (λ _. never_read)
      λ b e. let x = run_sound label_byte j e in let y = right_of (eqb-false _ _ b) in record { is = y.0; good = tt; text = rw (sym y.1 ∙ sym x.run_is) x.text }
  value_sound Day j = λ e. let x = short_sound s at digit_byte day_digits j e in record { is = x.0; good = x.1; text = x.2 }

pub never_are : {C : Type 0} {es : List ℕ} → none ≡ are es → C
never_are e = absurd (let z : ◌≡◌ {A = ℕ} 0 1 = cc in omega arith)

pub then_elim : {C : Type 0} {es : List ℕ} (r : Option ℕ) (k : ℕ → Places) → ((e : ℕ) → r ≡ Some e → k e ≡ are es → C) → (r and_then (none, k)) ≡ are es → C
then_elim (Some e) k h q = h e refl q
then_elim None k h q = never_are q

onto_elim : {C : Type 0} (xs : List ℕ) {es : List ℕ} (p : Places) → ((ys : List ℕ) → p ≡ are ys → C) → (xs onTo p) ≡ are es → C
onto_elim xs (are ys) h q = h ys refl
onto_elim xs none h q = never_are q

record PartsRead (ks : List Kind) (s : List ℕ) (at : ℕ) : Type 0 where
  is : Values ks
  good : GoodValues ks is
  text : drop at s ≡ write_values ks is

parts_sound : (ks : List Kind) (s : List ℕ) (at : ℕ) (es : List ℕ) → parts_of ks s at ≡ are es → PartsRead ks s at
unfolding parts_of
parts_sound [] s at es =
    cond_elim (closes_line s at)
    (λ b _.
    let end : drop (at + 1) s ≡ [] = drop_of_length-le s (leb-true _ _ (and_right (eqb (byte_at s at) 41) (leb (length s) (at + 1)) b)) in
    record { is = tt; good = tt; text = reads_byte s at 41 (omega arith) (eqb-true _ _ (and_left (eqb (byte_at s at) 41) (leb (length s) (at + 1)) b)) ∙ ap (λ (v : List ℕ). 41 ∷ v) end })
    λ _. never_are
parts_sound (k ∷ ks) s at es =
    then_elim (one_part k s at) _ λ e o. onto_elim (at ∷ []) (parts_of ks s e) λ ys q. found e (parts_sound ks s e ys q) o
  where
    found : (e : ℕ) → PartsRead ks s e → one_part k s at ≡ Some e → PartsRead (k ∷ ks) s at
    found e y =
        cond_elim (eqb (byte_at s at) 32)
        (λ b q.
        let x = value_sound s (at + 1) k e q in
        record {
          is = (x.is, y.is);
          good = (x.good, y.good);
          text = reads_byte s at 32 (omega arith) (eqb-true _ _ b) ∙ ap (λ (v : List ℕ). 32 ∷ v) (x.text ∙ ap (λ (v : List ℕ). write_value k x.is ++ v) y.text);
        })
        λ _. never_read

-- a word that is found is written by its letters
each_lettered : (ws : List Word) → word_texts (map (λ w. (letters w, w)) ws) ≡ true → Every (λ w t. (t ≡ letters w) × (1 ≤ length (letters w))) (map (λ w. (letters w, w)) ws)
each_lettered [] g = tt
each_lettered (w ∷ ws) g =
    let rest = word_texts (map (λ w. (letters w, w)) ws) in (
      (refl, leb-true 1 (length (letters w)) (and_left (leb 1 (length (letters w))) (leb (length (letters w)) 8 && all label_byte (letters w)) (and_left (word_text (letters w)) rest g))),
      each_lettered ws (and_right (word_text (letters w)) rest g),
    )

word_found : (s : List ℕ) (at : ℕ) → (word_at s at ≡ word.Other) ⊎ ((label_bytes_at s at ≡ letters (word_at s at)) × (1 ≤ length (letters (word_at s at))))
unfolding word_at label_byte all
word_found s at =
    among-or (λ w t. (t ≡ letters w) × (1 ≤ length (letters w))) word.Other words (label_bytes_at s at) (each_lettered form_words refl)

-- A line whose word and parts were read is a good form, written
pub form_sound : (s es : List ℕ) → label_bytes_at s 1 ≡ letters (word_at s 1) → 1 ≤ length (letters (word_at s 1)) → ends_in s ≡ are es → (f : Command) × GoodCommand f × (s ≡ written f)
unfolding ends_in written
form_sound s es l n =
    cond_elim (eqb (byte_at s 0) 40)
    (λ p. then_elim (run_end label_byte s 1) _ λ e a b.
    let x = parts_sound (shape_of (word_at s 1)) s e es b in
    let y = run_sound s 1 label_byte e a in (
      record { word = word_at s 1; values = x.is },
      record { word = n; values = x.good },
      reads_byte s 0 40 (omega arith) (eqb-true _ _ p)
          ∙ ap (λ (v : List ℕ). 40 ∷ v) (y.text ∙ ap (λ (v : List ℕ). v ++ drop e s) (y.run_is ∙ l) ∙ ap (λ (v : List ℕ). letters (word_at s 1) ++ v) x.text),
    ))
    λ _. never_are

-- A line is a good command, written, or no form
pub command_or_none : (s : List ℕ) → (read_form s ≡ no_form) ⊎ ((f : Command) × GoodCommand f × (s ≡ written f))
unfolding read_form
command_or_none s = go (ends_in s) refl (word_found s 1)
  where
    go : (r : Places) → ends_in s ≡ r → (word_at s 1 ≡ word.Other) ⊎ ((label_bytes_at s 1 ≡ letters (word_at s 1)) × (1 ≤ length (letters (word_at s 1))))
        → (read_form s ≡ no_form) ⊎ ((f : Command) × GoodCommand f × (s ≡ written f))
    go none q w = inl (rw q)
    go (are es) q (inl o) = inl (rw (q, o))
    go (are es) q (inr (l, n)) = inr (form_sound s es l n q)

-- A good form is not none
placed-some : (f : Command) → GoodCommand f → placed f ≡ no_form → ⊥
placed-some f g e = let z : length (letters f.word) ≡ 0 = ap (λ (r : ReadForm). length (letters r.word)) e in omega (arith, g.word, z)

-- A line is refused with 2 exactly if no good command is written so
pub none_written : (s : List ℕ) → (read_form s ≡ no_form) ↔ ((f : Command) → GoodCommand f → s ≡ written f → ⊥)
none_written s = (
  λ e f g q. placed-some f g (sym (written_form f g) ∙ ap read_form (sym q) ∙ e),
  λ h. go h (command_or_none s),
)
  where
    go : ((f : Command) → GoodCommand f → s ≡ written f → ⊥) → (read_form s ≡ no_form) ⊎ ((f : Command) × GoodCommand f × (s ≡ written f)) → read_form s ≡ no_form
    go h (inl e) = e
    go h (inr x) = absurd (h x.0 x.1 x.2)

-- At most one good command is written so

abbrev right_named : List ℕ → Right
right_named w = cond (eqb (length w) 8) position (cond (eqb (length w) 4) read (cond (eqb (get_or w 0 0) 105) insert (cond (eqb (get_or w 0 0) 117) update delete)))

right_back : (r : Right) → r ≡ right_named (write_right r)
unfolding write_right
right_back position = refl
right_back read = refl
right_back insert = refl
right_back update = refl
right_back delete = refl

sign_back : (b : Bool) → b ≡ eqb (length (cond b accept deny)) 6
sign_back true = refl
sign_back false = refl

value_same : (k : Kind) (x y : Value k) → GoodValue k x → GoodValue k y → write_value k x ≡ write_value k y → x ≡ y
unfolding write_value GoodValue
value_same Label x y g h e = e
value_same Path x y g h e = e
value_same Tree x y g h e = tree_unique x y g h e
value_same Sign x y g h e = sign_back x ∙ ap (λ (w : List ℕ). eqb (length w) 6) e ∙ sym (sign_back y)
value_same RightKind x y g h e = right_back x ∙ ap right_named e ∙ sym (right_back y)
value_same Day x y g h e = e

value_unique : (k : Kind) (x y : Value k) (r v : List ℕ) → GoodValue k x → GoodValue k y → Stops r → Stops v → write_value k x ++ r ≡ write_value k y ++ v → (x ≡ y) × (r ≡ v)
value_unique k x y r v g h a b e =
    let p = value_reads (write_value k x ++ r) 0 k x r g refl a in
    let q = value_reads (write_value k x ++ r) 0 k y v h e b in
    let z : Some (0 + length (write_value k x)) ≡ Some (0 + length (write_value k y)) = sym p ∙ q in
    let w : 0 + length (write_value k x) ≡ 0 + length (write_value k y) = cc in
    let n : length (write_value k x) ≡ length (write_value k y) = omega arith in (
      value_same k x y g h (sym (take-append_seam (write_value k x) r) ∙ ap (take (length (write_value k x))) e ∙ rw n (take-append_seam (write_value k y) v)),
      sym (drop-append_seam (write_value k x) r) ∙ ap (drop (length (write_value k x))) e ∙ rw n (drop-append_seam (write_value k y) v),
    )

values_unique : (ks : List Kind) (xs ys : Values ks) → GoodValues ks xs → GoodValues ks ys → write_values ks xs ≡ write_values ks ys → xs ≡ ys
values_unique [] xs ys g h e = refl
values_unique (k ∷ ks) (x, xs) (y, ys) g h e =
    let t : write_value k x ++ write_values ks xs ≡ write_value k y ++ write_values ks ys = cc in
    let p = value_unique k x y (write_values ks xs) (write_values ks ys) g.0 h.0 (values_stop ks xs) (values_stop ks ys) t in
    let q = values_unique ks xs ys g.1 h.1 p.1 in
    rw (p.0, q)

pub command_unique : (f g : Command) → GoodCommand f → GoodCommand g → written f ≡ written g → f ≡ g
unfolding written
command_unique f g a b e =
    let w : f.word ≡ g.word = sym (form_complete f a).word ∙ ap (λ (s : List ℕ). word_at s 1) e ∙ (form_complete g b).word in
    let t : letters f.word ++ write_values (shape_of f.word) f.values ≡ letters g.word ++ write_values (shape_of g.word) g.values = cc in
    let u = label_unique (letters f.word) (letters g.word) _ _ (word_law f.word).spelt (word_law g.word).spelt (values_stop (shape_of f.word) f.values).no_label (values_stop (shape_of g.word) g.values).no_label t in
    subst (λ (v : Word). (vs : Values (shape_of v)) → GoodValues (shape_of v) vs → write_values (shape_of f.word) f.values ≡ write_values (shape_of v) vs → f ≡ command v vs) w
    (λ vs h q. ap (command f.word) (values_unique (shape_of f.word) f.values vs a.values h q))
    g.values b.values u.1
