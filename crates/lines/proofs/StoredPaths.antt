-- A path's text and its steps. A path without brackets is its steps, written one after the other, so that the text can be had back from them; and what
-- the loops over a path's steps know, step by step. Assumes nothing.
use Rattle.std.specs.Prelude.{Option, Some, None}
use Rattle.rights.specs.declared.path.Step.{Step}
use Rattle.rights.specs.How.Reading.{step_at}
use Prim.Native.Nat.{ℕ, zero, suc, ◌+◌, ◌-◌, ◌*◌, ◌≤◌, ◌<◌}
use mathlib.Core.Path.{◌≡◌, refl, sym, ap, ◌∙◌}
use mathlib.Core.Bool.{Bool, true, false, ◌||◌}
use mathlib.Core.List.{List, [], ◌∷◌, ◌++◌, append_assoc, append-nil}
use native.Mathlib.Omega.{arith}
use borrow.Author.Tests.{eqb-true, eqb-false}
use lib.Dec.{eqb}
use lib.ListN.{length, get_or, take, drop, length-append, length-drop}
use lib.Seq.{take-append_seam}
use Rattle.rights.specs.Bytes.{byte_at}
use Rattle.rights.specs.Labels.{label_byte, same_label, restricted}
use Rattle.rights.specs.Path.{Test, label, any, own, Path, last, next, Brackets, none, position, holds}
use Rattle.rights.specs.declared.path.Axis.{Axis}
use Rattle.rights.specs.PathReader.{Got, got, bad, read_test, read_step, is_position, read_position, closes, unslashed, read_brackets, read_steps, brackets, steps, path_of}
use Rattle.rights.specs.How.Reading.{place_of, StepAt}
use Rattle.rights.specs.PathText.{write_test, write_step, write_steps, write_brackets, write, steps_of, GoodTest, GoodSteps}
use Rattle.rights.specs.Policy.{some, uses}
use Rattle.lines.specs.PolicyEdit.{any_bracket, bracketed, bracketed_in, has_bracket, Plain, step_list, steps_in, write_stored, path_restricted, axis_byte, step_record, step_records}
use Rattle.rights.specs.Record.{name_record, pasted}
use Rattle.rights.proofs.LabelLaws.{same_sym, same_differ}
use Rattle.rights.proofs.MatcherLaws.{brackets-none}
use Rattle.rights.proofs.PathComplete.{drop_over, step_reads}
use Rattle.rights.proofs.PathLaws.{no_step, step_on, step_is}
use Rattle.rights.proofs.PathSound.{sound_test, sound}
use Rattle.rights.proofs.PathTexts.{cond_elim, then_elim, never, same}
use Rattle.rights.proofs.PolicyWords.{some_here, some_later, some-none}
use Rattle.rights.proofs.RecordLaws.{pasted-pasted, pasted-none}
use Rattle.rights.specs.Held.{join}
use Rattle.rights.proofs.HeldStepLaws.{test_short, step-length}
use Rattle.rights.proofs.WalkLaws.{path_steps}

pub never_both : {C : Type 0} → true ≡ false → C
never_both e = absurd (let z : ◌≡◌ {A = ℕ} 0 1 = cc in omega arith)

-- a text that is a path has a bracket exactly if the path has
pub bracket_read : (s : List ℕ) (p : Path) (e : ℕ) → path_of s ≡ got p e → has_bracket s ≡ bracketed p
unfolding has_bracket
bracket_read s p e r = ap bracketed_in r

-- what the readers' answers and the test for brackets say together
pub plain : (s : List ℕ) (i : ℕ) → place_of (path_of s) ≡ Some i → has_bracket s ≡ false → Plain s
plain s i e b = go (path_of s) refl e
  where
    go : (g : Got Path) → path_of s ≡ g → place_of g ≡ Some i → Plain s
    go (got p j) r q =
        let z : j ≡ length s = (sound s p j r).2 in
        record { path = p; read = r ∙ ap (got p) z; flat = sym (bracket_read s p j r) ∙ b }
    go bad r q = absurd (let z : ◌≡◌ {A = ℕ} 0 1 = cc in omega arith)

-- Whether a path has a bracket, step by step

-- steps, by what was read first
steps_by : {C : Type 0} (s : List ℕ) (d n at : ℕ) (p : Path) (e : ℕ)
    → ((w : Axis × Test) (i : ℕ) (bs : Brackets) (j : ℕ) → read_step s at ≡ got w i → brackets s d 2 i ≡ got bs j → (byte_at s j ≡ 47 → ⊥) → p ≡ last w.0 w.1 bs → C)
    → ((w : Axis × Test) (i : ℕ) (bs : Brackets) (j m : ℕ) (q : Path) → read_step s at ≡ got w i → brackets s d 2 i ≡ got bs j → byte_at s j ≡ 47 → steps s d m (j + 1) ≡ got q e
    → p ≡ next w.0 w.1 bs q → C) → steps s d n at ≡ got p e → C
unfolding steps read_steps
steps_by s d zero at p e one more = never
steps_by s d (suc n) at p e one more =
    then_elim (read_step s at) _ λ w i er. then_elim (brackets s d 2 i) _ λ bs j eb. cond_elim (eqb (byte_at s j) 47)
    (λ c. then_elim (read_steps s (λ k. brackets s d 2 k) n (j + 1)) _ λ q m eq f.
    more w i bs j n q er eb (eqb-true _ _ c) (eq ∙ same (λ (v : Path) (k : ℕ). got q m ≡ got q k) f refl) (sym (same (λ (v : Path) (k : ℕ). next w.0 w.1 bs q ≡ v) f refl)))
    λ c f. one w i bs j er eb (eqb-false _ _ c) (sym (same (λ (v : Path) (k : ℕ). last w.0 w.1 bs ≡ v) f refl))

-- where `[` stands, a bracket is read
any_read : (s : List ℕ) (inside : ℕ → Got Path) (k at : ℕ) (bs : Brackets) (j : ℕ) → byte_at s at ≡ 91 → read_brackets s inside k at ≡ got bs j → any_bracket bs ≡ true
unfolding read_brackets
any_read s inside zero at bs j o = cond_elim (eqb (byte_at s at) 91) (λ _. never) λ c e. absurd (eqb-false _ _ c o)
any_read s inside (suc k) at bs j o =
    cond_elim (eqb (byte_at s at) 91)
    (λ _. cond_elim (is_position s (at + 1))
    (λ _. then_elim (read_position s (at + 1)) _ λ n i en. then_elim (read_brackets s inside k i) _ λ cs m ec f. same (λ (v : Brackets) (l : ℕ). any_bracket v ≡ true) f refl)
    λ _. then_elim (inside (at + 1)) _ λ p i ep. then_elim (closes s p i) _ λ q h ecl. then_elim (read_brackets s inside k h) _ λ cs m ec f. same (λ (v : Brackets) (l : ℕ). any_bracket v ≡ true) f refl)
    λ c e. absurd (eqb-false _ _ c o)

brackets_any : (s : List ℕ) (d at : ℕ) (bs : Brackets) (j : ℕ) → byte_at s at ≡ 91 → brackets s d 2 at ≡ got bs j → any_bracket bs ≡ true
unfolding brackets
brackets_any s zero at bs j o = cond_elim (eqb (byte_at s at) 91) (λ _. never) λ c e. absurd (eqb-false _ _ c o)
brackets_any s (suc d) at bs j o = any_read s (λ i. unslashed s i (read_steps s (λ k. brackets s d 2 k) 16 i)) 2 at bs j o

-- what a loop that looks for a bracket knows where a step begins: the steps that are left have one exactly if the path has
pub record Looking (s : List ℕ) (at : ℕ) : Type 0 where
  pub left : ℕ
  pub path : Path
  pub read : steps s 3 left at ≡ got path (length s)
  pub same_as : has_bracket s ≡ bracketed path

pub look_first : (s : List ℕ) → (path_of s ≡ bad → ⊥) → Looking s 1
look_first s h = go (path_of s) refl
  where
    go : (g : Got Path) → path_of s ≡ g → Looking s 1
    go (got p e) r =
        let w = path_steps s p e r in
        record { left = 16; path = p; read = w.1 ∙ ap (got p) w.2; same_as = bracket_read s p e r }
    go bad r = absurd (h r)

module _ (s : List ℕ) (at : ℕ) (h : Looking s at) where
  -- a step is there
  pub look-step : {C : Type 0} → place_of (read_step s at) ≡ None → C
  look-step {C} e =
      steps_by {C = C} s 3 h.left at h.path (length s)
      (λ w i bs j er eb no is. absurd (let q = ap place_of er in let z : ◌≡◌ {A = ℕ} 0 1 = cc in omega arith))
      (λ w i bs j m q er eb yes rest is. absurd (let v = ap place_of er in let z : ◌≡◌ {A = ℕ} 0 1 = cc in omega arith))
      h.read

  module _ (r : Option Step) (sr : StepAt s at r) (a : Axis) (k e : ℕ) (y : r ≡ step_at a k e) where
    here : (w : Axis × Test) (i : ℕ) → read_step s at ≡ got w i → i ≡ e
    here w i er = same (λ (v : Axis × Test) (n : ℕ). i ≡ n) (sym er ∙ (step_is s at r sr a k e y).2) refl

    pub look_open : byte_at s e ≡ 91 → has_bracket s ≡ true
    unfolding bracketed
    look_open o =
        let open_at : (w : Axis × Test) (i : ℕ) (bs : Brackets) (j : ℕ) → read_step s at ≡ got w i → brackets s 3 2 i ≡ got bs j → any_bracket bs ≡ true =
        λ w i bs j er eb. brackets_any s 3 e bs j o (ap (λ (n : ℕ). brackets s 3 2 n) (sym (here w i er)) ∙ eb) in
        let yes-all : bracketed h.path ≡ true =
        steps_by {C = bracketed h.path ≡ true} s 3 h.left at h.path (length s)
        (λ w i bs j er eb no is. ap bracketed is ∙ open_at w i bs j er eb)
        (λ w i bs j m p er eb yes rest is. ap bracketed is ∙ ap (λ (b : Bool). b || bracketed p) (open_at w i bs j er eb))
        h.read in
        h.same_as ∙ yes-all

    module _ (o : byte_at s e ≡ 91 → ⊥) where
      bare : (w : Axis × Test) (i : ℕ) (bs : Brackets) (j : ℕ) → read_step s at ≡ got w i → brackets s 3 2 i ≡ got bs j → (bs ≡ none) × (j ≡ e)
      bare w i bs j er eb =
          let x : got none e ≡ got bs j = sym (brackets-none s 3 2 e o) ∙ ap (λ (n : ℕ). brackets s 3 2 n) (sym (here w i er)) ∙ eb in
          same (λ (v : Brackets) (n : ℕ). (v ≡ none) × (n ≡ e)) x (refl, refl)

      pub look_on : byte_at s e ≡ 47 → Looking s (e + 1)
      unfolding bracketed
      look_on l =
          steps_by {C = Looking s (e + 1)} s 3 h.left at h.path (length s)
          (λ w i bs j er eb no is. absurd (no (ap (λ (n : ℕ). byte_at s n) (bare w i bs j er eb).1 ∙ l)))
          (λ w i bs j m p er eb yes rest is.
          let b = bare w i bs j er eb in
          record {
            left = m;
            path = p;
            read = ap (λ (n : ℕ). steps s 3 m (n + 1)) (sym b.1) ∙ rest;
            same_as = h.same_as ∙ ap bracketed is ∙ ap (λ (v : Brackets). any_bracket v || bracketed p) b.0;
          })
          h.read

      pub look_done : (byte_at s e ≡ 47 → ⊥) → has_bracket s ≡ false
      unfolding bracketed
      look_done n =
          let none_left : bracketed h.path ≡ false =
          steps_by {C = bracketed h.path ≡ false} s 3 h.left at h.path (length s)
          (λ w i bs j er eb no is. ap bracketed is ∙ ap any_bracket (bare w i bs j er eb).0)
          (λ w i bs j m p er eb yes rest is. absurd (n (ap (λ (v : ℕ). byte_at s v) (sym (bare w i bs j er eb).1) ∙ yes)))
          h.read in
          h.same_as ∙ none_left

-- every test of the steps is one that may be written
unfoldable pub GoodStored : List (Axis × Test) → Type 0
GoodStored [] = Unit {0}
GoodStored (w ∷ ws) = GoodTest w.1 × GoodStored ws

flat_text : (p : Path) → bracketed p ≡ false → 47 ∷ write_steps p ≡ write_stored (step_list p)
unfolding bracketed write_steps write_brackets write_stored step_list
flat_text (last a x none) e = refl
flat_text (last a x (position n bs)) e = never_both e
flat_text (last a x (holds p bs)) e = never_both e
flat_text (next a x none p) e = rw (← (flat_text p e)) (simp (append-nil, append_assoc))
flat_text (next a x (position n bs) p) e = never_both e
flat_text (next a x (holds q bs) p) e = never_both e

-- A path without brackets is written as its steps are.
pub write_plain : (p : Path) → bracketed p ≡ false → write p ≡ write_stored (step_list p)
unfolding write
write_plain p e = flat_text p e

good_list : (p : Path) → GoodSteps p → GoodStored (step_list p)
unfolding GoodSteps GoodStored step_list
good_list (last a x bs) g = (g.0, tt)
good_list (next a x bs p) g = (g.0, good_list p g.3)

list_length : (p : Path) → (length (step_list p) ≡ steps_of p) × (1 ≤ steps_of p)
unfolding step_list steps_of
list_length (last a x bs) = (refl, omega arith)
list_length (next a x bs p) = (ap suc (list_length p).0, omega arith)

-- a rule's path and its steps
pub record Written (s : List ℕ) (ws : List (Axis × Test)) : Type 0 where
  pub text : s ≡ write_stored ws
  pub good : GoodStored ws
  pub some : 1 ≤ length ws
  pub few : length ws ≤ 16

pub steps_are : (s : List ℕ) (h : Plain s) → steps_in s ≡ step_list h.path
unfolding steps_in
steps_are s h = rw h.read

-- The text of a rule's path can be had back from its steps.
pub written : (s : List ℕ) → Plain s → Written s (steps_in s)
written s h =
    let w = sound s h.path (length s) h.read in
    let l = list_length h.path in
    rw (steps_are s h)
    (record {
      text = w.0 ∙ write_plain h.path h.flat;
      good = good_list h.path w.1.good;
      some = rw l.0 l.1;
      few = rw l.0 w.1.few;
    })

-- One step of a loop over the steps of a text

after-stored : (ws : List (Axis × Test)) → label_byte (get_or (write_stored ws) 0 0) ≡ false
unfolding write_stored label_byte
after-stored [] = refl
after-stored (w ∷ ws) = refl

-- where text is left, a step is left
pub left-some : {C : Type 0} (s : List ℕ) (i : ℕ) (ws : List (Axis × Test)) → i < length s → drop i s ≡ write_stored ws → ((w : Axis × Test) (vs : List (Axis × Test)) → ws ≡ w ∷ vs → C) → C
unfolding write_stored
left-some s i [] h e f = absurd (omega (arith, length-drop i s, ap length e))
left-some s i (w ∷ vs) h e f = f w vs refl

-- and where none is left, no step is
pub left-none : (s : List ℕ) (i : ℕ) (ws : List (Axis × Test)) → GoodStored ws → length s ≤ i → drop i s ≡ write_stored ws → ws ≡ []
unfolding write_stored
left-none s i [] g h e = refl
left-none s i (w ∷ ws) g h e = absurd (omega (arith, length-drop i s, ap length e))

-- the text of a test that was read
test_text : (s : List ℕ) (k e : ℕ) (x : Test) → read_test s k ≡ got x e → k < e → e ≤ length s → (take (e - k) (drop k s) ≡ write_test x) × (e - k ≡ length (write_test x))
test_text s k e x r l h =
    let t = (sound_test s k x e r).text in
    let n : e - k ≡ length (write_test x) = omega (arith, ap length t, length-append (write_test x) (drop e s), length-drop k s, length-drop e s) in
    (rw (n, t) (take-append_seam (write_test x) (drop e s)), n)

-- the step w is read after its slash at i, with its axis a and its test from k to e
pub record StepStored (s : List ℕ) (k e : ℕ) (a : Axis) (w : Axis × Test) (ws : List (Axis × Test)) : Type 0 where
  pub axis : a ≡ w.0
  pub text : take (e - k) (drop k s) ≡ write_test w.1
  pub size : e - k ≡ length (write_test w.1)
  pub rest : drop e s ≡ write_stored ws

module _ (s : List ℕ) (i : ℕ) (w : Axis × Test) (ws : List (Axis × Test)) (g : GoodTest w.1) (d : drop i s ≡ write_stored (w ∷ ws)) (r : Option Step) (h : StepAt s (i + 1) r) where
  there : read_step s (i + 1) ≡ got (w.0, w.1) (i + 1 + length (write_step w.0 w.1))
  unfolding write_stored
  there = step_reads s w.0 w.1 (i + 1) (write_stored ws) g (drop_over s i (47 ∷ []) (write_step w.0 w.1 ++ write_stored ws) d) (after-stored ws)

  pub step_there : {C : Type 0} → r ≡ None → C
  step_there q = absurd (let x = no_step s (i + 1) r h q in let y = ap place_of there in let z : ◌≡◌ {A = ℕ} 0 1 = cc in omega arith)

  pub step-stored : (a : Axis) (k e : ℕ) → r ≡ step_at a k e → StepStored s k e a w ws
  unfolding write_stored
  step-stored a k e q =
      let f = drop_over s i (47 ∷ []) (write_step w.0 w.1 ++ write_stored ws) d in
      let is = step_is s (i + 1) r h a k e q in
      let on = step_on s (i + 1) r h a k e q in
      let one : (a ≡ w.0) × (is.0 ≡ w.1) × (e ≡ i + 1 + length (write_step w.0 w.1)) = same (λ (v : Axis × Test) (n : ℕ). (a ≡ v.0) × (is.0 ≡ v.1) × (e ≡ n)) (sym is.2 ∙ there) (refl, refl, refl) in
      let x = test_text s k e is.0 is.1 on.1 on.2 in
      record {
        axis = one.0;
        text = x.0 ∙ ap write_test one.1;
        size = x.1 ∙ ap (λ (v : Test). length (write_test v)) one.1;
        rest = ap (λ (m : ℕ). drop m s) one.2 ∙ drop_over s (i + 1) (write_step w.0 w.1) (write_stored ws) f;
      }

-- Which step names RESTRICTED

pub names_restricted_lem : (w : Axis × Test) → uses false restricted w ≡ same_label (write_test w.1) restricted
unfolding write_test
names_restricted_lem (a, label l) = same_sym restricted l
names_restricted_lem (a, any) = sym (same_differ _ restricted (λ e. absurd (omega arith)))
names_restricted_lem (a, own) = sym (same_differ _ restricted (λ e. absurd (omega arith)))

-- what a loop that looks for RESTRICTED knows at i
pub record Seeking (s : List ℕ) (i : ℕ) : Type 0 where
  pub left : List (Axis × Test)
  pub text : drop i s ≡ write_stored left
  pub good : GoodStored left
  pub same : path_restricted s ≡ some (uses false restricted) left

pub seek_first : (s : List ℕ) → Plain s → Seeking s 0
unfolding path_restricted
seek_first s h = let w = written s h in record { left = steps_in s; text = w.text; good = w.good; same = refl }

module _ (s : List ℕ) (i : ℕ) (h : Seeking s i) (l : i < length s) (r : Option Step) (sr : StepAt s (i + 1) r) where
  pub seek_none : {C : Type 0} → r ≡ None → C
  unfolding GoodStored
  seek_none q =
      left-some s i h.left l h.text λ w vs z.
      let g : GoodStored (w ∷ vs) = rw z at h.good in
      step_there s i w vs g.0 (rw z at h.text) r sr q

  module _ (a : Axis) (k e : ℕ) (y : r ≡ step_at a k e) where
    pub seek_found : same_label (take (e - k) (drop k s)) restricted ≡ true → path_restricted s ≡ true
    unfolding GoodStored
    seek_found q =
        left-some s i h.left l h.text λ w vs z.
        let g : GoodStored (w ∷ vs) = rw z at h.good in
        let t = step-stored s i w vs g.0 (rw z at h.text) r sr a k e y in
        h.same ∙ some_here (uses false restricted) w h.left vs z (names_restricted_lem w ∙ ap (λ (x : List ℕ). same_label x restricted) (sym t.text) ∙ q)

    pub seek_more : same_label (take (e - k) (drop k s)) restricted ≡ false → Seeking s e
    unfolding GoodStored
    seek_more q =
        left-some s i h.left l h.text λ w vs z.
        let g : GoodStored (w ∷ vs) = rw z at h.good in
        let t = step-stored s i w vs g.0 (rw z at h.text) r sr a k e y in
        record { left = vs; text = t.rest; good = g.1; same = h.same ∙ some_later (uses false restricted) w h.left vs z (names_restricted_lem w ∙ ap (λ (x : List ℕ). same_label x restricted) (sym t.text) ∙ q) }

pub seek_end : (s : List ℕ) (i : ℕ) → Seeking s i → length s ≤ i → path_restricted s ≡ false
seek_end s i h l = h.same ∙ some-none (uses false restricted) h.left (left-none s i h.left h.good l h.text)

-- Storing steps

pub records-length : (ws : List (Axis × Test)) → GoodStored ws → length (step_records ws) ≡ length ws * 32
unfolding step_records join GoodStored
records-length [] g = refl
records-length (w ∷ ws) g = length-append (step_record w) (step_records ws) ∙ rw (step-length w g.0, records-length ws g.1) (omega arith)

records_snoc : (ws : List (Axis × Test)) (w : Axis × Test) → step_records (ws ++ (w ∷ [])) ≡ step_records ws ++ step_record w
unfolding step_records join
records_snoc [] w = append-nil (step_record w)
records_snoc (v ∷ ws) w = rw (records_snoc ws w) (sym (append_assoc (step_record v) (step_records ws) (step_record w)))

good_snoc : (ws : List (Axis × Test)) (w : Axis × Test) → GoodStored ws → GoodTest w.1 → GoodStored (ws ++ (w ∷ []))
unfolding GoodStored
good_snoc [] w g t = (t, tt)
good_snoc (v ∷ ws) w g t = (g.0, good_snoc ws w g.1 t)

-- what a loop that stores steps from byte at on knows after n of them, at i: p was p₀
pub record Putting (p₀ : List ℕ) (at : ℕ) (s p : List ℕ) (n i : ℕ) : Type 0 where
  pub put : List (Axis × Test)
  pub left : List (Axis × Test)
  pub text : drop i s ≡ write_stored left
  pub good : GoodStored left
  pub stored : GoodStored put
  pub whole : put ++ left ≡ steps_in s
  pub many : n ≡ length put
  pub room : n ≤ 16
  pub bytes : p ≡ pasted p₀ at (step_records put)

pub put_first : (p : List ℕ) (at : ℕ) (s : List ℕ) → Plain s → Putting p at s p 0 0
unfolding GoodStored step_records join
put_first p at s h =
    let w = written s h in
    record { put = []; left = steps_in s; text = w.text; good = w.good; stored = tt; whole = refl; many = refl; room = omega arith; bytes = pasted-none p at }

module _ (p₀ : List ℕ) (at : ℕ) (s p : List ℕ) (n i : ℕ) (h : Putting p₀ at s p n i) (f : Plain s) (l : i < length s) (r : Option Step) (sr : StepAt s (i + 1) r) where
  pub put-none : {C : Type 0} → r ≡ None → C
  unfolding GoodStored
  put-none q =
      left-some s i h.left l h.text λ w vs z.
      let g : GoodStored (w ∷ vs) = rw z at h.good in
      step_there s i w vs g.0 (rw z at h.text) r sr q

  module _ (a : Axis) (k e : ℕ) (y : r ≡ step_at a k e) where
    -- the n-th step fits, and so does its text
    pub put-asks : (n < 16) × (e - k ≤ 24)
    unfolding GoodStored
    put-asks =
        left-some s i h.left l h.text λ w vs z.
        let g : GoodStored (w ∷ vs) = rw z at h.good in
        let t = step-stored s i w vs g.0 (rw z at h.text) r sr a k e y in
        let q : length (h.put ++ (w ∷ vs)) ≡ length (steps_in s) = ap (λ (x : List (Axis × Test)). length (h.put ++ x)) (sym z) ∙ ap length h.whole in
        (omega (arith, length-append h.put (w ∷ vs), (written s f).few, h.many), omega (arith, test_short w.1 g.0, t.size))

    pub put_more : (p' : List ℕ) (axis : ℕ) → at + 512 ≤ length p₀ → axis ≡ axis_byte a → p' ≡ pasted p (at + n * 32) (name_record axis (take (e - k) (drop k s))) → Putting p₀ at s p' (n + 1) e
    unfolding GoodStored
    put_more p' axis room q b =
        left-some s i h.left l h.text λ w vs z.
        let g : GoodStored (w ∷ vs) = rw z at h.good in
        let t = step-stored s i w vs g.0 (rw z at h.text) r sr a k e y in
        let len : length (step_records h.put) ≡ n * 32 = rw (records-length h.put h.stored, h.many) in
        let rec : name_record axis (take (e - k) (drop k s)) ≡ step_record w = rw (q, t.axis, t.text) in
        let fits : at + length (step_records h.put) ≤ length p₀ = omega (arith, put-asks.0) in
        record {
          put = h.put ++ (w ∷ []);
          left = vs;
          text = t.rest;
          good = g.1;
          stored = good_snoc h.put w h.stored g.0;
          whole = append_assoc h.put (w ∷ []) vs ∙ ap (λ (x : List (Axis × Test)). h.put ++ x) (sym z) ∙ h.whole;
          many = rw (length-append h.put (w ∷ []), h.many);
          room = omega (arith, put-asks.0);
          bytes =
              b
              ∙ rw (rec, h.bytes, ← len) (pasted-pasted p₀ (step_records h.put) at fits (step_record w))
              ∙ ap (pasted p₀ at) (sym (records_snoc h.put w));
        }

pub put_end : (p₀ : List ℕ) (at : ℕ) (s p : List ℕ) (n i : ℕ) → Putting p₀ at s p n i → length s ≤ i → (n ≡ length (steps_in s)) × (p ≡ pasted p₀ at (step_records (steps_in s)))
put_end p₀ at s p n i h l =
    let z : h.put ≡ steps_in s = sym (append-nil h.put) ∙ ap (λ (x : List (Axis × Test)). h.put ++ x) (sym (left-none s i h.left h.good l h.text)) ∙ h.whole in
    (h.many ∙ ap length z, h.bytes ∙ ap (λ (x : List (Axis × Test)). pasted p₀ at (step_records x)) z)
