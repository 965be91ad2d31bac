-- Labels typed in either case (document 02, card 6): what a path selects and which rights a subject has do not depend on the case in which a path, a rule or a node's label
-- is typed. Assumes nothing.
use Prim.Native.Nat.{ℕ, suc, ◌+◌, max}
use mathlib.Core.Bool.{Bool, true, cond, and-false}
use mathlib.Core.Path.{◌≡◌, refl, sym, ap, ap₂, ◌∙◌, fun_ext}
use mathlib.Core.List.{List, [], ◌∷◌, ◌++◌, map, map-append}
use native.Mathlib.Omega.{arith}
use borrow.Author.Tests.{leb-true, le-leb, lt-leb}
use lib.Dec.{leb}
use lib.ListN.{length, length-map}
use Rattle.rights.specs.Bytes.{all, digit_byte}
use Rattle.rights.specs.Labels.{label_byte, folded, folded_label, same_label}
use Rattle.rights.specs.Isa.{is, passes_own}
use Rattle.rights.specs.Marks.{each_from}
use Rattle.rights.specs.declared.path.Axis.{Axis}
use Rattle.rights.specs.declared.path.Axis.TheVariants.{Child, Descendant}
use Rattle.rights.specs.Path.{Test, label, any, own, is_descendant, first_axis, Path, last, next, Brackets, none, position, holds, passes}
use Rattle.rights.specs.PathText.{decimal, write_test, write_step, write_steps, write_brackets, write, steps_of, brackets_of, depth_of, depth_in, GoodTest, GoodSteps, GoodBrackets, Within}
use Rattle.rights.specs.Policy.{Rule, Policy}
use Rattle.rights.specs.Nodes.{Nodes}
use Rattle.rights.specs.XPath.{Context, document, at, axis, tested, each, filter, with_number, has, something, node_set, filtered, xpath_selected, xpath_selection}
use Rattle.rights.specs.Rights.{step_for, reaches, tried, decide, rights_by}
use Rattle.rights.proofs.TableLaws.{both}
use Rattle.rights.proofs.LabelLaws.{folded_low, folded-cases, same-folded, same_left, same_right, folded_like}
use Rattle.rights.proofs.PathComplete.{decimal_digits, complete, unique}
use Rattle.rights.proofs.PolicyWords.{own_same}

-- a test, a path and its brackets with each label in small letters
abbrev pub folded_test : Test → Test
folded_test (label s) = label (folded_label s)
folded_test any = any
folded_test own = own

abbrev mutual
  pub folded_path : Path → Path
  folded_path (last a x bs) = last a (folded_test x) (folded_brackets bs)
  folded_path (next a x bs p) = next a (folded_test x) (folded_brackets bs) (folded_path p)

  pub folded_brackets : Brackets → Brackets
  folded_brackets none = none
  folded_brackets (position n bs) = position n (folded_brackets bs)
  folded_brackets (holds p bs) = holds (folded_path p) (folded_brackets bs)

pub test_any_case : (mine : List ℕ → Bool) (x : Test) → passes mine (folded_test x) ≡ passes mine x
unfolding passes
test_any_case mine (label s) = fun_ext (same_right (folded_label s) s (folded_like s))
test_any_case mine any = refl
test_any_case mine own = refl

-- A path selects the same nodes with its labels in small letters.
module _ (mine : List ℕ → Bool) (t : Nodes) where
  step_any_case : (x : Test) (bs cs : Brackets) → ((js : List ℕ) → filtered cs mine t js ≡ filtered bs mine t js) → (jss : List (List ℕ))
      → each (λ js. filtered cs mine t (tested (folded_test x) mine t js)) jss ≡ each (λ js. filtered bs mine t (tested x mine t js)) jss
  step_any_case x bs cs h jss = rw (test_any_case mine x, fun_ext h)

  mutual
    unfolding node_set filtered

    pub path_any_case : (p : Path) (c : Context) → node_set (folded_path p) mine t c ≡ node_set p mine t c
    path_any_case (last a x bs) c = step_any_case x bs (folded_brackets bs) (λ js. brackets-any-case bs js) (axis a t c)
    path_any_case (next a x bs p) c =
        ap₂ each (fun_ext (λ j. path_any_case p (at j))) (step_any_case x bs (folded_brackets bs) (λ js. brackets-any-case bs js) (axis a t c))

    brackets-any-case : (bs : Brackets) (js : List ℕ) → filtered (folded_brackets bs) mine t js ≡ filtered bs mine t js
    brackets-any-case none js = refl
    brackets-any-case (position n bs) js = brackets-any-case bs (with_number n 1 js)
    brackets-any-case (holds p bs) js =
        brackets-any-case bs (filter (λ j. something (node_set (folded_path p) mine t (at j))) js)
        ∙ ap (λ f. filtered bs mine t (filter f js)) (fun_ext (λ j. ap something (path_any_case p (at j))))

-- The text of a path with its labels in small letters is its text in small letters.

digits_folded : (xs : List ℕ) → all digit_byte xs ≡ true → folded_label xs ≡ xs
unfolding all digit_byte
digits_folded [] e = refl
digits_folded (x ∷ xs) e =
    let w = both (digit_byte x) (all digit_byte xs) e in
    let l = leb-true x 57 (both (leb 48 x) (leb x 57) w.0).1 in
    ap₂ ◌∷◌ (folded_low x (omega arith)) (digits_folded xs w.1)

test_text : (x : Test) → write_test (folded_test x) ≡ folded_label (write_test x)
unfolding write_test folded
test_text (label s) = refl
test_text any = refl
test_text own = refl

step_text : (a : Axis) (x : Test) → write_step a (folded_test x) ≡ folded_label (write_step a x)
unfolding write_step folded
step_text Child x = test_text x
step_text Descendant x = ap (λ w. 47 ∷ w) (test_text x)

mutual
  unfolding write_steps write_brackets folded

  steps_text : (p : Path) → write_steps (folded_path p) ≡ folded_label (write_steps p)
  steps_text (last a x bs) = rw (step_text a x, brackets_text bs, map-append folded (write_step a x) (write_brackets bs))
  steps_text (next a x bs p) =
      rw (step_text a x, brackets_text bs, steps_text p, map-append folded (write_step a x ++ write_brackets bs) (47 ∷ write_steps p), map-append folded (write_step a x) (write_brackets bs))

  brackets_text : (bs : Brackets) → write_brackets (folded_brackets bs) ≡ folded_label (write_brackets bs)
  brackets_text none = refl
  brackets_text (position n bs) =
      rw (brackets_text bs, map-append folded (decimal 4 n) (93 ∷ write_brackets bs), digits_folded (decimal 4 n) (decimal_digits 4 n))
  brackets_text (holds p bs) = rw (steps_text p, brackets_text bs, map-append folded (write_steps p) (93 ∷ write_brackets bs))

path_text : (p : Path) → write (folded_path p) ≡ folded_label (write p)
unfolding write folded
path_text p = ap (λ w. 47 ∷ w) (steps_text p)

-- It may be written where the path may.

pub byte_kept : (f : ℕ → Bool) → ((b : ℕ) → f (folded b) ≡ f b) → (xs : List ℕ) → all f (folded_label xs) ≡ all f xs
unfolding all
byte_kept f h [] = refl
byte_kept f h (x ∷ xs) = rw (h x, byte_kept f h xs)

label_kept : (b : ℕ) → label_byte (folded b) ≡ label_byte b
unfolding label_byte
label_kept b =
    folded-cases b
    (λ l h e. rw (e, le-leb 97 (b + 32) (omega arith), le-leb (b + 32) 122 (omega arith), lt-leb 97 b (omega arith), le-leb 65 b l, le-leb b 90 h))
    (λ e. ap label_byte e)

digit_kept : (b : ℕ) → digit_byte (folded b) ≡ digit_byte b
unfolding digit_byte
digit_kept b =
    folded-cases b
    (λ l h e. simp (e, lt-leb (b + 32) 57 (omega arith), lt-leb b 57 (omega arith), and-false))
    (λ e. ap digit_byte e)

test_good : (x : Test) → GoodTest x → GoodTest (folded_test x)
unfolding GoodTest
test_good (label s) g = (rw (length-map s folded) g.0, rw (length-map s folded) g.1, byte_kept label_byte label_kept s ∙ g.2)
test_good any g = g
test_good own g = g

steps-kept : (p : Path) → steps_of (folded_path p) ≡ steps_of p
unfolding steps_of
steps-kept (last a x bs) = refl
steps-kept (next a x bs p) = ap suc (steps-kept p)

count_kept : (bs : Brackets) → brackets_of (folded_brackets bs) ≡ brackets_of bs
unfolding brackets_of
count_kept none = refl
count_kept (position n bs) = ap suc (count_kept bs)
count_kept (holds p bs) = ap suc (count_kept bs)

axis-kept : (p : Path) → first_axis (folded_path p) ≡ first_axis p
axis-kept (last a x bs) = refl
axis-kept (next a x bs p) = refl

mutual
  unfolding depth_of depth_in

  depth_kept : (p : Path) → depth_of (folded_path p) ≡ depth_of p
  depth_kept (last a x bs) = depth_in_kept bs
  depth_kept (next a x bs p) = ap₂ max (depth_in_kept bs) (depth_kept p)

  depth_in_kept : (bs : Brackets) → depth_in (folded_brackets bs) ≡ depth_in bs
  depth_in_kept none = refl
  depth_in_kept (position n bs) = ap (max 1) (depth_in_kept bs)
  depth_in_kept (holds p bs) = ap₂ (λ d e. max (suc d) e) (depth_kept p) (depth_in_kept bs)

mutual
  unfolding GoodSteps GoodBrackets

  steps_good : (p : Path) → GoodSteps p → GoodSteps (folded_path p)
  steps_good (last a x bs) g = (test_good x g.0, rw (count_kept bs) g.1, brackets_good bs g.2)
  steps_good (next a x bs p) g = (test_good x g.0, rw (count_kept bs) g.1, brackets_good bs g.2, steps_good p g.3)

  brackets_good : (bs : Brackets) → GoodBrackets bs → GoodBrackets (folded_brackets bs)
  brackets_good none g = g
  brackets_good (position n bs) g = (g.0, g.1, brackets_good bs g.2)
  brackets_good (holds p bs) g = (
    ap (all digit_byte) (steps_text p) ∙ byte_kept digit_byte digit_kept (write_steps p) ∙ g.0,
    ap is_descendant (axis-kept p) ∙ g.1,
    rw (steps-kept p) g.2,
    steps_good p g.3,
    brackets_good bs g.4,
  )

within-kept : (p : Path) → Within p → Within (folded_path p)
within-kept p w = record { few = rw (steps-kept p) w.few; shallow = rw (depth_kept p) w.shallow; good = steps_good p w.good }

-- "R12 and r12 are one room": two paths that are typed with the same letters select the same nodes.
module _ (p q : Path) (v : Within p) (w : Within q) (e : same_label (write p) (write q) ≡ true) where
  letters_path : folded_path p ≡ folded_path q
  letters_path = unique (folded_path p) (folded_path q) (within-kept p v) (within-kept q w) (path_text p ∙ same-folded (write p) (write q) e ∙ sym (path_text q))

  pub paths_any_case : (mine : List ℕ → Bool) (t : Nodes) (c : Context) → node_set p mine t c ≡ node_set q mine t c
  paths_any_case mine t c = sym (path_any_case mine t p c) ∙ ap (λ r. node_set r mine t c) letters_path ∙ path_any_case mine t q c

  pub texts_any_case : (mine : List ℕ → Bool) (t : Nodes) → xpath_selection (write p) mine t ≡ xpath_selection (write q) mine t
  unfolding xpath_selected
  texts_any_case mine t =
      ap (λ f. each_from f 0 (length t))
      (fun_ext (λ i. rw (complete p v, complete q w) (ap (has i) (paths_any_case mine t document))))

-- A rule gives the same rights with the labels of its path in small letters.

abbrev pub folded_rule : Rule → Rule
folded_rule r = record { accept = r.accept; right = r.right; who = r.who; path = map (λ w. (w.0, folded_test w.1)) r.path }

module _ (P : Policy) (u : ℕ) where
  steps_any_case : (ws : List (Axis × Test)) → map (step_for (passes_own P u)) (map (λ w. (w.0, folded_test w.1)) ws) ≡ map (step_for (passes_own P u)) ws
  steps_any_case [] = refl
  steps_any_case (w ∷ ws) = rw (test_any_case (passes_own P u) w.1, steps_any_case ws)

  pub rules_any_case : (c : List (List ℕ)) (rs : List Rule) (set : ℕ) → decide P u c (map folded_rule rs) set ≡ decide P u c rs set
  unfolding decide
  rules_any_case c [] set = refl
  rules_any_case c (r ∷ rs) set =
      ap (λ ss. decide P u c (map folded_rule rs) (cond (is P u r.who) (tried ss c r.right r.accept set) set)) (steps_any_case r.path)
      ∙ rules_any_case c rs _

  -- The rights on a node are the same with the labels from the root to it in small letters.

  passes_any_case : (x : Test) (l : List ℕ) → passes (passes_own P u) x (folded_label l) ≡ passes (passes_own P u) x l
  unfolding passes
  passes_any_case (label s) l = same_left (folded_label l) l (folded_like l) s
  passes_any_case any l = refl
  passes_any_case own l = own_same P (folded_label l) l (folded_like l) u

  chain_any_case : (ws : List (Axis × Test)) (c : List (List ℕ)) → reaches (map (step_for (passes_own P u)) ws) (map folded_label c) ≡ reaches (map (step_for (passes_own P u)) ws) c
  unfolding reaches
  chain_any_case [] [] = refl
  chain_any_case [] (x ∷ xs) = refl
  chain_any_case (w ∷ ws) [] = refl
  chain_any_case (w ∷ ws) (x ∷ xs) = rw (passes_any_case w.1 x, chain_any_case ws xs, chain_any_case (w ∷ ws) xs)

  decided_any_case : (c : List (List ℕ)) (rs : List Rule) (set : ℕ) → decide P u (map folded_label c) rs set ≡ decide P u c rs set
  unfolding decide
  decided_any_case c [] set = refl
  decided_any_case c (r ∷ rs) set = rw (chain_any_case r.path c) (decided_any_case c rs _)

  pub rights_any_case : (c : List (List ℕ)) → rights_by P u (map folded_label c) ≡ rights_by P u c
  unfolding rights_by
  rights_any_case c = decided_any_case c P.rules 0
