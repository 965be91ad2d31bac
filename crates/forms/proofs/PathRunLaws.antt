-- Every path within the limits, written, passes for refusal 2 as a path: "any run of one or more bytes without space or parenthesis". Assumes nothing.
use Prim.Native.Nat.{ℕ, ◌≤◌, ◌<◌}
use mathlib.Core.Path.{◌≡◌, refl, sym, ◌∙◌}
use mathlib.Core.Bool.{Bool, true, false, cond, false≢true}
use mathlib.Core.List.{List, [], ◌∷◌, ◌++◌}
use mathlib.Core.Logic.{◌⊎◌, inl, inr}
use native.Mathlib.Omega.{arith}
use borrow.Author.Tests.{le-leb, lt-leb, ne_eqb}
use lib.Dec.{T}
use Rattle.rights.specs.Bytes.{all, digit_byte}
use Rattle.rights.specs.Labels.{label_byte}
use Rattle.rights.specs.Path.{Test, label, any, own, Path, last, next, Brackets, none, position, holds}
use Rattle.rights.specs.declared.path.Axis.{Axis}
use Rattle.rights.specs.declared.path.Axis.TheVariants.{Child, Descendant}
use Rattle.rights.specs.PathText.{decimal, write_test, write_step, write_steps, write_brackets, write, GoodTest, GoodSteps, GoodBrackets, Within}
use Rattle.rights.proofs.RangeLaws.{flat, on_range, lt_or_ge}
use Rattle.rights.proofs.PathComplete.{all_append, decimal_digits}
use Rattle.rights.proofs.PathTexts.{and_left, and_right}
use Rattle.forms.specs.Text.{line_byte}
use Rattle.forms.specs.Command.{GoodPath, run_byte}

-- a class whose bytes below 127 are such bytes, and which has none above
class_run : (f : ℕ → Bool) → T (flat (λ a. cond (f a) (run_byte a) true) true 0 127) → ((b : ℕ) → 127 ≤ b → f b ≡ false) → (b : ℕ) → f b ≡ true → run_byte b ≡ true
class_run f low high b e = go (lt_or_ge b 127)
  where
    go : (b < 127) ⊎ (127 ≤ b) → run_byte b ≡ true
    go (inl h) = let z = sym (on_range (λ a. cond (f a) (run_byte a) true) true 0 127 low b (omega arith) (omega arith)) in rw e at z
    go (inr h) = absurd (false≢true (sym (high b h) ∙ e))

label-run : (b : ℕ) → label_byte b ≡ true → run_byte b ≡ true
unfolding label_byte run_byte line_byte
label-run = class_run label_byte tt (λ b h. rw (
  le-leb 97 b (omega arith),
  lt-leb b 122 (omega arith),
  le-leb 65 b (omega arith),
  lt-leb b 90 (omega arith),
  le-leb 48 b (omega arith),
  lt-leb b 57 (omega arith),
  ne_eqb b 45 (λ q. omega arith),
  ne_eqb b 46 (λ q. omega arith),
  ne_eqb b 95 (λ q. omega arith),
))

digit_run : (b : ℕ) → digit_byte b ≡ true → run_byte b ≡ true
unfolding digit_byte run_byte line_byte
digit_run = class_run digit_byte tt (λ b h. rw (le-leb 48 b (omega arith), lt-leb b 57 (omega arith)))

all-run : (f : ℕ → Bool) → ((b : ℕ) → f b ≡ true → run_byte b ≡ true) → (s : List ℕ) → all f s ≡ true → all run_byte s ≡ true
unfolding all
all-run f h [] e = refl
all-run f h (b ∷ s) e = rw (h b (and_left (f b) (all f s) e)) (all-run f h s (and_right (f b) (all f s) e))

test_run : (x : Test) → GoodTest x → all run_byte (write_test x) ≡ true
unfolding GoodTest write_test all run_byte line_byte
test_run (label l) g = all-run label_byte label-run l g.2
test_run any g = refl
test_run own g = refl

step_run : (a : Axis) (x : Test) → GoodTest x → all run_byte (write_step a x) ≡ true
unfolding write_step all run_byte line_byte
step_run Child x g = test_run x g
step_run Descendant x g = test_run x g

mutual
  unfolding write_steps write_brackets GoodSteps GoodBrackets all run_byte line_byte

  steps-run : (p : Path) → GoodSteps p → all run_byte (write_steps p) ≡ true
  steps-run (last a x bs) g = all_append run_byte (write_step a x) (write_brackets bs) (step_run a x g.0) (brackets-run bs g.2)
  steps-run (next a x bs p) g =
      all_append run_byte (write_step a x ++ write_brackets bs) (47 ∷ write_steps p) (all_append run_byte (write_step a x) (write_brackets bs) (step_run a x g.0) (brackets-run bs g.2)) (steps-run p g.3)

  brackets-run : (bs : Brackets) → GoodBrackets bs → all run_byte (write_brackets bs) ≡ true
  brackets-run none g = refl
  brackets-run (position n bs) g =
      all_append run_byte (decimal 4 n) (93 ∷ write_brackets bs) (all-run digit_byte digit_run (decimal 4 n) (decimal_digits 4 n)) (brackets-run bs g.2)
  brackets-run (holds p bs) g = all_append run_byte (write_steps p) (93 ∷ write_brackets bs) (steps-run p g.3) (brackets-run bs g.4)

pub path_passes : (p : Path) → Within p → GoodPath (write p)
unfolding write all run_byte line_byte
path_passes p w = (omega arith, steps-run p w.good)
