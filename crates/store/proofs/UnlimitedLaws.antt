-- What a line would do if lines had no length limit is what it does where it is within the limit. Assumes nothing.
use Prim.Native.Nat.{ℕ, ◌≤◌}
use mathlib.Core.Path.{◌≡◌, refl, ◌∙◌}
use mathlib.Core.Bool.{Bool, true, false, not, cond, ◌||◌}
use mathlib.Core.List.{List, [], ◌∷◌, ◌++◌}
use native.Mathlib.Omega.{arith}
use borrow.Author.Tests.{leb-true, le-leb}
use lib.Dec.{eqb, leb}
use lib.ListN.{length}
use Rattle.rights.specs.Bytes.{bytes, all, digit_byte}
use Rattle.rights.specs.Labels.{label_byte}
use Rattle.rights.specs.Policy.{Right, position, read, insert, update, delete}
use Rattle.rights.specs.Tree.{Tree, tree, Trees, none, more, write_tree, write_trees}
use Rattle.rights.proofs.PathComplete.{all_append}
use Rattle.rights.proofs.PathTexts.{and_left}
use Rattle.rights.proofs.TableLaws.{both}
use Rattle.forms.specs.Kind.{Kind, Label, Path, Tree as TreeKind, Sign, Right as RightKind, Day}
use Rattle.forms.specs.Layout.{letters, shape_of}
use Rattle.forms.specs.Command.{Value, Values, Command, write_right, write_value, write_values, written, run_byte, GoodPath, GoodDay, GoodValue, GoodValues, GoodCommand}
use Rattle.forms.proofs.FormTextLaws.{word_law}
use Rattle.forms.specs.Text.{line_byte, line_ok}
use Rattle.forms.specs.TreeText.{GoodLabel, GoodTree, GoodTrees}
use Rattle.forms.proofs.WordLaws.{label_range}
use Rattle.lines.specs.Effect.{performed}
use Rattle.lines.specs.Refusal.{checked}
use Rattle.store.specs.Line.{step}
use Rattle.store.specs.Load.{step_unlimited}
use Rattle.store.proofs.ClauseLaws.{step-written}

-- Each byte of a line that writes a command is 32 to 126, so 1 turns it down for its length alone

all_in : (p q : ℕ → Bool) → ((b : ℕ) → p b ≡ true → q b ≡ true) → (xs : List ℕ) → all p xs ≡ true → all q xs ≡ true
unfolding all
all_in p q h [] a = refl
all_in p q h (x ∷ xs) a = let f = both (p x) (all p xs) a in rw (h x f.0) (all_in p q h xs f.1)

letters_clean : (l : List ℕ) → all label_byte l ≡ true → all line_byte l ≡ true
unfolding line_byte
letters_clean = all_in label_byte line_byte (λ b e. let r = label_range b e in rw (le-leb 32 b (omega (arith, r.0)), le-leb b 126 (omega (arith, r.1))))

label_clean : (l : List ℕ) → GoodLabel l → all line_byte l ≡ true
label_clean l g = letters_clean l g.2

path_clean : (p : List ℕ) → GoodPath p → all line_byte p ≡ true
unfolding run_byte
path_clean p g = all_in run_byte line_byte (λ b e. and_left (line_byte b) (not (eqb b 32 || (eqb b 40 || eqb b 41))) e) p g.1

digits_clean : (d : List ℕ) → GoodDay d → all line_byte d ≡ true
unfolding digit_byte line_byte
digits_clean d g =
    all_in digit_byte line_byte
    (λ b e.
    let r = both (leb 48 b) (leb b 57) e in
    rw (le-leb 32 b (omega (arith, leb-true 48 b r.0)), le-leb b 126 (omega (arith, leb-true b 57 r.1))))
    d g.2

right_clean : (r : Right) → all line_byte (write_right r) ≡ true
unfolding write_right all line_byte
right_clean position = refl
right_clean read = refl
right_clean insert = refl
right_clean update = refl
right_clean delete = refl

sign_clean : (a : Bool) → all line_byte (cond a (bytes "accept") (bytes "deny")) ≡ true
unfolding all line_byte
sign_clean true = refl
sign_clean false = refl

mutual
  unfolding write_tree write_trees GoodTree GoodTrees all line_byte

  tree_clean : (u : Tree) → GoodTree u → all line_byte (write_tree u) ≡ true
  tree_clean (tree l us) g =
      all_append line_byte (l ++ write_trees us) (41 ∷ []) (all_append line_byte l (write_trees us) (label_clean l g.0) (trees_clean us g.1)) refl

  trees_clean : (us : Trees) → GoodTrees us → all line_byte (write_trees us) ≡ true
  trees_clean none g = refl
  trees_clean (more u us) g = all_append line_byte (write_tree u) (write_trees us) (tree_clean u g.0) (trees_clean us g.1)

value_clean : (k : Kind) (v : Value k) → GoodValue k v → all line_byte (write_value k v) ≡ true
unfolding write_value GoodValue
value_clean Label l g = label_clean l g
value_clean Path p g = path_clean p g
value_clean TreeKind u g = tree_clean u g
value_clean Sign a g = sign_clean a
value_clean RightKind r g = right_clean r
value_clean Day d g = digits_clean d g

values_clean : (ks : List Kind) (vs : Values ks) → GoodValues ks vs → all line_byte (write_values ks vs) ≡ true
unfolding all line_byte
values_clean [] vs g = refl
values_clean (k ∷ ks) (v, vs) g = all_append line_byte (write_value k v) (write_values ks vs) (value_clean k v g.0) (values_clean ks vs g.1)

command_clean : (c : Command) → GoodCommand c → all line_byte (written c) ≡ true
unfolding written all line_byte
command_clean c g =
    all_append line_byte (letters c.word) (write_values (shape_of c.word) c.values)
    (letters_clean (letters c.word) (word_law c.word).spelt) (values_clean (shape_of c.word) c.values g.values)

-- A line of at most 1,024 bytes that writes a command does what it would do if lines had no length limit.
pub step_unlimited_lem : (s t : List ℕ) (room : ℕ) (c : Command) → GoodCommand c → length (written c) ≤ 1024
    → step s t (written c) room ≡ step_unlimited s t c room
unfolding performed checked line_ok
step_unlimited_lem s t room c g h = step-written s t room c g ∙ rw (le-leb (length (written c)) 1024 h, command_clean c g)
