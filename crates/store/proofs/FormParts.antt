-- What the parts of a form that was read are: a label is a good one, a right is one of the five, a tree is a good tree. Assumes nothing.
use Prim.Native.Nat.{ℕ, suc, ◌+◌, ◌*◌, ◌≤◌}
use mathlib.Core.Path.{◌≡◌, refl}
use mathlib.Core.List.{List, [], ◌∷◌}
use mathlib.Core.Logic.{◌⊎◌, inl, inr}
use native.Mathlib.Omega.{arith}
use lib.ListN.{length, length-append}
use Rattle.rights.specs.Nodes.{Node}
use Rattle.rights.specs.Policy.{Right, bit_of}
use Rattle.rights.specs.Tree as text
use Rattle.rights.specs.Tree.{write_tree, write_trees, nodes_of, nodes_in}
use Rattle.forms.specs.TreeText.{GoodTree, GoodTrees, GoodLabel}
use Rattle.forms.specs.Kind.{Kind}
use Rattle.forms.specs.Kind as kind
use Rattle.forms.specs.Layout.{letters, shape_of}
use Rattle.forms.specs.Form.{Held, AllHeld, ReadForm, no_form, read_form}
use Rattle.forms.specs.Command.{Value, Values, Command, write_value, write_values, written, GoodValue, GoodValues, GoodCommand, held_of, all_held_of}
use Rattle.forms.proofs.FormTextLaws.{command_or_none}
use Rattle.forms.proofs.CommandLaws.{written_read}

-- the nodes of a tree that a line of s writes
pub record TreePart (s : List ℕ) (ns : List Node) : Type 0 where
  pub is : text.Tree
  pub good : GoodTree is
  pub nodes : ns ≡ nodes_of 0 is
  pub short : length (write_tree is) ≤ length s
  pub small : 32 * length ns ≤ 16 * length s

-- what the laws of a form lean on, by the kind of each part
abbrev pub PartFits : List ℕ → (k : Kind) → Held k → Type 0
PartFits s kind.Label l = GoodLabel l
PartFits s kind.Path p = Unit {0}
PartFits s kind.Tree ns = TreePart s ns
PartFits s kind.Sign b = Unit {0}
PartFits s kind.Right b = (r : Right) × (b ≡ bit_of r)
PartFits s kind.Day d = Unit {0}

abbrev pub AllFit : List ℕ → (ks : List Kind) → AllHeld ks → Type 0
AllFit s [] hs = Unit {0}
AllFit s (k ∷ ks) (h, hs) = PartFits s k h × AllFit s ks hs

abbrev pub Fits : List ℕ → ReadForm → Type 0
Fits s f = AllFit s (shape_of f.word) f.parts

-- a node takes three bytes or more of the text
mutual
  unfolding write_trees write_tree GoodTrees GoodTree nodes_in nodes_of

  tree_size : (t : text.Tree) (k : ℕ) → GoodTree t → 3 * length (nodes_of k t) ≤ length (write_tree t)
  tree_size (text.tree l ts) k g =
      let n : length (write_tree (text.tree l ts)) ≡ 1 + length l + length (write_trees ts) + 1 = simp length-append (omega arith) in
      omega (arith, n, g.0.0, trees_size ts (suc k) g.1)

  trees_size : (ts : text.Trees) (k : ℕ) → GoodTrees ts → 3 * length (nodes_in k ts) ≤ length (write_trees ts)
  trees_size text.none k g = omega arith
  trees_size (text.more t ts) k g =
      let n : length (write_trees (text.more t ts)) ≡ 1 + length (write_tree t) + length (write_trees ts) = simp length-append (omega arith) in
      omega (arith, n, length-append (nodes_of k t) (nodes_in k ts), tree_size t k g.0, trees_size ts k g.1)

value_fits : (s : List ℕ) (k : Kind) (v : Value k) → GoodValue k v → length (write_value k v) ≤ length s → PartFits s k (held_of k v)
unfolding write_value GoodValue
value_fits s kind.Label l g h = g
value_fits s kind.Path p g h = tt
value_fits s kind.Tree t g h = record { is = t; good = g; nodes = refl; short = h; small = omega (arith, tree_size t 0 g, h) }
value_fits s kind.Sign b g h = tt
value_fits s kind.Right r g h = (r, refl)
value_fits s kind.Day d g h = tt

values_fit : (s : List ℕ) (ks : List Kind) (vs : Values ks) → GoodValues ks vs → length (write_values ks vs) ≤ length s → AllFit s ks (all_held_of ks vs)
values_fit s [] vs g h = tt
values_fit s (k ∷ ks) (v, vs) g h =
    let n = length-append (write_value k v) (write_values ks vs) in
    (value_fits s k v g.0 (omega arith), values_fit s ks vs g.1 (omega arith))

-- What was read fits its line.
pub form_fits : (s : List ℕ) → Fits s (read_form s)
unfolding written
form_fits s = go (command_or_none s)
  where
    go : (read_form s ≡ no_form) ⊎ ((c : Command) × GoodCommand c × (s ≡ written c)) → Fits s (read_form s)
    go (inl e) = rw e tt
    go (inr (c, g, q)) =
        let ks = shape_of c.word in
        rw q (rw (written_read c g)
        (values_fit (written c) ks c.values g.values (omega (arith, length-append (letters c.word) (write_values ks c.values)))))
