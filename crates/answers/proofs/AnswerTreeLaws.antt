-- A view is printed as nested trees: "a tree is a label followed by trees, written `(label tree ...)`". Assumes nothing.
use Prim.Native.Nat.{ℕ, zero, suc, ◌+◌, ◌-◌, ◌≤◌, ◌<◌}
use mathlib.Core.Path.{◌≡◌, refl, sym, ap, ◌∙◌}
use mathlib.Core.Bool.{Bool, true, false, cond}
use mathlib.Core.List.{List, [], ◌∷◌, ◌++◌, append_assoc, append-nil}
use native.Mathlib.Omega.{arith}
use native.Mathlib.Nat.{zero-add, suc-add}
use lib.Dec.{eqb}
use lib.ListN.{length, replicate, length-replicate}
use borrow.Author.Tests.{ne_eqb}
use Rattle.rights.specs.Nodes.{Node, node, level_at, TreeShaped}
use Rattle.answers.specs.Answer.{opening, closing, next_level, child_lines, view_text}
use Rattle.rights.specs.Bytes.{bytes}
use Rattle.rights.specs.Tree.{Tree, tree, Trees, none, more, write_tree, write_trees, nodes_of, nodes_in}
use Rattle.answers.specs.AnswerTree.{lines_of, tree_text, Printed}
use Rattle.rights.specs.PathText.{decimal}

-- what stands before a tree of level l
abbrev start : ℕ → List ℕ
start l = cond (eqb l 1) (bytes "(child ") (32 ∷ [])

opening-start : (l : ℕ) → opening l ≡ start l ++ (40 ∷ [])
opening-start l = go (eqb l 1)
  where
    go : (b : Bool) → cond {A = List ℕ} b (bytes "(child (") (32 ∷ 40 ∷ []) ≡ cond {A = List ℕ} b (bytes "(child ") (32 ∷ []) ++ (40 ∷ [])
    go true = refl
    go false = refl

closing_more : (l m : ℕ) → m ≤ l → closing (suc l) m ≡ 41 ∷ closing l m
closing_more l m h = let e : suc l - m ≡ suc (l - m) = omega arith in rw e

closing-none : (l : ℕ) → 1 < l → closing l l ≡ []
closing-none l h = let e : l - l ≡ 0 = omega arith in rw (e, ne_eqb l 1 (λ z. omega arith))

-- the level of the next node, where trees of level l come first
next_in : (l : ℕ) (ts : Trees) (rest : List Node) → next_level rest ≤ l → next_level (nodes_in l ts ++ rest) ≤ l
unfolding nodes_of
next_in l none rest h = h
next_in l (more (tree s us) ts) rest h = omega arith

mutual
  unfolding child_lines nodes_of write_tree

  tree_lines : (l : ℕ) (t : Tree) (rest : List Node) → 1 ≤ l → next_level rest ≤ l
      → child_lines (nodes_of l t ++ rest) ≡ start l ++ (write_tree t ++ (closing l (next_level rest) ++ child_lines rest))
  tree_lines l (tree s ts) rest g h =
      rw (opening-start l, trees_lines (suc l) ts rest (omega arith) (omega arith), closing_more l (next_level rest) h)
      (let x : List ℕ = closing l (next_level rest) ++ child_lines rest in
      append_assoc (start l) (40 ∷ []) (s ++ (write_trees ts ++ (41 ∷ x)))
      ∙ ap (λ (y : List ℕ). start l ++ (40 ∷ y)) (sym (append_assoc (s ++ write_trees ts) (41 ∷ []) x ∙ append_assoc s (write_trees ts) (41 ∷ x))))

  -- inside a line: the ends of trees, and the next ones
  trees_lines : (l : ℕ) (ts : Trees) (rest : List Node) → 1 < l → next_level rest ≤ l
      → closing l (next_level (nodes_in l ts ++ rest)) ++ child_lines (nodes_in l ts ++ rest) ≡ write_trees ts ++ (closing l (next_level rest) ++ child_lines rest)
  trees_lines l none rest g h = refl
  trees_lines l (more t ts) rest g h =
      rw (append_assoc (nodes_of l t) (nodes_in l ts) rest, next_first l t (nodes_in l ts ++ rest), closing-none l g)
      (tree_lines l t (nodes_in l ts ++ rest) (omega arith) (next_in l ts rest h)
      ∙ rw (ne_eqb l 1 (λ z. omega arith), trees_lines l ts rest g h, append_assoc (write_tree t) (write_trees ts) (closing l (next_level rest) ++ child_lines rest)))

  next_first : (l : ℕ) (t : Tree) (rest : List Node) → next_level (nodes_of l t ++ rest) ≡ l
  next_first l (tree s ts) rest = refl

trees_in_lines : (ts : Trees) → child_lines (nodes_in 1 ts) ≡ lines_of ts
unfolding nodes_of lines_of child_lines
trees_in_lines none = refl
trees_in_lines (more t ts) =
    tree_lines 1 t (nodes_in 1 ts) (omega arith) (first ts)
    ∙ rw (next_one ts, trees_in_lines ts)
  where
    next_one : (ts : Trees) → next_level (nodes_in 1 ts) ≡ 1
    next_one none = refl
    next_one (more (tree s us) ts) = refl

    first : (ts : Trees) → next_level (nodes_in 1 ts) ≤ 1
    first ts = omega (arith, next_one ts)

-- The answer to `view` is that of the nested tree whose nodes, in document order, are the view.
pub view_of_tree : (t : Tree) → view_text (nodes_of 0 t) ≡ tree_text t
unfolding view_text tree_text nodes_of
view_of_tree (tree l ts) = rw (trees_in_lines ts)

-- Every view is such a list of nodes: its root is at level 0, the others are below it, and no level is left out on the way down.

-- trees of level `length fs`, then of one level less, down to level 1
stacked : List Trees → List Node
stacked [] = []
stacked (f ∷ fs) = nodes_in (suc (length fs)) f ++ stacked fs

Stack : ℕ → List Node → Type 0
Stack k ns = (fs : List Trees) × (length fs ≡ k) × (stacked fs ≡ ns)

-- no trees of further levels
raised : (d k : ℕ) (ns : List Node) → Stack k ns → Stack (d + k) ns
unfolding Stack stacked nodes_of
raised zero k ns (fs, e, q) = (fs, e ∙ sym (zero-add k), q)
raised (suc d) k ns x = let y = raised d k ns x in (none ∷ y.0, ap suc y.1 ∙ sym (suc-add d k), y.2)

-- a node takes the trees of the next level as its own
grown : (l : ℕ) (s : List ℕ) (ns : List Node) → 0 < l → Stack (suc l) ns → Stack l (node l s ∷ ns)
unfolding Stack stacked nodes_of
grown l s ns h ([], e, q) = absurd (omega arith)
grown l s ns h (c ∷ [], e, q) = absurd (omega arith)
grown l s ns h (c ∷ (f ∷ fs), e, q) =
    let k : suc (length fs) ≡ l = omega arith in
    (more (tree s c) f ∷ fs, k, rw k (ap (node l s ∷◌) (append_assoc (nodes_in (suc l) c) (nodes_in l f) (stacked fs) ∙ rw k at q)))

stack : (ns : List Node) → ((i : ℕ) → i < length ns → 0 < level_at ns i) → ((i : ℕ) → suc i < length ns → level_at ns (suc i) ≤ suc (level_at ns i))
    → (k : ℕ) → next_level ns ≤ k → Stack k ns
unfolding Stack stacked nodes_of level_at
stack [] o s k h = (replicate k none, length-replicate k none, empty k)
  where
    empty : (k : ℕ) → stacked (replicate k none) ≡ []
    empty zero = refl
    empty (suc k) = empty k
stack (node l x ∷ ns) o s k h =
    let e : k - l + l ≡ k = omega arith in
    rw e at (raised (k - l) l (node l x ∷ ns) (grown l x ns (o 0 (omega arith))
    (stack ns (λ i g. o (suc i) (omega arith)) (λ i g. s (suc i) (omega arith)) (suc l) (next ns (s 0)))))
  where
    next : (ns : List Node) → (suc 0 < suc (length ns) → level_at (node l x ∷ ns) 1 ≤ suc l) → next_level ns ≤ suc l
    next [] g = omega arith
    next (node m y ∷ ns) g = g (omega arith)

-- A view that is not empty is the nodes of a tree.
pub tree_of_view : (vs : List Node) → 0 < length vs → TreeShaped vs → (t : Tree) × (nodes_of 0 t ≡ vs)
unfolding Stack stacked nodes_of level_at
tree_of_view [] h n = absurd (omega arith)
tree_of_view (node l x ∷ ns) h n =
    go (stack ns (λ i g. n.one (suc i) (omega arith) (omega arith)) (λ i g. n.steps (suc i) (omega arith)) 1 (next ns (n.steps 0)))
  where
    next : (ns : List Node) → (suc 0 < suc (length ns) → level_at (node l x ∷ ns) 1 ≤ suc l) → next_level ns ≤ 1
    next [] g = omega arith
    next (node m y ∷ ns) g = let a = g (omega arith) in omega (arith, n.root)

    go : Stack 1 ns → (t : Tree) × (nodes_of 0 t ≡ node l x ∷ ns)
    go ([], e, q) = absurd (omega arith)
    go (f ∷ [], e, q) = (tree x f, let z : l ≡ 0 = n.root in rw z (ap (node 0 x ∷◌) (sym (append-nil (nodes_in 1 f)) ∙ q)))
    go (f ∷ (g ∷ gs), e, q) = absurd (omega arith)

-- So is what is printed of a view that shows something.
pub view-printed : (vs : List Node) → 0 < length vs → TreeShaped vs → Printed vs (view_text vs)
unfolding tree_text
view-printed vs h n = go (tree_of_view vs h n)
  where
    go : (t : Tree) × (nodes_of 0 t ≡ vs) → Printed vs (view_text vs)
    go (tree l ts, e) = record {
      label = l;
      children = ts;
      nodes = sym e;
      is = ap view_text (sym e) ∙ view_of_tree (tree l ts) ∙ rw e (append_assoc (bytes "(root ") (l ++ bytes ")\n") _ ∙ ap (λ (u : List ℕ). bytes "(root " ++ u) (append_assoc l (bytes ")\n") _));
    }

-- and nothing but this where nothing is shown
pub view_empty : view_text [] ≡ bytes "(end 0)\n"
unfolding view_text decimal
view_empty = refl
