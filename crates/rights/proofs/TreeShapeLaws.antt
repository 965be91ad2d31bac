-- What makes a list of nodes a tree, node by node. Assumes nothing.
use Prim.Native.Nat.{ℕ, zero, suc, ◌≤◌, ◌<◌}
use mathlib.Core.Path.{◌≡◌, refl}
use mathlib.Core.List.{[], ◌∷◌}
use native.Mathlib.Omega.{arith}
use lib.ListN.{length}
use Rattle.rights.specs.Nodes.{Node, Nodes, level_of, level_at, TreeShaped}

-- after a node of level l come nodes of levels from 1 to one more than the one before
abbrev pub Linked : ℕ → Nodes → Type 0
Linked l [] = Unit {0}
Linked l (x ∷ xs) = (0 < level_of x) × (level_of x ≤ suc l) × Linked (level_of x) xs

linked_one : (l : ℕ) (xs : Nodes) → Linked l xs → (i : ℕ) → i < length xs → 0 < level_at xs i
unfolding level_at
linked_one l [] k i h = absurd (omega arith)
linked_one l (x ∷ xs) k zero h = k.0
linked_one l (x ∷ xs) k (suc i) h = linked_one (level_of x) xs k.2 i (omega arith)

linked_steps : (x : Node) (xs : Nodes) → Linked (level_of x) xs → (i : ℕ) → suc i < length (x ∷ xs) → level_at (x ∷ xs) (suc i) ≤ suc (level_at (x ∷ xs) i)
unfolding level_at
linked_steps x [] k i h = absurd (omega arith)
linked_steps x (y ∷ ys) k zero h = k.1
linked_steps x (y ∷ ys) k (suc i) h = linked_steps y ys k.2 i (omega arith)

pub linked_nested : (x : Node) (xs : Nodes) → level_of x ≡ 0 → Linked (level_of x) xs → TreeShaped (x ∷ xs)
unfolding level_at
linked_nested x xs e k = record { root = e; one = one; steps = linked_steps x xs k }
  where
    one : (i : ℕ) → 0 < i → i < length (x ∷ xs) → 0 < level_at (x ∷ xs) i
    one zero a b = absurd (omega arith)
    one (suc i) a b = linked_one (level_of x) xs k i (omega arith)

pub nothing_nested : TreeShaped []
unfolding level_at
nothing_nested = record { root = refl; one = λ i a b. absurd (omega arith); steps = λ i a. absurd (omega arith) }

-- and back
pub nested_linked : (x : Node) (xs : Nodes) → TreeShaped (x ∷ xs) → (level_of x ≡ 0) × Linked (level_of x) xs
unfolding level_at
nested_linked x xs t = (t.root, go x xs (λ i h. t.one (suc i) (omega arith) (omega arith)) t.steps)
  where
    go : (x : Node) (xs : Nodes) → ((i : ℕ) → i < length xs → 0 < level_at xs i) → ((i : ℕ) → suc i < length (x ∷ xs) → level_at (x ∷ xs) (suc i) ≤ suc (level_at (x ∷ xs) i)) → Linked (level_of x) xs
    go x [] o s = tt
    go x (y ∷ ys) o s = (o 0 (omega arith), s 0 (omega arith), go y ys (λ i h. o (suc i) (omega arith)) (λ i h. s (suc i) (omega arith)))
