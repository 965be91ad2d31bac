-- How long an answer is at most: 12 bytes and 35 for each node, where levels run to 11 and labels have at most 24 bytes. Assumes nothing.
use Prim.Native.Nat.{ℕ, zero, suc, ◌+◌, ◌-◌, ◌*◌, ◌/◌, ◌^◌, ◌≤◌, ◌<◌}
use mathlib.Core.Path.{◌≡◌, refl}
use mathlib.Core.Bool.{Bool, true, false}
use mathlib.Core.List.{List, [], ◌∷◌}
use native.Mathlib.Omega.{arith}
use native.Mathlib.Nat.{pow-succ'}
use lib.Dec.{ltb, eqb}
use lib.ListN.{length, length-append, length-replicate}
use borrow.Author.Tests.{ltb-false, eqb-true, eqb-false}
use Rattle.rights.specs.PathText.{decimal}
use Rattle.rights.specs.Nodes.{Node, level_of, label_of, level_at, TreeShaped}
use Rattle.rights.specs.Marks.{keep}
use Rattle.rights.proofs.ListLaws.{by_case}
use Rattle.answers.specs.Answer.{done_text, refused_text, hit_line, hit_lines, query_text, find_text, opening, closing, child_lines, view_text}

-- Numbers

digits_most : (k d n : ℕ) → n < 10 ^ suc d → length (decimal k n) ≤ suc d
unfolding decimal
digits_most zero d n h = omega arith
digits_most (suc k) d n h =
    by_case (ltb n 10)
    (λ e. rw e (omega arith))
    (λ e. rw (e, length-append) (more d (ltb-false n 10 e) h (λ d' l. digits_most k d' (n / 10) l)))
  where
    more : (d : ℕ) → 10 ≤ n → n < 10 ^ suc d → ((d' : ℕ) → n / 10 < 10 ^ suc d' → length (decimal k (n / 10)) ≤ suc d') → length (decimal k (n / 10)) + 1 ≤ suc d
    more zero l h f = absurd (omega arith)
    more (suc d') l h f = let p : n < 10 * 10 ^ suc d' = rw (pow-succ' 10 (suc d')) at h in let q = f d' (omega arith) in omega arith

digits_few : (k n : ℕ) → length (decimal k n) ≤ suc n
unfolding decimal
digits_few zero n = omega arith
digits_few (suc k) n = by_case (ltb n 10) (λ e. rw e (omega arith)) (λ e. rw (e, length-append) (omega (arith, digits_few k (n / 10), ltb-false n 10 e)))

-- A node as a table holds it

abbrev pub Small : Node → Type 0
Small n = (level_of n ≤ 11) × (length (label_of n) ≤ 24)

abbrev pub AllSmall : List Node → Type 0
AllSmall [] = Unit {0}
AllSmall (n ∷ ns) = Small n × AllSmall ns

pub small_kept : (ms : List Bool) (ns : List Node) → AllSmall ns → AllSmall (keep ms ns)
unfolding keep
small_kept [] ns a = tt
small_kept (m ∷ ms) [] a = tt
small_kept (true ∷ ms) (n ∷ ns) a = (a.0, small_kept ms ns a.1)
small_kept (false ∷ ms) (n ∷ ns) a = small_kept ms ns a.1

-- Hits

hit_most : (n : Node) → Small n → length (hit_line n) ≤ 34
hit_most n s = simp length-append (omega (arith, s.1, digits_most 20 1 (level_of n) (omega (arith, s.0))))

hits_most : (ns : List Node) → AllSmall ns → length (hit_lines ns) ≤ 34 * length ns
unfolding hit_lines
hits_most [] a = omega arith
hits_most (n ∷ ns) a = rw (length-append (hit_line n) (hit_lines ns)) (omega (arith, hit_most n a.0, hits_most ns a.1))

pub query_most : (ns : List Node) → AllSmall ns → length (query_text ns) ≤ 12 + 35 * length ns
query_most ns a = simp length-append (omega (arith, hits_most ns a, digits_few 20 (length ns)))

pub find_most : (ns : List Node) → AllSmall ns → length (find_text ns) ≤ 12 + 35 * length ns
find_most [] a = omega arith
find_most (n ∷ ns) a = omega (arith, hit_most n a.0)

-- `(refused N)`
refused_digits : (k n : ℕ) → length (decimal k n) ≤ k
unfolding decimal
refused_digits zero n = omega arith
refused_digits (suc k) n = by_case (ltb n 10) (λ e. rw e (omega arith)) (λ e. rw (e, length-append) (omega (arith, refused_digits k (n / 10))))

pub refused_most : (n : ℕ) → length (refused_text n) < 32
refused_most n = simp length-append (omega (arith, refused_digits 20 n))

-- `(done S D)`, of nodes that are no more than k
pub done_most : (s d k : ℕ) → s ≤ k → d ≤ k → length (done_text s d) ≤ 12 + 35 * k
done_most s d k p q = simp length-append (omega (arith, digits_few 20 s, digits_few 20 d))

-- Views: what a node of level l takes before one of level k comes

node_most : (l k : ℕ) → 0 < l → 0 < k → k ≤ suc l → length (opening l) + length (closing (suc l) k) + 3 * (k - 1) ≤ 11 + 3 * (l - 1)
node_most l k p q h =
    by_case (eqb l 1)
    (λ e. by_case (eqb k 1)
    (λ f. rw (e, f) (simp (length-append, length-replicate) (omega (arith, eqb-true l 1 e, eqb-true k 1 f))))
    (λ f. rw (e, f) (simp (length-append, length-replicate) (omega (arith, eqb-true l 1 e, eqb-false k 1 f)))))
    (λ e. by_case (eqb k 1)
    (λ f. rw (e, f) (simp (length-append, length-replicate) (omega (arith, eqb-false l 1 e, eqb-true k 1 f))))
    (λ f. rw (e, f) (simp (length-append, length-replicate) (omega (arith, eqb-false l 1 e, eqb-false k 1 f)))))

-- each node, and what is open before the first
children_most : (n : Node) (ns : List Node) → AllSmall (n ∷ ns) → ((i : ℕ) → i < length (n ∷ ns) → 0 < level_at (n ∷ ns) i)
    → ((i : ℕ) → suc i < length (n ∷ ns) → level_at (n ∷ ns) (suc i) ≤ suc (level_at (n ∷ ns) i)) → length (child_lines (n ∷ ns)) ≤ 35 * suc (length ns) + 3 * (level_of n - 1)
unfolding child_lines level_at
children_most n [] a one steps =
    rw (length-append (opening (level_of n)) _, length-append (label_of n) _, length-append (closing (suc (level_of n)) 1) _)
    (omega (arith, node_most (level_of n) 1 (one 0 (omega arith)) (omega arith) (omega (arith, one 0 (omega arith))), a.0.1))
children_most n (m ∷ ns) a one steps =
    let r = children_most m ns a.1 (λ i h. one (suc i) (omega arith)) (λ i h. steps (suc i) (omega arith)) in
    rw (length-append (opening (level_of n)) _, length-append (label_of n) _, length-append (closing (suc (level_of n)) (level_of m)) _)
    (omega (arith, r, node_most (level_of n) (level_of m) (one 0 (omega arith)) (one 1 (omega arith)) (steps 0 (omega arith)), a.0.1))

no_children : length (child_lines []) ≡ 0
unfolding child_lines
no_children = refl

pub view_most : (ns : List Node) → TreeShaped ns → AllSmall ns → length ns ≤ 16384 → length (view_text ns) ≤ 12 + 35 * length ns
unfolding view_text level_at
view_most [] s a h = simp length-append (omega (arith, digits_few 20 0))
view_most (r ∷ []) s a h = simp length-append (omega (arith, a.0.1, no_children, digits_most 20 4 1 (omega arith)))
view_most (r ∷ n ∷ ns) s a h = go
  where
    first : level_of n ≤ 1
    first = let k = s.steps 0 (omega arith) in omega (arith, k, s.root)

    below : length (child_lines (n ∷ ns)) ≤ 35 * suc (length ns) + 3 * (level_of n - 1)
    below = children_most n ns a.1 (λ i l. s.one (suc i) (omega arith) (omega arith)) (λ i l. s.steps (suc i) (omega arith))

    go : length (view_text (r ∷ n ∷ ns)) ≤ 12 + 35 * length (r ∷ n ∷ ns)
    go = simp length-append (omega (arith, a.0.1, below, first, digits_most 20 4 (suc (suc (length ns))) (omega arith)))
