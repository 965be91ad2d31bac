-- What is read as a tree is what is written as one, and its nodes are the tree's in document order. Assumes nothing.
use Rattle.std.specs.Prelude.{Option, Some, None}
use Prim.Native.Nat.{ℕ, zero, suc, ◌+◌, ◌-◌, ◌*◌, ◌≤◌}
use mathlib.Core.Path.{◌≡◌, refl, sym, ap, ◌∙◌}
use mathlib.Core.List.{List, [], ◌∷◌, ◌++◌, append_assoc, append-nil}
use mathlib.Core.Bool.{Bool, true, false}
use native.Mathlib.Omega.{arith}
use native.Mathlib.Numerals.{add-one}
use native.Mathlib.Nat.{add-zero}
use lib.Dec.{eqb}
use lib.ListN.{length, get_or, take, drop, length-append, length-drop}
use lib.Seq.{drop-drop, drop-append_seam, take-append_seam}
use borrow.Author.Tests.{ne_eqb, le-leb, eqb-true, eqb-false}
use Rattle.rights.specs.Limits.{label_max}
use Rattle.rights.specs.Bytes.{byte_at, all, run}
use Rattle.rights.specs.Labels.{label_byte}
use Rattle.rights.specs.PathReader.{run_at}
use Rattle.rights.proofs.PathTexts.{cond_elim, Reads, reads_more, reads_byte, reads_take, run-all, run_length, run_over, byte_here}
use Rattle.forms.specs.Part.{short_end, label_end}
use Rattle.rights.specs.Nodes.{Node, node}
use Rattle.forms.specs.Tree.{◌and_then◌, open_end, tail_end, tail_nodes, tree_end, tree_nodes}
use Rattle.rights.specs.Tree.{Tree, tree, Trees, none, more, write_tree, write_trees, nodes_of, nodes_in}
use Rattle.forms.specs.TreeText.{Short, GoodLabel, GoodTree, GoodTrees}
use Rattle.forms.proofs.PartLaws.{short_is}
use Rattle.forms.proofs.TreeLaws.{Opened, opened}

-- A tree that is written is read

module _ (s : List ℕ) (at : ℕ) where
  pub drop_over : (w r : List ℕ) → drop at s ≡ w ++ r → drop (at + length w) s ≡ r
  drop_over w r e = rw (← (drop-drop (length w) at s), e) (drop-append_seam w r)

  -- a run of at most so many bytes: one that is written is read, and one that is read was written
  pub short_reads : (f : ℕ → Bool) (most : ℕ) (l r : List ℕ) → Short f most l → drop at s ≡ l ++ r → f (get_or r 0 0) ≡ false → short_end f most s at ≡ Some (at + length l)
  short_reads f most l r g e h =
      let q : run_at f s at ≡ length l = rw e (run_over f l r g.2 h) in
      rw (q, le-leb 1 (length l) g.0, le-leb (length l) most g.1)

  pub short_sound : (f : ℕ → Bool) (most j : ℕ) → short_end f most s at ≡ Some j → (w : List ℕ) × Short f most w × Reads s at w j
  short_sound f most j e =
      let x = short_is f most s at j e in
      let q = run_length f (drop at s) in
      (take (run_at f s at) (drop at s), (rw q x.1, rw q x.2, run-all f (drop at s)), rw x.0 (reads_take s at (run_at f s at)))

  pub label_reads : (l r : List ℕ) → GoodLabel l → drop at s ≡ l ++ r → label_byte (get_or r 0 0) ≡ false → label_end s at ≡ Some (at + length l)
  unfolding label_end
  label_reads = short_reads label_byte label_max

pub open_reads : (s : List ℕ) (at : ℕ) (l r : List ℕ) → GoodLabel l → drop at s ≡ 40 ∷ (l ++ r) → label_byte (get_or r 0 0) ≡ false → open_end s at ≡ Some (at + 1 + length l)
unfolding open_end
open_reads s at l r g e h =
    let b : byte_at s at ≡ 40 = rw (byte_here s at, e) in
    rw b (label_reads s (at + 1) l r g (drop_over s at (40 ∷ []) (l ++ r) e) h)

first_trees : (ts : Trees) (r : List ℕ) → label_byte (get_or r 0 0) ≡ false → label_byte (get_or (write_trees ts ++ r) 0 0) ≡ false
unfolding write_trees write_tree label_byte
first_trees none r h = h
first_trees (more t ts) r h = refl

-- after a label: what `(label` and `)` leave to read
module _ (d at : ℕ) (x : Option ℕ) where
  step_open : (l u : List ℕ) → GoodLabel l → label_byte (get_or u 0 0) ≡ false → ((g : ℕ) → length u ≤ g → tail_end g (d + 1) (at + (1 + 1 + length l)) u ≡ x) → (f : ℕ) → length (32 ∷ 40 ∷ (l ++ u)) ≤ f → tail_end f d at (32 ∷ 40 ∷ (l ++ u)) ≡ x
  unfolding tail_end
  step_open l u g h k zero n = absurd (omega arith)
  step_open l u g h k (suc f) n =
      let o = open_reads (32 ∷ 40 ∷ (l ++ u)) 1 l u g refl h in
      let z : 1 + 1 + length l ≡ suc (suc (length l)) = omega arith in
      let q : drop (1 + 1 + length l) (32 ∷ 40 ∷ (l ++ u)) ≡ u = rw z (drop-append_seam l u) in
      rw (o, q) (k f (omega (arith, length-append l u)))

  step_close : (v : List ℕ) → 1 ≤ d → ((g : ℕ) → length v ≤ g → tail_end g d (at + 1) v ≡ x) → (f : ℕ) → length (41 ∷ v) ≤ f → tail_end f (d + 1) at (41 ∷ v) ≡ x
  unfolding tail_end
  step_close v p k zero n = absurd (omega arith)
  step_close v p k (suc f) n =
      let z : d + 1 - 1 ≡ d = omega arith in
      rw (ne_eqb (d + 1) 1 (λ e. omega arith), z) (k f (omega arith))

mutual
  unfolding write_trees write_tree GoodTrees GoodTree label_byte

  over_tree : (t : Tree) (d at : ℕ) (r : List ℕ) (x : Option ℕ) → GoodTree t → 1 ≤ d → ((g : ℕ) → length r ≤ g → tail_end g d (at + 1 + length (write_tree t)) r ≡ x) → (f : ℕ) → length (32 ∷ (write_tree t ++ r)) ≤ f → tail_end f d at (32 ∷ (write_tree t ++ r)) ≡ x
  over_tree (tree l us) d at r x g p k f n =
      let m : List ℕ = 41 ∷ r in
      let u : List ℕ = write_trees us ++ m in
      let e : 32 ∷ (write_tree (tree l us) ++ r) ≡ 32 ∷ 40 ∷ (l ++ u) = simp append_assoc in
      let a : ℕ = at + (1 + 1 + length l) in
      let b : ℕ = a + length (write_trees us) in
      let z : at + 1 + length (write_tree (tree l us)) ≡ b + 1 = simp length-append (omega arith) in
      rw e
      (step_open d at x l u g.0 (first_trees us m refl)
      (λ i hi. over_trees us (d + 1) a m x g.1 (omega arith) refl (λ j hj. step_close d b x r p (λ y hy. rw z at (k y hy)) j hj) i hi)
      f (omega (arith, ap length e)))

  over_trees : (ts : Trees) (d at : ℕ) (r : List ℕ) (x : Option ℕ) → GoodTrees ts → 1 ≤ d → label_byte (get_or r 0 0) ≡ false → ((g : ℕ) → length r ≤ g → tail_end g d (at + length (write_trees ts)) r ≡ x) → (f : ℕ) → length (write_trees ts ++ r) ≤ f → tail_end f d at (write_trees ts ++ r) ≡ x
  over_trees none d at r x g p h k f n = rw (add-zero at) at (k f n)
  over_trees (more t ts) d at r x g p h k f n =
      let e : write_trees (more t ts) ++ r ≡ 32 ∷ (write_tree t ++ (write_trees ts ++ r)) = simp append_assoc in
      let z : at + length (write_trees (more t ts)) ≡ at + 1 + length (write_tree t) + length (write_trees ts) = simp length-append (omega arith) in
      rw e
      (over_tree t d at (write_trees ts ++ r) x g.0 p
      (λ i hi. over_trees ts d (at + 1 + length (write_tree t)) r x g.1 p h (λ v hv. rw z at (k v hv)) i hi)
      f (omega (arith, ap length e)))

-- the same for the nodes
module _ (d : ℕ) (y : List Node) where
  nodes_open_lem : (l u : List ℕ) → GoodLabel l → label_byte (get_or u 0 0) ≡ false → ((g : ℕ) → length u ≤ g → tail_nodes g (d + 1) u ≡ y) → (f : ℕ) → length (32 ∷ 40 ∷ (l ++ u)) ≤ f → tail_nodes f d (32 ∷ 40 ∷ (l ++ u)) ≡ node d l ∷ y
  unfolding tail_nodes
  nodes_open_lem l u g h k zero n = absurd (omega arith)
  nodes_open_lem l u g h k (suc f) n =
      let o = open_reads (32 ∷ 40 ∷ (l ++ u)) 1 l u g refl h in
      let z : 1 + 1 + length l ≡ suc (suc (length l)) = omega arith in
      let q : drop (1 + 1 + length l) (32 ∷ 40 ∷ (l ++ u)) ≡ u = rw z (drop-append_seam l u) in
      let i : 1 + 1 + length l - 2 ≡ length l = omega arith in
      rw (o, q, i, take-append_seam l u) (ap (λ (ns : List Node). node d l ∷ ns) (k f (omega (arith, length-append l u))))

  nodes_close : (v : List ℕ) → 1 ≤ d → ((g : ℕ) → length v ≤ g → tail_nodes g d v ≡ y) → (f : ℕ) → length (41 ∷ v) ≤ f → tail_nodes f (d + 1) (41 ∷ v) ≡ y
  unfolding tail_nodes
  nodes_close v p k zero n = absurd (omega arith)
  nodes_close v p k (suc f) n =
      let z : d + 1 - 1 ≡ d = omega arith in
      rw (ne_eqb (d + 1) 1 (λ e. omega arith), z) (k f (omega arith))

mutual
  unfolding write_trees write_tree GoodTrees GoodTree label_byte nodes_in nodes_of

  tree_nodes_lem : (t : Tree) (d : ℕ) (r : List ℕ) (y : List Node) → GoodTree t → 1 ≤ d → ((g : ℕ) → length r ≤ g → tail_nodes g d r ≡ y) → (f : ℕ) → length (32 ∷ (write_tree t ++ r)) ≤ f → tail_nodes f d (32 ∷ (write_tree t ++ r)) ≡ nodes_of d t ++ y
  tree_nodes_lem (tree l us) d r y g p k f n =
      let m : List ℕ = 41 ∷ r in
      let u : List ℕ = write_trees us ++ m in
      let e : 32 ∷ (write_tree (tree l us) ++ r) ≡ 32 ∷ 40 ∷ (l ++ u) = simp append_assoc in
      let z : nodes_in (d + 1) us ++ y ≡ nodes_in (suc d) us ++ y = rw (add-one d) in
      rw e
      (nodes_open_lem d (nodes_in (suc d) us ++ y) l u g.0 (first_trees us m refl)
      (λ i hi. over_nodes us (d + 1) m y g.1 (omega arith) refl (λ j hj. nodes_close d y r p k j hj) i hi ∙ z)
      f (omega (arith, ap length e)))

  over_nodes : (ts : Trees) (d : ℕ) (r : List ℕ) (y : List Node) → GoodTrees ts → 1 ≤ d → label_byte (get_or r 0 0) ≡ false → ((g : ℕ) → length r ≤ g → tail_nodes g d r ≡ y) → (f : ℕ) → length (write_trees ts ++ r) ≤ f → tail_nodes f d (write_trees ts ++ r) ≡ nodes_in d ts ++ y
  over_nodes none d r y g p h k f n = k f n
  over_nodes (more t ts) d r y g p h k f n =
      let e : write_trees (more t ts) ++ r ≡ 32 ∷ (write_tree t ++ (write_trees ts ++ r)) = simp append_assoc in
      rw (e, append_assoc (nodes_of d t) (nodes_in d ts) y)
      (tree_nodes_lem t d (write_trees ts ++ r) (nodes_in d ts ++ y) g.0 p (λ i hi. over_nodes ts d r y g.1 p h k i hi) f (omega (arith, ap length e)))

-- the `)` of the outermost ends the tree
last_end : (at : ℕ) (r : List ℕ) (f : ℕ) → length (41 ∷ r) ≤ f → tail_end f 1 at (41 ∷ r) ≡ Some (at + 1)
unfolding tail_end
last_end at r zero n = absurd (omega arith)
last_end at r (suc f) n = refl

last_nodes : (r : List ℕ) (f : ℕ) → length (41 ∷ r) ≤ f → tail_nodes f 1 (41 ∷ r) ≡ []
unfolding tail_nodes
last_nodes r zero n = absurd (omega arith)
last_nodes r (suc f) n = refl

-- A good tree, written at a place, ends there and has these nodes
pub tree_complete : (s : List ℕ) (at : ℕ) (t : Tree) (r : List ℕ) → GoodTree t → drop at s ≡ write_tree t ++ r → (tree_end s at ≡ Some (at + length (write_tree t))) × (tree_nodes s at ≡ nodes_of 0 t)
unfolding write_tree GoodTree nodes_of tree_end tree_nodes label_byte
tree_complete s at (tree l ts) r g e =
    let m : List ℕ = 41 ∷ r in
    let u : List ℕ = write_trees ts ++ m in
    let e' : drop at s ≡ 40 ∷ (l ++ u) = e ∙ simp append_assoc in
    let o = open_reads s at l u g.0 e' (first_trees ts m refl) in
    let c : ℕ = at + 1 + length l in
    let da = drop_over s at (40 ∷ []) (l ++ u) e' in
    let dc = drop_over s (at + 1) l u da in
    let small : length u ≤ length s = omega (arith, sym (ap length dc) ∙ length-drop c s) in
    let z : c + length (write_trees ts) + 1 ≡ at + length (40 ∷ (l ++ write_trees ts ++ 41 ∷ [])) = simp length-append (omega arith) in
    let i : c - (at + 1) ≡ length l = omega arith in
    let lab : take (length l) (drop (at + 1) s) ≡ l = rw da (take-append_seam l u) in (
      rw (o, dc, ← z) (over_trees ts 1 c m (Some (c + length (write_trees ts) + 1)) g.1 (omega arith) refl (λ v hv. last_end (c + length (write_trees ts)) r v hv) (length s) small),
      rw (o, dc, i, lab) (ap (λ (ns : List Node). node 0 l ∷ ns) (over_nodes ts 1 m [] g.1 (omega arith) refl (λ v hv. last_nodes r v hv) (length s) small ∙ append-nil (nodes_in 1 ts))),
    )

-- What is read as a tree was written

-- the trees that follow in each tree that is open, the innermost first: each list of trees ends with `)`
unfoldable closing : List Trees → List ℕ
closing [] = []
closing (ts ∷ rest) = write_trees ts ++ (41 ∷ closing rest)

unfoldable GoodAll : List Trees → Type 0
GoodAll [] = Unit {0}
GoodAll (ts ∷ rest) = GoodTrees ts × GoodAll rest

unfoldable nodes_all : ℕ → List Trees → List Node
nodes_all d [] = []
nodes_all d (ts ∷ rest) = nodes_in d ts ++ nodes_all (d - 1) rest

record TailRead (f d at j : ℕ) (s : List ℕ) : Type 0 where
  open_trees : List Trees
  as_many : length open_trees ≡ d
  good : GoodAll open_trees
  on : at ≤ j
  text : s ≡ closing open_trees ++ drop (j - at) s
  nodes : tail_nodes f d s ≡ nodes_all d open_trees

opening_text : (s : List ℕ) (at e : ℕ) → Opened s at e → (drop at s ≡ 40 ∷ (take (e - (at + 1)) (drop (at + 1) s) ++ drop e s)) × GoodLabel (take (e - (at + 1)) (drop (at + 1) s))
opening_text s at e o =
    let n : ℕ = run_at label_byte s (at + 1) in
    let i : e - (at + 1) ≡ n = omega (arith, o.end) in
    let q = run_length label_byte (drop (at + 1) s) in (
      rw i (rw (← o.end) at (reads_more s at (at + 1) (at + 1 + n) (40 ∷ []) (take n (drop (at + 1) s)) (reads_byte s at 40 (omega arith) o.paren) (reads_take s (at + 1) n))),
      rw i (rw q (omega (arith, o.some, o.end)), rw q (omega (arith, o.few, o.end)), run-all label_byte (drop (at + 1) s)),
    )

module _ (f d at : ℕ) (s : List ℕ) (j : ℕ) where
  tail_last : byte_at s 0 ≡ 41 → d ≡ 1 → Some (at + 1) ≡ Some j → TailRead (suc f) d at j s
  unfolding tail_nodes write_trees nodes_in GoodTrees closing GoodAll nodes_all
  tail_last b q e =
      let w : at + 1 ≡ j = cc in
      let i : j - at ≡ 1 = omega arith in
      record { open_trees = none ∷ []; as_many = sym q; good = (tt, tt); on = omega arith; text = rw i (reads_byte s 0 41 (omega arith) b); nodes = rw (b, q) }

  tail_close : byte_at s 0 ≡ 41 → (d ≡ 1 → ⊥) → 1 ≤ d → TailRead f (d - 1) (at + 1) j (drop 1 s) → TailRead (suc f) d at j s
  unfolding tail_nodes write_trees nodes_in GoodTrees closing GoodAll nodes_all
  tail_close b q p x =
      let h = x.on in
      let z : 1 + (j - (at + 1)) ≡ j - at = omega arith in
      record {
        open_trees = none ∷ x.open_trees;
        as_many = omega (arith, x.as_many, q);
        good = (tt, x.good);
        on = omega arith;
        text = reads_byte s 0 41 (omega arith) b ∙ ap (λ (v : List ℕ). 41 ∷ v) (x.text ∙ ap (λ (v : List ℕ). closing x.open_trees ++ v) (drop-drop (j - (at + 1)) 1 s ∙ ap (λ (k : ℕ). drop k s) z));
        nodes = rw (b, ne_eqb d 1 q) x.nodes;
      }

  tail_open : (e : ℕ) → byte_at s 0 ≡ 32 → open_end s 1 ≡ Some e → 1 ≤ d → TailRead f (d + 1) (at + e) j (drop e s) → TailRead (suc f) d at j s
  unfolding tail_nodes write_trees write_tree nodes_in nodes_of GoodTrees GoodTree closing GoodAll nodes_all
  tail_open e b o p x = split x.open_trees x.as_many x.good x.text x.nodes x.on
    where
      lab : List ℕ
      lab = take (e - 2) (drop 2 s)

      split : (os : List Trees) → length os ≡ d + 1 → GoodAll os → drop e s ≡ closing os ++ drop (j - (at + e)) (drop e s) → tail_nodes f (d + 1) (drop e s) ≡ nodes_all (d + 1) os → at + e ≤ j → TailRead (suc f) d at j s
      split [] l g t n h = absurd (omega arith)
      split (us ∷ []) l g t n h = absurd (omega arith)
      split (us ∷ ts ∷ rest) l g t n h =
          let w = opening_text s 1 e (opened s 1 e o) in
          let z : e + (j - (at + e)) ≡ j - at = omega arith in
          let t' = t ∙ ap (λ (v : List ℕ). closing (us ∷ ts ∷ rest) ++ v) (drop-drop (j - (at + e)) e s ∙ ap (λ (k : ℕ). drop k s) z) in
          let y : d + 1 - 1 ≡ d = omega arith in
          record {
            open_trees = more (tree lab us) ts ∷ rest;
            as_many = omega arith;
            good = (((w.1, g.0), g.1.0), g.1.1);
            on = omega arith;
            text = reads_byte s 0 32 (omega arith) b ∙ ap (λ (v : List ℕ). 32 ∷ v) (w.0 ∙ ap (λ (v : List ℕ). 40 ∷ (lab ++ v)) t') ∙ simp append_assoc;
            nodes = rw (b, o) (ap (λ (ns : List Node). node d lab ∷ ns) (n ∙ rw (y, add-one d) (sym (append_assoc (nodes_in (suc d) us) (nodes_in d ts) (nodes_all (d - 1) rest)))));
          }

never_at : {C : Type 0} {j : ℕ} → None ≡ Some j → C
never_at e = absurd (let z : ◌≡◌ {A = ℕ} 0 1 = cc in omega arith)

after_elim : {C : Type 0} {j : ℕ} (r : Option ℕ) (k : ℕ → (Option ℕ)) → ((e : ℕ) → r ≡ Some e → k e ≡ Some j → C) → (r and_then (None, k)) ≡ Some j → C
after_elim (Some e) k h q = h e refl q
after_elim None k h q = never_at q

sound_tail : (f d at : ℕ) (s : List ℕ) (j : ℕ) → 1 ≤ d → tail_end f d at s ≡ Some j → TailRead f d at j s
unfolding tail_end
sound_tail zero d at s j p = never_at
sound_tail (suc f) d at s j p =
    cond_elim (eqb (byte_at s 0) 41)
    (λ b. cond_elim (eqb d 1)
    (λ q e. tail_last f d at s j (eqb-true _ _ b) (eqb-true d 1 q) e)
    (λ q e. tail_close f d at s j (eqb-true _ _ b) (eqb-false d 1 q) p (sound_tail f (d - 1) (at + 1) (drop 1 s) j (omega (arith, eqb-false d 1 q)) e)))
    (λ _. cond_elim (eqb (byte_at s 0) 32)
    (λ b. after_elim (open_end s 1) (λ e. tail_end f (d + 1) (at + e) (drop e s)) (λ e o q. tail_open f d at s j e (eqb-true _ _ b) o p (sound_tail f (d + 1) (at + e) (drop e s) j (omega arith) q)))
    (λ _. never_at))

-- A tree that was read: which it is, its text, and its nodes
pub record TreeRead (s : List ℕ) (at j : ℕ) : Type 0 where
  pub is : Tree
  pub good : GoodTree is
  pub text : Reads s at (write_tree is) j
  pub nodes : tree_nodes s at ≡ nodes_of 0 is

pub tree_sound : (s : List ℕ) (at j : ℕ) → tree_end s at ≡ Some j → TreeRead s at j
unfolding tree_end tree_nodes write_tree nodes_of GoodTree closing GoodAll nodes_all
tree_sound s at j = after_elim (open_end s at) (λ e. tail_end (length s) 1 e (drop e s)) λ e o q. found e o (sound_tail (length s) 1 e (drop e s) j (omega arith) q)
  where
    found : (e : ℕ) → open_end s at ≡ Some e → TailRead (length s) 1 e j (drop e s) → TreeRead s at j
    found e o x = split x.open_trees x.as_many x.good x.text x.nodes x.on
      where
        lab : List ℕ
        lab = take (e - (at + 1)) (drop (at + 1) s)

        split : (os : List Trees) → length os ≡ 1 → GoodAll os → drop e s ≡ closing os ++ drop (j - e) (drop e s) → tail_nodes (length s) 1 (drop e s) ≡ nodes_all 1 os → e ≤ j → TreeRead s at j
        split [] l g t n h = absurd (omega arith)
        split (us ∷ ts ∷ rest) l g t n h = absurd (omega arith)
        split (ts ∷ []) l g t n h =
            let w = opening_text s at e (opened s at e o) in
            let z : e + (j - e) ≡ j = omega arith in
            let t' = t ∙ ap (λ (v : List ℕ). closing (ts ∷ []) ++ v) (drop-drop (j - e) e s ∙ ap (λ (k : ℕ). drop k s) z) in
            record {
              is = tree lab ts;
              good = (w.1, g.0);
              text = w.0 ∙ ap (λ (v : List ℕ). 40 ∷ (lab ++ v)) t' ∙ simp append_assoc;
              nodes = rw o (ap (λ (ns : List Node). node 0 lab ∷ ns) (n ∙ append-nil (nodes_in 1 ts)));
            }

-- At most one good tree is written so
pub label_unique : (l m x y : List ℕ) → all label_byte l ≡ true → all label_byte m ≡ true → label_byte (get_or x 0 0) ≡ false → label_byte (get_or y 0 0) ≡ false → l ++ x ≡ m ++ y → (l ≡ m) × (x ≡ y)
label_unique l m x y a b p q e =
    let n : length l ≡ length m = sym (run_over label_byte l x a p) ∙ ap (run label_byte) e ∙ run_over label_byte m y b q in (
      sym (take-append_seam l x) ∙ ap (take (length l)) e ∙ rw n (take-append_seam m y),
      sym (drop-append_seam l x) ∙ ap (drop (length l)) e ∙ rw n (drop-append_seam m y),
    )

mutual
  unfolding write_trees write_tree GoodTrees GoodTree label_byte

  first_unique : (t u : Tree) (r v : List ℕ) → GoodTree t → GoodTree u → write_tree t ++ r ≡ write_tree u ++ v → (t ≡ u) × (r ≡ v)
  first_unique (tree l ts) (tree m us) r v g h e =
      let a : write_tree (tree l ts) ++ r ≡ 40 ∷ (l ++ (write_trees ts ++ (41 ∷ r))) = simp append_assoc in
      let b : write_tree (tree m us) ++ v ≡ 40 ∷ (m ++ (write_trees us ++ (41 ∷ v))) = simp append_assoc in
      let q : 40 ∷ (l ++ (write_trees ts ++ (41 ∷ r))) ≡ 40 ∷ (m ++ (write_trees us ++ (41 ∷ v))) = sym a ∙ e ∙ b in
      let w : l ++ (write_trees ts ++ (41 ∷ r)) ≡ m ++ (write_trees us ++ (41 ∷ v)) = cc in
      let c = label_unique l m (write_trees ts ++ (41 ∷ r)) (write_trees us ++ (41 ∷ v)) g.0.2 h.0.2 (first_trees ts (41 ∷ r) refl) (first_trees us (41 ∷ v) refl) w in
      let i = trees_unique ts us r v g.1 h.1 c.1 in
      (rw (c.0, i.0), i.1)

  trees_unique : (ts us : Trees) (r v : List ℕ) → GoodTrees ts → GoodTrees us → write_trees ts ++ (41 ∷ r) ≡ write_trees us ++ (41 ∷ v) → (ts ≡ us) × (r ≡ v)
  trees_unique none none r v g h e = (refl, cc)
  trees_unique none (more u us) r v g h e = absurd (let z : ◌≡◌ {A = ℕ} 41 32 = cc in omega arith)
  trees_unique (more t ts) none r v g h e = absurd (let z : ◌≡◌ {A = ℕ} 32 41 = cc in omega arith)
  trees_unique (more t ts) (more u us) r v g h e =
      let a : write_trees (more t ts) ++ (41 ∷ r) ≡ 32 ∷ (write_tree t ++ (write_trees ts ++ (41 ∷ r))) = simp append_assoc in
      let b : write_trees (more u us) ++ (41 ∷ v) ≡ 32 ∷ (write_tree u ++ (write_trees us ++ (41 ∷ v))) = simp append_assoc in
      let q : 32 ∷ (write_tree t ++ (write_trees ts ++ (41 ∷ r))) ≡ 32 ∷ (write_tree u ++ (write_trees us ++ (41 ∷ v))) = sym a ∙ e ∙ b in
      let w : write_tree t ++ (write_trees ts ++ (41 ∷ r)) ≡ write_tree u ++ (write_trees us ++ (41 ∷ v)) = cc in
      let c = first_unique t u (write_trees ts ++ (41 ∷ r)) (write_trees us ++ (41 ∷ v)) g.0 h.0 w in
      let i = trees_unique ts us r v g.1 h.1 c.1 in
      (rw (c.0, i.0), i.1)

pub tree_unique : (t u : Tree) → GoodTree t → GoodTree u → write_tree t ≡ write_tree u → t ≡ u
tree_unique t u g h e = (first_unique t u [] [] g h (append-nil (write_tree t) ∙ e ∙ sym (append-nil (write_tree u)))).0

-- No level that a line of 1,024 bytes can write is above 255: it is held in its byte as it is

abbrev pub UpTo : ℕ → List Node → Type 0
UpTo m [] = Unit {0}
UpTo m (node l x ∷ ns) = (l ≤ m) × UpTo m ns

upto_append : (m : ℕ) (ns ps : List Node) → UpTo m ns → UpTo m ps → UpTo m (ns ++ ps)
upto_append m [] ps a b = b
upto_append m (node l x ∷ ns) ps a b = (a.0, upto_append m ns ps a.1 b)

mutual
  unfolding write_trees write_tree GoodTrees GoodTree nodes_in nodes_of

  tree_levels : (t : Tree) (k m : ℕ) → GoodTree t → 4 * k + length (write_tree t) ≤ 4 * m + 6 → UpTo m (nodes_of k t)
  tree_levels (tree l ts) k m g h =
      let n : length (write_tree (tree l ts)) ≡ 1 + length l + length (write_trees ts) + 1 = simp length-append (omega arith) in
      let p = g.0.0 in
      (omega arith, trees_levels ts (suc k) m g.1 (omega arith))

  trees_levels : (ts : Trees) (k m : ℕ) → GoodTrees ts → 4 * k + length (write_trees ts) ≤ 4 * m + 7 → UpTo m (nodes_in k ts)
  trees_levels none k m g h = tt
  trees_levels (more t ts) k m g h =
      let n : length (write_trees (more t ts)) ≡ 1 + length (write_tree t) + length (write_trees ts) = simp length-append (omega arith) in
      upto_append m (nodes_of k t) (nodes_in k ts) (tree_levels t k m g.0 (omega arith)) (trees_levels ts k m g.1 (omega arith))

pub levels-held : (t : Tree) → GoodTree t → length (write_tree t) ≤ 1024 → UpTo 255 (nodes_of 0 t)
levels-held t g h = tree_levels t 0 255 g (omega arith)
