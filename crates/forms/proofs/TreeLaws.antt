-- The readers of a tree, case by case, as the code goes through them. Assumes nothing.
use Rattle.std.specs.Prelude.{Option, Some, None}
use Prim.Native.Nat.{ℕ, zero, suc, ◌+◌, ◌-◌, ◌*◌, ◌≤◌, ◌<◌}
use mathlib.Core.Path.{◌≡◌, refl, sym, ap, ◌∙◌}
use mathlib.Core.List.{List, [], ◌∷◌}
use native.Mathlib.Omega.{arith}
use native.Mathlib.Nat.{add-zero}
use lib.Dec.{eqb}
use lib.ListN.{length, take, drop, length-take, length-drop}
use borrow.Author.Tests.{ne_eqb, eqb-true}
use Rattle.rights.specs.Limits.{label_max}
use Rattle.rights.specs.Bytes.{byte_at}
use Rattle.rights.specs.Labels.{label_byte}
use Rattle.rights.specs.PathReader.{run_at}
use Rattle.rights.specs.How.Reading.{Onward}
use Rattle.rights.specs.Record.{node_record, pasted}
use Rattle.rights.proofs.ListLaws.{by_case, rest_of}
use Rattle.rights.proofs.PathLaws.{past}
use Rattle.rights.proofs.RecordLaws.{pasted-pasted, pasted-none}
use Rattle.rights.proofs.RecordOfLaws.{length_node}
use Rattle.forms.specs.Part.{label_end}
use Rattle.rights.specs.Nodes.{node}
use Rattle.forms.specs.Tree.{open_end, tail_end, tail_nodes, tree_end, tree_nodes, records_of, held}
use Rattle.forms.specs.How.Reader.{TailEnd, TailPut}
use Rattle.forms.proofs.PartLaws.{short_is}

pub rest-length : (s : List ℕ) (e : ℕ) → length (take (length s - e) (drop e s)) ≡ length s - e
rest-length s e = rw (rest_of s e, length-drop e s)

-- An opening that was read: `(`, and a label of 1 to 24 bytes
pub record Opened (s : List ℕ) (at e : ℕ) : Type 0 where
  pub paren : byte_at s at ≡ 40
  pub end : e ≡ at + 1 + run_at label_byte s (at + 1)
  pub some : at + 2 ≤ e
  pub few : e ≤ at + 25

pub opened : (s : List ℕ) (at e : ℕ) → open_end s at ≡ Some e → Opened s at e
unfolding open_end label_end
opened s at e p =
    by_case (eqb (byte_at s at) 40)
    (λ q.
    let x = short_is label_byte label_max s (at + 1) e (rw q at p) in
    record { paren = eqb-true _ _ q; end = x.0; some = omega (arith, x.0, x.1); few = omega (arith, x.0, x.2) })
    (λ q. absurd (let u = rw q at p in let z : ◌≡◌ {A = ℕ} 0 1 = cc in omega arith))

-- Where a tail ends

module _ (s : List ℕ) (at depth : ℕ) where
  pub end_none : length s ≡ 0 → (f : ℕ) → tail_end f depth at s ≡ None
  unfolding tail_end
  end_none l zero = refl
  end_none l (suc f) = rw (ne_eqb _ 41 (past s 0 41 (omega arith) (omega arith)), ne_eqb _ 32 (past s 0 32 (omega arith) (omega arith)))

  pub end_other : (byte_at s 0 ≡ 41 → ⊥) → (byte_at s 0 ≡ 32 → ⊥) → (f : ℕ) → tail_end f depth at s ≡ None
  unfolding tail_end
  end_other h k zero = refl
  end_other h k (suc f) = rw (ne_eqb _ 41 h, ne_eqb _ 32 k)

  pub end_unopened : byte_at s 0 ≡ 32 → open_end s 1 ≡ None → (f : ℕ) → tail_end f depth at s ≡ None
  unfolding tail_end
  end_unopened h k zero = refl
  end_unopened h k (suc f) = rw (h, k)

  pub end_bad : ((f : ℕ) → tail_end f depth at s ≡ None) → TailEnd s at depth None
  end_bad h = record { is = λ f l. sym (h f); on = λ i q. absurd (let z : ◌≡◌ {A = ℕ} 0 1 = cc in omega arith) }

  pub end_last : 0 < length s → byte_at s 0 ≡ 41 → depth ≡ 1 → TailEnd s at depth (Some (at + 1))
  unfolding tail_end
  end_last l e o = record { is = found; on = λ i q. let z : at + 1 ≡ i = cc in (omega arith, omega arith) }
    where
      found : (f : ℕ) → length s ≤ f → Some (at + 1) ≡ tail_end f depth at s
      found zero h = absurd (omega arith)
      found (suc f) h = rw (e, o)

  pub end_close : (t : List ℕ) (r : Option ℕ) → 0 < length s → byte_at s 0 ≡ 41 → (depth ≡ 1 → ⊥) → t ≡ drop 1 s → TailEnd t (at + 1) (depth - 1) r → TailEnd s at depth r
  unfolding tail_end
  end_close t r l e o q x = record { is = found; on = λ i w. let h = x.on i w in let len = ap length q ∙ length-drop 1 s in (omega arith, omega arith) }
    where
      found : (f : ℕ) → length s ≤ f → r ≡ tail_end f depth at s
      found zero h = absurd (omega arith)
      found (suc f) h = let len = ap length q ∙ length-drop 1 s in rw (e, ne_eqb depth 1 o, ← q) (x.is f (omega arith))

  pub end_open : (t : List ℕ) (r : Option ℕ) (e : ℕ) → byte_at s 0 ≡ 32 → open_end s 1 ≡ Some e → 3 ≤ e → e ≤ length s → t ≡ drop e s → TailEnd t (at + e) (depth + 1) r → TailEnd s at depth r
  unfolding tail_end
  end_open t r e b o l m q x = record { is = found; on = λ i w. let h = x.on i w in let len = ap length q ∙ length-drop e s in (omega arith, omega arith) }
    where
      found : (f : ℕ) → length s ≤ f → r ≡ tail_end f depth at s
      found zero h = absurd (omega arith)
      found (suc f) h = let len = ap length q ∙ length-drop e s in rw (b, o, ← q) (x.is f (omega arith))

-- What a tail opens

module _ (s : List ℕ) (depth : ℕ) where
  pub nodes_none : length s ≡ 0 → (f : ℕ) → tail_nodes f depth s ≡ []
  unfolding tail_nodes
  nodes_none l zero = refl
  nodes_none l (suc f) = rw (ne_eqb _ 41 (past s 0 41 (omega arith) (omega arith)), ne_eqb _ 32 (past s 0 32 (omega arith) (omega arith)))

  pub nodes_last : byte_at s 0 ≡ 41 → depth ≡ 1 → (f : ℕ) → tail_nodes f depth s ≡ []
  unfolding tail_nodes
  nodes_last h k zero = refl
  nodes_last h k (suc f) = rw (h, k)

  pub nodes_other : (byte_at s 0 ≡ 41 → ⊥) → (byte_at s 0 ≡ 32 → ⊥) → (f : ℕ) → tail_nodes f depth s ≡ []
  unfolding tail_nodes
  nodes_other h k zero = refl
  nodes_other h k (suc f) = rw (ne_eqb _ 41 h, ne_eqb _ 32 k)

  pub nodes_unopened : byte_at s 0 ≡ 32 → open_end s 1 ≡ None → (f : ℕ) → tail_nodes f depth s ≡ []
  unfolding tail_nodes
  nodes_unopened h k zero = refl
  nodes_unopened h k (suc f) = rw (h, k)

  module _ (n : ℕ) where
    pub put-none : (d : List ℕ) → ((f : ℕ) → tail_nodes f depth s ≡ []) → TailPut s depth n d d n
    unfolding records_of
    put-none d h = record { is = λ f l. rw (h f, add-zero n); out = λ f l. rw (h f) (pasted-none d (32 * n)) }

    pub put_close : (before after t : List ℕ) (r : ℕ) → 0 < length s → byte_at s 0 ≡ 41 → (depth ≡ 1 → ⊥) → t ≡ drop 1 s → TailPut t (depth - 1) n before after r → TailPut s depth n before after r
    unfolding tail_nodes
    put_close before after t r l e o q x = record {
      is = λ f h. let len = ap length q ∙ length-drop 1 s in rw (closed f h) (x.is (f - 1) (omega arith));
      out = λ f h. let len = ap length q ∙ length-drop 1 s in rw (closed f h) (x.out (f - 1) (omega arith));
    }
      where
        closed : (f : ℕ) → length s ≤ f → tail_nodes f depth s ≡ tail_nodes (f - 1) (depth - 1) t
        closed zero h = absurd (omega arith)
        closed (suc f) h = let z : suc f - 1 ≡ f = omega arith in rw (e, ne_eqb depth 1 o, q, z)

    pub put_open : (before mid after t : List ℕ) (r e : ℕ) → byte_at s 0 ≡ 32 → open_end s 1 ≡ Some e → 3 ≤ e → e ≤ 26 → e ≤ length s → 32 * n + 32 ≤ length before
        → mid ≡ pasted before (32 * n) (node_record (held depth) (take (e - 2) (drop 2 s))) → t ≡ drop e s → TailPut t (depth + 1) (n + 1) mid after r → TailPut s depth n before after r
    unfolding records_of tail_nodes
    put_open before mid after t r e b o l m g w p q x = record {
      is = λ f h. let len = ap length q ∙ length-drop e s in rw (found f h) (x.is (f - 1) (omega arith) ∙ omega arith);
      out = λ f h. let len = ap length q ∙ length-drop e s in rw (found f h) (x.out (f - 1) (omega arith) ∙ rw (v, p) (pasted-pasted before rec (32 * n) (omega (arith, size)) (records_of (tail_nodes (f - 1) (depth + 1) t))));
    }
      where
        rec : List ℕ
        rec = node_record (held depth) (take (e - 2) (drop 2 s))

        size : length rec ≡ 32
        size = length_node (held depth) (take (e - 2) (drop 2 s)) (rw (length-take (e - 2) (drop 2 s)) (omega arith))

        v : 32 * (n + 1) ≡ 32 * n + length rec
        v = omega (arith, size)

        found : (f : ℕ) → length s ≤ f → tail_nodes f depth s ≡ node depth (take (e - 2) (drop 2 s)) ∷ tail_nodes (f - 1) (depth + 1) t
        found zero h = absurd (omega arith)
        found (suc f) h = let z : suc f - 1 ≡ f = omega arith in rw (b, o, q, z)

-- A whole tree

module _ (s : List ℕ) (at : ℕ) where
  pub tree_unopened : open_end s at ≡ None → tree_end s at ≡ None
  unfolding tree_end
  tree_unopened h = rw h

  pub tree_opened : (t : List ℕ) (r : Option ℕ) (e : ℕ) → open_end s at ≡ Some e → at + 2 ≤ e → e ≤ length s → t ≡ drop e s → TailEnd t e 1 r → Onward (tree_end s at) r (at + 1) (length s)
  unfolding tree_end
  tree_opened t r e o l m q x =
      let len = ap length q ∙ length-drop e s in
      record { is = rw (o, ← q) (x.is (length s) (omega arith)); on = λ i w. let h = x.on i w in (omega arith, omega arith) }

  pub put_tree_none : (d : List ℕ) → open_end s at ≡ None → (◌≡◌ {A = ℕ} 0 (length (tree_nodes s at))) × (d ≡ pasted d 0 (records_of (tree_nodes s at)))
  unfolding tree_nodes records_of
  put_tree_none d h = (rw h, rw h (pasted-none d 0))

  pub put_tree_some : (before mid after t : List ℕ) (r e : ℕ) → open_end s at ≡ Some e → at + 2 ≤ e → e ≤ at + 25 → e ≤ length s → 32 ≤ length before
      → mid ≡ pasted before 0 (node_record 0 (take (e - (at + 1)) (drop (at + 1) s))) → t ≡ drop e s → TailPut t 1 1 mid after r
      → (r ≡ length (tree_nodes s at)) × (after ≡ pasted before 0 (records_of (tree_nodes s at)))
  unfolding tree_nodes records_of
  put_tree_some before mid after t r e o l m g w p q x =
      let len = ap length q ∙ length-drop e s in
      let i = x.is (length s) (omega arith) in
      let u = x.out (length s) (omega arith) in
      (rw (o, ← q) (i ∙ omega arith), rw (o, ← q) (u ∙ rw (v, p) (pasted-pasted before rec 0 (omega (arith, size)) (records_of (tail_nodes (length s) 1 t)))))
    where
      rec : List ℕ
      rec = node_record 0 (take (e - (at + 1)) (drop (at + 1) s))

      size : length rec ≡ 32
      size = length_node 0 (take (e - (at + 1)) (drop (at + 1) s)) (rw (length-take (e - (at + 1)) (drop (at + 1) s)) (omega arith))

      v : 32 * 1 ≡ 0 + length rec
      v = omega (arith, size)
