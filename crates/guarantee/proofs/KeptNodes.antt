-- The rights on the kept nodes, change by change: what a declared subject may do on a node depends on its chain of keys, and no change touches the key of a node
-- that it keeps. Assumes nothing.
use Prim.Native.Nat.{ℕ, suc, ◌≤◌, ◌<◌}
use mathlib.Core.Bool.{Bool, true, false}
use mathlib.Core.Path.{◌≡◌, refl, sym, ap, ap₂, ◌∙◌}
use mathlib.Core.List.{List, [], ◌∷◌, ◌++◌, map, Sublistᴰ}
use mathlib.Core.Option.{Option, none, some}
use native.Mathlib.Omega.{arith}
use lib.ListN.{length, take, drop}
use Rattle.rights.specs.Policy.{Policy, policy_word}
use Rattle.rights.specs.Rights.{rights_by, chains, rights_on}
use Rattle.rights.specs.Table.{records, level, label, table_ok}
use Rattle.views.proofs.NestedLaws.{done_from_lem}
use Rattle.views.proofs.RelabelLaws.{level-relabel, label-relabel}
use Rattle.views.proofs.RedateLaws.{level-redate, label-redate}
use Rattle.views.specs.Change.{insert_behind, rename, chunks, raise, relabel, redate}
use Rattle.views.specs.Nodes.{Nested, put, tags, Above, Front}
use Rattle.views.specs.How.Pass.{AtDone}
use Rattle.views.specs.declared.insert.Place.{Place}
use Rattle.views.specs.declared.insert.Place.TheVariants as place
use Rattle.views.proofs.KeptLaws.{tags-remove, tags-insert_behind, tags-insert_in_front, tags-rename}
use Rattle.lines.specs.Effect.{insertion, renaming, removal, redating}
use Rattle.guarantee.specs.Identity.{Tagged, tagged_level, new, after_effect}
use Rattle.guarantee.proofs.Chains.{cell_level, chain, cells, Keeps, cells_remove, cells_insert_behind, cells_insert_in_front, cells_rename}
use Rattle.guarantee.proofs.LowTable.{chain_keys}
use Rattle.guarantee.proofs.Sound.{NoWord, Whole}
use Rattle.guarantee.proofs.TableAfter.{table_nested}
use Rattle.guarantee.proofs.Keys.{Key, key_of, rights_by_keys, rights_by_keys_lem}

-- the kept nodes in order, each by its tag, with what is held on it
abbrev pub kept : Tagged × ℕ → Option (ℕ × ℕ)
kept ((r, none), set) = none
kept ((r, some x), set) = some (x, set)

abbrev pub beside : List Tagged → List ℕ → List (Tagged × ℕ)
beside [] ss = []
beside (n ∷ ns) [] = []
beside (n ∷ ns) (s ∷ ss) = (n, s) ∷ beside ns ss

-- the kept nodes with the rights that subject u has on each
abbrev pub kept_rights : Policy → ℕ → List Tagged → List (ℕ × ℕ)
kept_rights P u ns = tags kept (beside ns (rights_on P u (map (λ n. n.0) ns)))

-- the inserted tree of m records, its root at level l
abbrev new_tree : ℕ → List ℕ → ℕ → List Tagged
new_tree m tree l = new (raise l (chunks m tree))

-- the levels of inserted nodes
above_new : (l : ℕ) (rs : List (List ℕ)) → Above tagged_level l (new (raise l rs))
unfolding raise
above_new l [] = tt
above_new l (r ∷ rs) = (omega arith, above_new l rs)

front-new : (l : ℕ) (rs : List (List ℕ)) → Nested level 0 rs → Front tagged_level l (new (raise l rs))
unfolding raise
front-new l [] w = tt
front-new l (r ∷ rs) w = omega (arith, w.0)

-- one list in another's place
part_at : {a b c d : List (ℕ × ℕ)} → a ≡ b → c ≡ d → Sublistᴰ b d → Sublistᴰ a c
part_at e f k = rw (e, f) k

module _ (P : Policy) (u : ℕ) (declared : u < length P.names) where
  abbrev keyed : Tagged → Key
  keyed n = key_of P (label n.0)

  abbrev held : Tagged × List Key → Option (ℕ × ℕ)
  held p = kept (p.0, rights_by_keys P u p.1)

  chain_tagged : (c : List (List ℕ)) (n : Tagged) → map (key_of P) (take (tagged_level n) c ++ (label n.0 ∷ [])) ≡ chain tagged_level keyed (map (key_of P) c) n
  unfolding chain
  chain_tagged c n = chain_keys P u c n.0

  rights_cells : (c : List (List ℕ)) (ns : List Tagged)
      → tags kept (beside ns (map (rights_by P u) (chains c (map (λ n. n.0) ns)))) ≡ tags held (cells tagged_level keyed (map (key_of P) c) ns)
  unfolding chains cells tags
  rights_cells c [] = refl
  rights_cells c (n ∷ ns) =
      let d : List (List ℕ) = take (tagged_level n) c ++ (label n.0 ∷ []) in
      ap₂ (λ x r. put (kept (n, x)) r)
      (rights_by_keys_lem P u d ∙ ap (rights_by_keys P u) (chain_tagged c n))
      (rights_cells d ns ∙ ap (λ k. tags held (cells tagged_level keyed k ns)) (chain_tagged c n))

  -- the kept nodes with their rights are the kept nodes with what their keys give
  kept_cells : (ns : List Tagged) → kept_rights P u ns ≡ tags held (cells tagged_level keyed [] ns)
  kept_cells ns = rights_cells [] ns

  none-new : (c : List Key) (rs : List (List ℕ)) → tags held (cells tagged_level keyed c (new rs)) ≡ []
  unfolding cells tags
  none-new c [] = refl
  none-new c (r ∷ rs) = none-new (chain tagged_level keyed c (r, none)) rs

  -- a removal leaves the rights on the nodes that stay
  pub kept-remove : (ms : List Bool) (ns : List Tagged) → Nested tagged_level 0 ns → Sublistᴰ (kept_rights P u (after_effect (removal ms) ns)) (kept_rights P u ns)
  kept-remove ms ns w =
      part_at
      (kept_cells (after_effect (removal ms) ns) ∙ ap (tags held) (cells_remove tagged_level keyed [] ms ns w))
      (kept_cells ns)
      (tags-remove (cell_level tagged_level keyed) held ms (cells tagged_level keyed [] ns))

  -- a tree behind each marked node and all below it, its root at the level `base` of the node's
  kept-behind : (base : ℕ → ℕ) → ((l : ℕ) → l ≤ base l) → ((l : ℕ) → base l ≤ suc l) → (m : ℕ) (tree : List ℕ) (ms : List Bool) (ns : List Tagged)
      → Nested level 0 (chunks m tree) → Nested tagged_level 0 ns
      → kept_rights P u (insert_behind tagged_level (λ n. new_tree m tree (base (tagged_level n))) ms ns) ≡ kept_rights P u ns
  kept-behind base lo hi m tree ms ns k w =
      kept_cells (insert_behind tagged_level (λ n. new_tree m tree (base (tagged_level n))) ms ns)
      ∙ ap (tags held)
      (cells_insert_behind tagged_level keyed (λ n. new_tree m tree (base (tagged_level n))) (λ n. base (tagged_level n)) (λ n. lo (tagged_level n)) (λ n. hi (tagged_level n))
      (λ n. above_new (base (tagged_level n)) (chunks m tree)) (λ n. front-new (base (tagged_level n)) (chunks m tree) k) [] ms ns w)
      ∙ tags-insert_behind (cell_level tagged_level keyed) held (λ p. cells tagged_level keyed p.1 (new_tree m tree (base (tagged_level p.0))))
      (λ p. none-new p.1 (raise (base (tagged_level p.0)) (chunks m tree))) ms (cells tagged_level keyed [] ns)
      ∙ sym (kept_cells ns)

  -- an insertion leaves all rights; the inserted nodes are new
  pub kept_insert : (at : Place) (m : ℕ) (tree : List ℕ) (g : ℕ) (ms : List Bool) (ns : List Tagged) → Nested level 0 (chunks m tree) → Nested tagged_level 0 ns
      → kept_rights P u (after_effect (insertion at ms m tree g) ns) ≡ kept_rights P u ns
  kept_insert place.Append m tree g = kept-behind suc (λ l. omega arith) (λ l. omega arith) m tree
  kept_insert place.After m tree g = kept-behind (λ l. l) (λ l. omega arith) (λ l. omega arith) m tree
  kept_insert place.Before m tree g = λ ms ns k w.
      kept_cells (after_effect (insertion place.Before ms m tree g) ns)
      ∙ ap (tags held)
      (cells_insert_in_front tagged_level keyed (λ n. new_tree m tree (tagged_level n))
      (λ n. above_new (tagged_level n) (chunks m tree)) (λ n. front-new (tagged_level n) (chunks m tree) k) [] ms ns w)
      ∙ tags-insert_in_front (cell_level tagged_level keyed) held (λ p. cells tagged_level keyed p.1 (new_tree m tree (tagged_level p.0)))
      (λ p. none-new p.1 (raise (tagged_level p.0) (chunks m tree))) ms (cells tagged_level keyed [] ns)
      ∙ sym (kept_cells ns)

  keeps : (l : List ℕ) → policy_word P l ≡ false → (n : Tagged) → NoWord P n.0 → Keeps tagged_level keyed (λ x. (relabel l x.0, x.1)) n
  keeps l e n h = (level-relabel l n.0, rw (label-relabel l n.0, e, h))

  -- another record for a node, its level and the key of its label kept, leaves all rights
  kept_rewritten : (f : List ℕ → List ℕ) (ms : List Bool) (ns : List Tagged) → AtDone (Keeps tagged_level keyed (λ x. (f x.0, x.1))) ms ns
      → kept_rights P u (rename tagged_level (λ x. (f x.0, x.1)) ms ns) ≡ kept_rights P u ns
  kept_rewritten f ms ns a =
      kept_cells (rename tagged_level (λ x. (f x.0, x.1)) ms ns)
      ∙ ap (tags held) (cells_rename tagged_level keyed (λ x. (f x.0, x.1)) [] ms ns a)
      ∙ tags-rename (cell_level tagged_level keyed) held (λ p. ((f p.0.0, p.0.1), p.1)) (λ p. same p.0.0 p.0.1 p.1) ms (cells tagged_level keyed [] ns)
      ∙ sym (kept_cells ns)
    where
      same : (r : List ℕ) (o : Option ℕ) (k : List Key) → held ((f r, o), k) ≡ held ((r, o), k)
      same r none k = refl
      same r (some i) k = refl

  -- a renaming does: neither the old label nor the new one is a policy word
  pub kept-rename : (l : List ℕ) (ms : List Bool) (ns : List Tagged) → policy_word P l ≡ false → AtDone (λ n. NoWord P n.0) ms ns
      → kept_rights P u (after_effect (renaming l ms) ns) ≡ kept_rights P u ns
  kept-rename l ms ns e a =
      kept_rewritten (relabel l) ms ns
      (done_from_lem tagged_level (λ n. NoWord P n.0) (Keeps tagged_level keyed (λ x. (relabel l x.0, x.1))) (keeps l e) ms ns a)

  -- "Windows .. alter no right."
  pub kept-redate : (f l : ℕ) (ms : List Bool) (ns : List Tagged) → AtDone (λ n. Whole n.0) ms ns
      → kept_rights P u (after_effect (redating f l ms) ns) ≡ kept_rights P u ns
  kept-redate f l ms ns a =
      kept_rewritten (redate f l) ms ns
      (done_from_lem tagged_level (λ n. Whole n.0) (Keeps tagged_level keyed (λ x. (redate f l x.0, x.1)))
      (λ n h. (level-redate f l n.0 h.0, ap (key_of P) (label-redate f l n.0 h.0 h.1))) ms ns a)

-- What the records of a table give for the nodes that are followed

nested_tagged : (n : ℕ) (ns : List Tagged) → Nested level n (map (λ x. x.0) ns) → Nested tagged_level n ns
nested_tagged n [] w = tt
nested_tagged n (x ∷ ns) w = (w.0, nested_tagged (suc (tagged_level x)) ns w.1)

pub nodes_nested : (t : List ℕ) (ns : List Tagged) → table_ok t ≡ true → map (λ n. n.0) ns ≡ records t → Nested tagged_level 0 ns
nodes_nested t ns ok e = nested_tagged 0 ns (rw e (table_nested t ok))

done_tagged : (Q : List ℕ → Type 0) (bs : List Bool) (ns : List Tagged) → AtDone Q bs (map (λ n. n.0) ns) → AtDone (λ n. Q n.0) bs ns
done_tagged Q bs [] a = tt
done_tagged Q bs (n ∷ ns) a = (a.0, done_tagged Q (drop 1 bs) ns a.1)

pub nodes_whole : (t : List ℕ) (ms : List Bool) (ns : List Tagged) → map (λ n. n.0) ns ≡ records t → AtDone Whole ms (records t)
    → AtDone (λ n. Whole n.0) ms ns
nodes_whole t ms ns e a = done_tagged Whole ms ns (rw e a)

pub nodes_free : (P : Policy) (t : List ℕ) (ms : List Bool) (ns : List Tagged) → map (λ n. n.0) ns ≡ records t → AtDone (NoWord P) ms (records t)
    → AtDone (λ n. NoWord P n.0) ms ns
nodes_free P t ms ns e a = done_tagged (NoWord P) ms ns (rw e a)
