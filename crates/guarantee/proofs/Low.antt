-- The low projection: what the reader is shown of a tree, with the key chains. Every change whose marks are taken from it acts on it as a function, and trees
-- that look the same, with equal keys wherever both labels are hidden, have the same. Assumes nothing.
-- A node has a level `lev` and a key `key`. By the chain of its keys, `gr` tells whether it is granted, and `car` what it carries; `cur` tells whether it is
-- current. A node that is granted and current is shown, if its parent is.
use Prim.Native.Nat.{ℕ, suc, ◌≤◌, min}
use mathlib.Core.Path.{◌≡◌, refl, ap, ap₂, sym, ◌∙◌}
use mathlib.Core.Bool.{Bool, true, false, cond, ◌&&◌, and-false}
use mathlib.Core.List.{List, [], ◌∷◌, ◌++◌, map, head-eq_of_cons-eq, tail-eq_of_cons-eq, nil≢cons, cons≢nil}
use mathlib.Core.Logic.{◌⊎◌, inl, inr}
use native.Mathlib.Omega.{arith}
use lib.ListN.{length, take, drop, get_or}
use lib.Seq.{take-take}
use Rattle.rights.specs.Marks.{keep}
use Rattle.rights.proofs.ListLaws.{by_case}
use Rattle.rights.proofs.TableLaws.{both}
use Rattle.views.specs.Change.{remove, insert_behind, insert_in_front, append, insert_after, rename}
use Rattle.views.specs.Done.{in_table}
use Rattle.views.specs.Nodes.{Nested, Above, Front}
use Rattle.views.specs.How.Pass.{AtDone}
use Rattle.views.specs.Shown.{shown_by}
use Rattle.views.specs.How.Numbers.{is_shown_at}
use Rattle.views.proofs.MapLaws.{map-remove, map-insert_behind, map-insert_in_front}
use Rattle.views.proofs.NestedLaws.{done_from_lem}
use Rattle.guarantee.proofs.Chains.{Cell, cell_level, chain, cells, Keeps, cells_nested, cells_done, take_chain, chain_cut, length_chain, cells_remove, cells_insert_behind, cells_insert_in_front, cells_rename}
use Rattle.guarantee.proofs.Scan.{seen, spread, done_every, shown-level, seen-shown, spread_shown, seen-remove, seen-insert_behind, seen-insert_in_front, KeepsGrant, seen-rename, Closes, seen_close, map-seen, spread_map}

-- what is public of a node that is shown, and whether it is current, as every shown node is
pub record Public (K W : Type 0) : Type 0 where
  pub level : ℕ
  pub key : K
  pub chain : List K
  pub carried : W
  pub current : Bool

abbrev pub public_level : {K W : Type 0} → Public K W → ℕ
public_level p = p.level

abbrev pub public_grant : {K W : Type 0} → (List K → Bool) → Public K W → Bool
public_grant gr p = gr p.chain && p.current

-- another label carried, by the key, the chain and the label before
abbrev pub recarried : {K W : Type 0} → (K → List K → W → W) → Public K W → Public K W
recarried h p = record { level = p.level; key = p.key; chain = p.chain; carried = h p.key p.chain p.carried; current = p.current }

-- current or not
abbrev pub recurrent : {K W : Type 0} → Bool → Public K W → Public K W
recurrent o p = record { level = p.level; key = p.key; chain = p.chain; carried = p.carried; current = o }

-- what is re-dated stays in sight, or goes out of it with all below
abbrev pub redated_low : {K W : Type 0} → Bool → List Bool → List (Public K W) → List (Public K W)
redated_low o ds ps = cond o ps (remove public_level ds ps)

-- a renaming of the nodes and that of what they stand for, where they agree at each node that is done
pub map_rename_done : {E N : Type 0} (lev : E → ℕ) (lvl : N → ℕ) (f : E → N) (g : E → E) (h : N → N) (ms : List Bool) (t : List E) → AtDone (λ x. f (g x) ≡ h (f x)) ms t
    → map f (rename lev g ms t) ≡ rename lvl h ms (map f t)
unfolding rename
map_rename_done lev lvl f g h ms [] a = refl
map_rename_done lev lvl f g h ms (x ∷ t) a = let ih = map_rename_done lev lvl f g h (drop 1 ms) t a.1 in by_case (get_or ms 0 false)
    (λ q. rw q (ap₂ ◌∷◌ (a.0 q) ih))
    (λ q. rw q (ap (λ r. f x ∷ r) ih))

module _ {E K W : Type 0} (lev : E → ℕ) (key : E → K) (car : List K → E → W) (gr : List K → Bool) (cur : E → Bool) where
  abbrev pub cell_grant : Cell lev key → Bool
  cell_grant p = gr p.1 && cur p.0

  abbrev pub public_of : Cell lev key → Public K W
  public_of p = record { level = lev p.0; key = key p.0; chain = p.1; carried = car p.1 p.0; current = cur p.0 }

  -- all nodes, as if public, after a node with the chain c
  unfoldable pub publics : List K → List E → List (Public K W)
  publics c t = map public_of (cells lev key c t)

  -- those that are shown, below a shown chain of depth b; and the low projection of a tree
  unfoldable pub low_below : ℕ → List K → List E → List (Public K W)
  low_below b c t = seen public_level (public_grant gr) b (publics c t)

  abbrev pub low : List E → List (Public K W)
  low t = low_below 0 [] t

  -- a change takes the marks of the shown nodes from the low projection alone
  unfoldable pub marks : (List (Public K W) → List Bool) → List E → List Bool
  marks ds t = spread public_level (public_grant gr) 0 (ds (low t)) (publics [] t)

  -- the shown nodes themselves
  unfoldable pub shown_cells : List E → List (Cell lev key)
  shown_cells t = seen (cell_level lev key) cell_grant 0 (cells lev key [] t)

  -- The low projection and the view

  pub low_shown : (t : List E) → low t ≡ map public_of (shown_cells t)
  unfolding low_below publics shown_cells
  low_shown t = sym (map-seen (cell_level lev key) public_level cell_grant (public_grant gr) public_of (λ x. refl) (λ x. refl) 0 (cells lev key [] t))

  pub shown_cells_lem : (t : List E) → Nested lev 0 t
      → shown_cells t ≡ keep (shown_by (cell_level lev key) cell_grant (cells lev key [] t)) (cells lev key [] t)
  unfolding shown_cells
  shown_cells_lem t w = seen-shown (cell_level lev key) cell_grant (cells lev key [] t) (cells_nested lev key 0 [] t w)

  pub marks_shown : (ds : List (Public K W) → List Bool) (t : List E) → Nested lev 0 t
      → marks ds t ≡ in_table (shown_by (cell_level lev key) cell_grant (cells lev key [] t)) (ds (low t))
  unfolding marks publics
  marks_shown ds t w = spread_map (cell_level lev key) public_level cell_grant (public_grant gr) public_of (λ x. refl) (λ x. refl) 0 (ds (low t)) (cells lev key [] t)
      ∙ spread_shown (cell_level lev key) cell_grant (ds (low t)) (cells lev key [] t) (cells_nested lev key 0 [] t w)

  -- Removal

  pub low_remove : (ds : List (Public K W) → List Bool) (t : List E) → Nested lev 0 t
      → low (remove lev (marks ds t) t) ≡ remove public_level (ds (low t)) (low t)
  unfolding low_below publics marks
  low_remove ds t w = ap (λ r. seen public_level (public_grant gr) 0 (map public_of r)) (cells_remove lev key [] _ t w)
      ∙ ap (seen public_level (public_grant gr) 0) (map-remove (cell_level lev key) public_level public_of (λ x. refl) _ (cells lev key [] t))
      ∙ seen-remove public_level (public_grant gr) 0 (ds (low t)) (publics [] t)

  -- Insertion

  publics_above : (k : ℕ) (c : List K) (y : List E) → Above lev k y → Above public_level k (publics c y)
  unfolding publics cells
  publics_above k c [] a = tt
  publics_above k c (x ∷ y) a = (a.0, publics_above k (chain lev key c x) y a.1)

  publics_front : (k : ℕ) (c : List K) (y : List E) → Front lev k y → Front public_level k (publics c y)
  unfolding publics cells
  publics_front k c [] f = tt
  publics_front k c (x ∷ y) f = f

  -- What is inserted, by the level of the node below or behind which it goes: its root is at level `base l`, which is suc l for append and l for after.
  module _ (y : ℕ → List E) (base : ℕ → ℕ) (lo : (l : ℕ) → l ≤ base l) (hi : (l : ℕ) → base l ≤ suc l)
      (above : (l : ℕ) → Above lev (base l) (y l)) (front : (l : ℕ) → Front lev (base l) (y l)) where
    pub low_insert_behind : (ds : List (Public K W) → List Bool) (t : List E) → Nested lev 0 t
        → low (insert_behind lev (λ x. y (lev x)) (marks ds t) t)
        ≡ insert_behind public_level (λ p. low_below (base p.level) p.chain (y p.level)) (ds (low t)) (low t)
    unfolding low_below publics marks
    low_insert_behind ds t w =
        ap (λ r. seen public_level (public_grant gr) 0 (map public_of r))
        (cells_insert_behind lev key (λ x. y (lev x)) (λ x. base (lev x)) (λ x. lo (lev x)) (λ x. hi (lev x)) (λ x. above (lev x)) (λ x. front (lev x)) [] _ t w)
        ∙ ap (seen public_level (public_grant gr) 0)
        (map-insert_behind (cell_level lev key) public_level public_of (λ x. refl) (λ p. cells lev key p.1 (y (lev p.0))) (λ p. publics p.chain (y p.level))
        (λ x. refl) _ (cells lev key [] t))
        ∙ seen-insert_behind public_level (public_grant gr) (λ p. publics p.chain (y p.level)) (λ p. base p.level) (λ p. lo p.level) (λ p. hi p.level)
        (λ p. publics_above (base p.level) p.chain (y p.level) (above p.level))
        (λ p. publics_front (base p.level) p.chain (y p.level) (front p.level)) 0 (ds (low t)) (publics [] t)

  module _ (tree : ℕ → List E) (above : (l : ℕ) → Above lev l (tree l)) (front : (l : ℕ) → Front lev l (tree l)) where
    pub low_insert_in_front : (ds : List (Public K W) → List Bool) (t : List E) → Nested lev 0 t
        → low (insert_in_front lev (λ x. tree (lev x)) (marks ds t) t)
        ≡ insert_in_front public_level (λ p. low_below p.level p.chain (tree p.level)) (ds (low t)) (low t)
    unfolding low_below publics marks
    low_insert_in_front ds t w =
        ap (λ r. seen public_level (public_grant gr) 0 (map public_of r))
        (cells_insert_in_front lev key (λ x. tree (lev x)) (λ x. above (lev x)) (λ x. front (lev x)) [] _ t w)
        ∙ ap (seen public_level (public_grant gr) 0)
        (map-insert_in_front (cell_level lev key) public_level public_of (λ x. refl) (λ p. cells lev key p.1 (tree (lev p.0))) (λ p. publics p.chain (tree p.level))
        (λ x. refl) _ (cells lev key [] t))
        ∙ seen-insert_in_front public_level (public_grant gr) (λ p. publics p.chain (tree p.level))
        (λ p. publics_above p.level p.chain (tree p.level) (above p.level))
        (λ p. publics_front p.level p.chain (tree p.level) (front p.level)) 0 (ds (low t)) (publics [] t)

    -- append and after, of a tree with its root at level l in `tree l`; before is insert_in_front as it stands
    pub low_append : (ds : List (Public K W) → List Bool) (t : List E) → Nested lev 0 t
        → low (append lev tree (marks ds t) t)
        ≡ insert_behind public_level (λ p. low_below (suc p.level) p.chain (tree (suc p.level))) (ds (low t)) (low t)
    low_append = low_insert_behind (λ l. tree (suc l)) (λ l. suc l) (λ l. omega arith) (λ l. omega arith) (λ l. above (suc l)) (λ l. front (suc l))

    pub low_insert_after : (ds : List (Public K W) → List Bool) (t : List E) → Nested lev 0 t
        → low (insert_after lev tree (marks ds t) t)
        ≡ insert_behind public_level (λ p. low_below p.level p.chain (tree p.level)) (ds (low t)) (low t)
    low_insert_after = low_insert_behind tree (λ l. l) (λ l. omega arith) (λ l. omega arith) above front

  -- Renaming: f keeps level and key of the node, and whether it is current; what the node carries afterwards is h of what is public of it

  abbrev pub Renames : (E → E) → (K → List K → W → W) → E → Type 0
  Renames f h x = Keeps lev key f x × ((c : List K) → car c (f x) ≡ h (key x) c (car c x)) × (cur (f x) ≡ cur x)

  public_rename : (f : E → E) (h : K → List K → W → W) (p : Cell lev key) → Renames f h p.0 → public_of (f p.0, p.1) ≡ recarried h (public_of p)
  public_rename f h p a = λ i. record { level = a.0.0 i; key = a.0.1 i; chain = p.1; carried = a.1 p.1 i; current = a.2 i }

  pub low_rename : (f : E → E) (h : K → List K → W → W) (ds : List (Public K W) → List Bool) (t : List E) → AtDone (Renames f h) (marks ds t) t
      → low (rename lev f (marks ds t) t) ≡ rename public_level (recarried h) (ds (low t)) (low t)
  unfolding low_below publics marks
  low_rename f h ds t a =
      let ms = spread public_level (public_grant gr) 0 (ds (low t)) (publics [] t) in
      ap (λ r. seen public_level (public_grant gr) 0 (map public_of r))
      (cells_rename lev key f [] ms t (done_from_lem lev (Renames f h) (Keeps lev key f) (λ x k. k.0) ms t a))
      ∙ ap (seen public_level (public_grant gr) 0)
      (map_rename_done (cell_level lev key) public_level public_of (λ p. (f p.0, p.1)) (recarried h) ms (cells lev key [] t)
      (done_from_lem (cell_level lev key) (λ p. Renames f h p.0) (λ p. public_of (f p.0, p.1) ≡ recarried h (public_of p)) (public_rename f h) ms (cells lev key [] t)
      (cells_done lev key (Renames f h) [] ms t a)))
      ∙ seen-rename public_level (public_grant gr) (recarried h) 0 (ds (low t)) (publics [] t)
      (done_every (KeepsGrant public_level (public_grant gr) (recarried h)) (λ p. (refl, refl)) ms (publics [] t))

  -- Re-dating: f keeps level, key and what the node carries; all that is done is current afterwards, or none of it is, and then it goes out of sight, with all below.

  abbrev pub Redates : (E → E) → Bool → E → Type 0
  Redates f o x = Keeps lev key f x × ((c : List K) → car c (f x) ≡ car c x) × (cur (f x) ≡ o)

  public_redate : (f : E → E) (o : Bool) (p : Cell lev key) → Redates f o p.0 → public_of (f p.0, p.1) ≡ recurrent o (public_of p)
  public_redate f o p a = λ i. record { level = a.0.0 i; key = a.0.1 i; chain = p.1; carried = a.1 p.1 i; current = a.2 i }

  -- of what was shown, and so current, nothing changes if it is current afterwards
  seen_current : (b : ℕ) (ds : List Bool) (ps : List (Public K W))
      → seen public_level (public_grant gr) b (rename public_level (recurrent true) (spread public_level (public_grant gr) b ds ps) ps) ≡ seen public_level (public_grant gr) b ps
  unfolding seen spread rename
  seen_current b ds [] = refl
  seen_current b ds (p ∷ ps) = by_case (is_shown_at public_level (public_grant gr) b p)
      (λ v. let o : p.current ≡ true = (both (gr p.chain) p.current (both (public_grant gr p) _ v).0).1 in
      let e : recurrent true p ≡ p = λ i. record { level = p.level; key = p.key; chain = p.chain; carried = p.carried; current = sym o i } in
      let z : is_shown_at public_level (public_grant gr) b (recurrent true p) ≡ true = ap (is_shown_at public_level (public_grant gr) b) e ∙ v in
      by_case (get_or ds 0 false)
      (λ d. rw (v, d, z) (ap₂ ◌∷◌ e (seen_current (suc p.level) (drop 1 ds) ps)))
      (λ d. rw (v, d, v) (ap (λ r. p ∷ r) (seen_current (suc p.level) (drop 1 ds) ps))))
      (λ v. rw (v, v) (seen_current (min b p.level) ds ps))

  seen-redate : (o : Bool) (ds : List Bool) (ps : List (Public K W))
      → seen public_level (public_grant gr) 0 (rename public_level (recurrent o) (spread public_level (public_grant gr) 0 ds ps) ps)
      ≡ redated_low o ds (seen public_level (public_grant gr) 0 ps)
  seen-redate true ds ps = seen_current 0 ds ps
  seen-redate false ds ps =
      seen_close public_level (public_grant gr) (recurrent false) 0 0 ds ps (omega arith)
      (done_every (Closes public_level (public_grant gr) (recurrent false)) (λ p. (refl, and-false (gr p.chain))) _ ps)
      ∙ seen-remove public_level (public_grant gr) 0 ds ps

  pub low_redate : (f : E → E) (o : Bool) (ds : List (Public K W) → List Bool) (t : List E) → AtDone (Redates f o) (marks ds t) t
      → low (rename lev f (marks ds t) t) ≡ redated_low o (ds (low t)) (low t)
  unfolding low_below publics marks
  low_redate f o ds t a =
      let ms = spread public_level (public_grant gr) 0 (ds (low t)) (publics [] t) in
      ap (λ r. seen public_level (public_grant gr) 0 (map public_of r))
      (cells_rename lev key f [] ms t (done_from_lem lev (Redates f o) (Keeps lev key f) (λ x k. k.0) ms t a))
      ∙ ap (seen public_level (public_grant gr) 0)
      (map_rename_done (cell_level lev key) public_level public_of (λ p. (f p.0, p.1)) (recurrent o) ms (cells lev key [] t)
      (done_from_lem (cell_level lev key) (λ p. Redates f o p.0) (λ p. public_of (f p.0, p.1) ≡ recurrent o (public_of p)) (public_redate f o) ms (cells lev key [] t)
      (cells_done lev key (Redates f o) [] ms t a)))
      ∙ seen-redate o (ds (low t)) (publics [] t)

  -- Trees that look the same

  -- what is compared of a shown node, and the same with its key
  abbrev pub look : Cell lev key → ℕ × W
  look p = (lev p.0, car p.1 p.0)

  abbrev key_look : Cell lev key → ℕ × K × W
  key_look p = (lev p.0, key p.0, car p.1 p.0)

  -- the key chains again, from the shown nodes alone
  rechain : List K → List (ℕ × K × W) → List (Public K W)
  rechain c [] = []
  rechain c (q ∷ r) =
      let d = take q.0 c ++ (q.1 ∷ []) in
      record { level = q.0; key = q.1; chain = d; carried = q.2; current = true } ∷ rechain d r

  rechain_seen : (b : ℕ) (c c2 : List K) (t : List E) → take b c2 ≡ take b c → b ≤ length c
      → map public_of (seen (cell_level lev key) cell_grant b (cells lev key c t)) ≡ rechain c2 (map key_look (seen (cell_level lev key) cell_grant b (cells lev key c t)))
  unfolding seen cells rechain chain
  rechain_seen b c c2 [] e h = refl
  rechain_seen b c c2 (x ∷ t) e h = by_case (is_shown_at (cell_level lev key) cell_grant b (x, chain lev key c x))
      (λ v. let k : lev x ≤ b = shown-level (cell_level lev key) cell_grant b (x, chain lev key c x) v in
      let d = chain lev key c x in
      let o : cur x ≡ true = (both (gr d) (cur x) (both (cell_grant (x, d)) _ v).0).1 in
      rw (v, chain_cut lev key b c2 c x e k) (ap₂ ◌∷◌ (λ i. record { level = lev x; key = key x; chain = d; carried = car d x; current = o i })
      (rechain_seen (suc (lev x)) (chain lev key c x) (chain lev key c x) t refl (omega (arith, length_chain lev key c x)))))
      (λ v. let m = min b (lev x) in rw v (rechain_seen m (chain lev key c x) c2 t
      (sym (take-take m b c2 (omega arith)) ∙ ap (take m) e ∙ take-take m b c (omega arith) ∙ sym (take_chain lev key m c x (omega arith) (omega arith)))
      (omega (arith, length_chain lev key c x))))

  low_rechain : (t : List E) → low t ≡ rechain [] (map key_look (shown_cells t))
  unfolding shown_cells
  low_rechain t = low_shown t ∙ rechain_seen 0 [] [] t refl (omega arith)

  -- in the same place, the keys are equal if both nodes carry `res`
  abbrev pub KeysBehind : W → List (Cell lev key) → List (Cell lev key) → Type 0
  KeysBehind res [] q = Unit {0}
  KeysBehind res (x ∷ p) [] = Unit {0}
  KeysBehind res (x ∷ p) (y ∷ q) = (car x.1 x.0 ≡ res → car y.1 y.0 ≡ res → key x.0 ≡ key y.0) × KeysBehind res p q

  -- what a node carries tells its key, unless it is `res`
  module _ (res : W) (tells : (c d : List K) (x y : E) → car c x ≡ car d y → (key x ≡ key y) ⊎ (car c x ≡ res)) where
    same_node : (x y : Cell lev key) → look x ≡ look y → (car x.1 x.0 ≡ res → car y.1 y.0 ≡ res → key x.0 ≡ key y.0) → key_look x ≡ key_look y
    same_node x y e h = by (tells x.1 y.1 x.0 y.0 (ap (λ r. r.1) e))
      where
        with_key : key x.0 ≡ key y.0 → key_look x ≡ key_look y
        with_key q = λ i. ((e i).0, q i, (e i).1)

        by : (key x.0 ≡ key y.0) ⊎ (car x.1 x.0 ≡ res) → key_look x ≡ key_look y
        by (inl q) = with_key q
        by (inr q) = with_key (h q (sym (ap (λ r. r.1) e) ∙ q))

    same_nodes : (p q : List (Cell lev key)) → map look p ≡ map look q → KeysBehind res p q → map key_look p ≡ map key_look q
    same_nodes [] [] e h = refl
    same_nodes [] (y ∷ q) e h = absurd (nil≢cons e)
    same_nodes (x ∷ p) [] e h = absurd (cons≢nil e)
    same_nodes (x ∷ p) (y ∷ q) e h = ap₂ ◌∷◌ (same_node x y (head-eq_of_cons-eq e) h.0) (same_nodes p q (tail-eq_of_cons-eq e) h.1)

    -- Trees that look the same, with equal keys behind `res`, have the same low projection: levels, keys, key chains and what is carried.
    pub low_alike : (t u : List E) → map look (shown_cells t) ≡ map look (shown_cells u) → KeysBehind res (shown_cells t) (shown_cells u) → low t ≡ low u
    low_alike t u e h = low_rechain t ∙ ap (rechain []) (same_nodes (shown_cells t) (shown_cells u) e h) ∙ sym (low_rechain u)

  -- and back
  same_public : (res : W) (p q : List (Cell lev key)) → map public_of p ≡ map public_of q → (map look p ≡ map look q) × KeysBehind res p q
  same_public res [] [] e = (refl, tt)
  same_public res [] (y ∷ q) e = absurd (nil≢cons e)
  same_public res (x ∷ p) [] e = absurd (cons≢nil e)
  same_public res (x ∷ p) (y ∷ q) e =
      let h = head-eq_of_cons-eq e in
      let i = same_public res p q (tail-eq_of_cons-eq e) in
      (ap₂ ◌∷◌ (λ j. ((h j).level, (h j).carried)) i.0, ((λ a b. ap (λ z. z.key) h), i.1))

  pub alike_low : (res : W) (t u : List E) → low t ≡ low u → (map look (shown_cells t) ≡ map look (shown_cells u)) × KeysBehind res (shown_cells t) (shown_cells u)
  alike_low res t u e = same_public res (shown_cells t) (shown_cells u) (sym (low_shown t) ∙ e ∙ low_shown u)
