-- The low projection of a tree of records, for a declared subject: the view is read off it, two trees have the same exactly if they look the same and no policy word
-- differs behind RESTRICTED, and it decides which nodes a change does. Assumes nothing.
use Prim.Native.Nat.{ℕ, zero, suc, ◌<◌, min}
use mathlib.Core.Path.{◌≡◌, refl, ap, ap₂, sym, ◌∙◌}
use mathlib.Core.Bool.{Bool, true, false, cond}
use mathlib.Core.List.{List, [], ◌∷◌, ◌++◌, map}
use mathlib.Core.Logic.{◌⊎◌, inl, inr}
use mathlib.Core.Option.{none, some}
use native.Mathlib.Omega.{arith}
use native.Mathlib.Numerals.{add-one}
use lib.ListN.{length, take, drop, get_or}
use Rattle.rights.specs.Marks.{keep}
use Rattle.rights.specs.Labels.{restricted}
use Rattle.rights.specs.Nodes.{Node, node, Nodes, level_of, label_of}
use Rattle.rights.specs.Policy.{Policy, read, policy_word}
use Rattle.rights.specs.Rights.{holds, rights_by, chains, rights_on}
use Rattle.rights.specs.Table.{records, level, label}
use Rattle.rights.proofs.ListLaws.{by_case}
use Rattle.views.specs.Done.{done_marks, in_table}
use Rattle.views.specs.Nodes.{Nested}
use Rattle.views.specs.Shown.{Stored, stored_from, stored_level, grants, in_window, showable, is_shown, shown_after, shown, view}
use Rattle.views.specs.How.Numbers.{is_shown_at, depth_after, shown_from}
use Rattle.views.specs.declared.done.Change.{Change}
use Rattle.rights.proofs.LabelLaws.{same-folded, folded-same}
use Rattle.rights.proofs.PolicyWords.{word_same}
use Rattle.views.proofs.ShownLaws.{shown_by_depth}
use Rattle.guarantee.specs.Alike.{NoWordDiffers, Behind}
use Rattle.guarantee.proofs.Keys.{Key, key_of, rights_by_keys, rights_by_keys_lem}
use Rattle.guarantee.proofs.Chains.{Cell, cell_level, chain, cells}
use Rattle.guarantee.proofs.Scan.{nested-steps}
use Rattle.guarantee.proofs.Low.{Public, public_level, public_grant, cell_grant, public_of, publics, low_below, low, marks, shown_cells, low_shown, shown_cells_lem, look, KeysBehind, low_alike, alike_low}
use Rattle.guarantee.proofs.DoneSeen.{Item, done_from, items, done_items, all_items, done_seen, done_seen_lem}

-- Lists

map-map : {A B C : Type 0} (f : B → C) (g : A → B) (xs : List A) → map f (map g xs) ≡ map (λ x. f (g x)) xs
map-map f g [] = refl
map-map f g (x ∷ xs) = ap (λ r. f (g x) ∷ r) (map-map f g xs)

pub map-take : {A B : Type 0} (f : A → B) (n : ℕ) (xs : List A) → map f (take n xs) ≡ take n (map f xs)
map-take f zero xs = refl
map-take f (suc n) [] = refl
map-take f (suc n) (x ∷ xs) = ap (λ r. f x ∷ r) (map-take f n xs)

map_snoc : {A B : Type 0} (f : A → B) (xs : List A) (y : A) → map f (xs ++ (y ∷ [])) ≡ map f xs ++ (f y ∷ [])
map_snoc f [] y = refl
map_snoc f (x ∷ xs) y = ap (λ r. f x ∷ r) (map_snoc f xs y)

-- what is shown goes by level and grant alone
shown-map : {E F : Type 0} (lev : F → ℕ) (gr : F → Bool) (f : E → F) (before : List (ℕ × Bool)) (t : List E)
    → shown_after lev gr before (map f t) ≡ shown_after (λ x. lev (f x)) (λ x. gr (f x)) before t
unfolding shown_after
shown-map lev gr f before [] = refl
shown-map lev gr f before (x ∷ t) = ap (λ r. is_shown lev gr before (f x) ∷ r) (shown-map lev gr f ((lev (f x), is_shown lev gr before (f x)) ∷ before) t)

-- a key that is a policy word
abbrev pub is_word : Key → Bool
is_word none = false
is_word (some x) = true

-- A label's key

key_word : (P : Policy) (x : List ℕ) → policy_word P x ≡ is_word (key_of P x)
key_word P x = by_case (policy_word P x) (λ e. rw e) (λ e. rw e)

some_eq : (a b : List ℕ) → ◌≡◌ {A = Key} (some a) (some b) → a ≡ b
some_eq a b z = cc

some-none : {C : Type 0} (a : List ℕ) → ◌≡◌ {A = Key} (some a) none → C
some-none a z = absurd (let o : ◌≡◌ {A = ℕ} 0 1 = cc in omega arith)

module _ (P : Policy) (a b : List ℕ) where
  no_key : policy_word P a ≡ false → policy_word P b ≡ false → key_of P a ≡ key_of P b
  no_key e f = rw (e, f)

  key_same : NoWordDiffers P a b → key_of P a ≡ key_of P b
  key_same (inl e) = rw (word_same P a b e, same-folded a b e)
  key_same (inr e) = no_key e.0 e.1

  same_key : key_of P a ≡ key_of P b → NoWordDiffers P a b
  same_key e = by_case (policy_word P a)
      (λ p. by_case (policy_word P b) (λ q. inl (folded-same a b (some_eq _ _ (rw (p, q) at e)))) (λ q. some-none _ (rw (p, q) at e)))
      (λ p. by_case (policy_word P b) (λ q. some-none _ (sym (rw (p, q) at e))) (λ q. inr (p, q)))

-- The reader

-- a node's record with the rights on it, the label it carries, and no policy word differing behind RESTRICTED
abbrev Held : Type 0
Held = List ℕ × ℕ

abbrev held_label : Held → List ℕ
held_label x = cond (holds read x.1) (label x.0) restricted

abbrev HeldBehind : Policy → List Held → List Held → Type 0
HeldBehind P [] ys = Unit {0}
HeldBehind P (x ∷ xs) [] = Unit {0}
HeldBehind P (x ∷ xs) (y ∷ ys) = (held_label x ≡ restricted → held_label y ≡ restricted → NoWordDiffers P (label x.0) (label y.0)) × HeldBehind P xs ys

abbrev held_of : Stored → Held
held_of x = (x.bytes, x.rights)

to_held : (P : Policy) (xs ys : List Stored) → Behind P xs ys → HeldBehind P (map held_of xs) (map held_of ys)
to_held P [] ys h = tt
to_held P (x ∷ xs) [] h = tt
to_held P (x ∷ xs) (y ∷ ys) h = (h.0, to_held P xs ys h.1)

from_held : (P : Policy) (xs ys : List Stored) → HeldBehind P (map held_of xs) (map held_of ys) → Behind P xs ys
from_held P [] ys h = tt
from_held P (x ∷ xs) [] h = tt
from_held P (x ∷ xs) (y ∷ ys) h = (h.0, from_held P xs ys h.1)

-- what is public of a record
abbrev pub PublicRecord : Type 0
PublicRecord = Public Key (List ℕ)

-- the view that a low projection holds
abbrev pub nodes_of : List PublicRecord → Nodes
nodes_of ps = map (λ p. node p.level p.carried) ps

abbrev pub public_word : PublicRecord → Bool
public_word p = is_word p.key

module _ (P : Policy) (u : ℕ) where
  abbrev pub key_in : List ℕ → Key
  key_in r = key_of P (label r)

  abbrev pub label_by : List Key → List ℕ → List ℕ
  label_by c r = cond (holds read (rights_by_keys P u c)) (label r) restricted

  abbrev pub grant_by : List Key → Bool
  grant_by c = grants (rights_by_keys P u c)

  abbrev RecordCell : Type 0
  RecordCell = Cell level key_in

  abbrev held_cell : RecordCell → Held
  held_cell p = (p.0, rights_by_keys P u p.1)

  abbrev pub public_set : PublicRecord → ℕ
  public_set p = rights_by_keys P u p.chain

  -- which of the shown nodes a change does, where ms are the marks of the selected ones
  abbrev pub done_low : Change → List Bool → List PublicRecord → List Bool
  done_low c ms ps = done_seen public_level (public_grant grant_by) public_set public_word c ms ps

  pub chain_keys : (c : List (List ℕ)) (r : List ℕ) → map (key_of P) (take (level r) c ++ (label r ∷ [])) ≡ chain level key_in (map (key_of P) c) r
  unfolding chain
  chain_keys c r = map_snoc (key_of P) (take (level r) c) (label r) ∙ ap (λ l. l ++ (key_in r ∷ [])) (map-take (key_of P) (level r) c)

  -- the low projection of a tree of records on a day, its stored nodes, and those that are shown
  module _ (day : ℕ) where
    abbrev pub low_of : List (List ℕ) → List PublicRecord
    low_of rs = low level key_in label_by grant_by (in_window day) rs

    abbrev pub stored_by : List (List ℕ) → List Stored
    stored_by rs = stored_from day 0 rs (rights_on P u rs)

    abbrev pub shown_of : List (List ℕ) → List Stored
    shown_of rs = keep (shown (stored_by rs)) (stored_by rs)

    module _ (declared : u < length P.names) where
      set-keys : (c : List (List ℕ)) (r : List ℕ) → rights_by P u (take (level r) c ++ (label r ∷ [])) ≡ rights_by_keys P u (chain level key_in (map (key_of P) c) r)
      set-keys c r = rights_by_keys_lem P u (take (level r) c ++ (label r ∷ [])) ∙ ap (rights_by_keys P u) (chain_keys c r)

      -- the stored nodes and the nodes with their key chains: shown alike, and the same records with the same rights
      shown-cells-by : (i : ℕ) (before : List (ℕ × Bool)) (c : List (List ℕ)) (k : List Key) (rs : List (List ℕ)) → map (key_of P) c ≡ k
          → shown_after stored_level showable before (stored_from day i rs (map (rights_by P u) (chains c rs)))
          ≡ shown_after (cell_level level key_in) (cell_grant level key_in label_by grant_by (in_window day)) before (cells level key_in k rs)
      unfolding shown_after stored_from chains cells
      shown-cells-by i before c k [] e = refl
      shown-cells-by i before c k (r ∷ rs) e =
          rw (← e, set-keys c r)
          (ap (λ l. is_shown (cell_level level key_in) (cell_grant level key_in label_by grant_by (in_window day)) before (r, chain level key_in (map (key_of P) c) r) ∷ l)
          (shown-cells-by (suc i) _ (take (level r) c ++ (label r ∷ [])) (chain level key_in (map (key_of P) c) r) rs (chain_keys c r)))

      held-cells : (bs : List Bool) (i : ℕ) (c : List (List ℕ)) (k : List Key) (rs : List (List ℕ)) → map (key_of P) c ≡ k
          → map held_of (keep bs (stored_from day i rs (map (rights_by P u) (chains c rs)))) ≡ map held_cell (keep bs (cells level key_in k rs))
      unfolding keep stored_from chains cells
      held-cells [] i c k rs e = refl
      held-cells (b ∷ bs) i c k [] e = refl
      held-cells (true ∷ bs) i c k (r ∷ rs) e =
          rw (← e, set-keys c r)
          (ap (λ l. (r, rights_by_keys P u (chain level key_in (map (key_of P) c) r)) ∷ l)
          (held-cells bs (suc i) (take (level r) c ++ (label r ∷ [])) (chain level key_in (map (key_of P) c) r) rs (chain_keys c r)))
      held-cells (false ∷ bs) i c k (r ∷ rs) e =
          rw (← e)
          (held-cells bs (suc i) (take (level r) c ++ (label r ∷ [])) (chain level key_in (map (key_of P) c) r) rs (chain_keys c r))

      held-shown : (rs : List (List ℕ)) → Nested level 0 rs → map held_of (shown_of rs) ≡ map held_cell (shown_cells level key_in label_by grant_by (in_window day) rs)
      held-shown rs w =
          held-cells (shown (stored_by rs)) 0 [] [] rs refl
          ∙ ap (λ bs. map held_cell (keep bs (cells level key_in [] rs))) (shown-cells-by 0 [] [] [] rs refl)
          ∙ ap (map held_cell) (sym (shown_cells_lem level key_in label_by grant_by (in_window day) rs w))

      abbrev cellNode : RecordCell → Node
      cellNode p = node (level p.0) (label_by p.1 p.0)

      view-cells : (rs : List (List ℕ)) → Nested level 0 rs → view (stored_by rs) ≡ map cellNode (shown_cells level key_in label_by grant_by (in_window day) rs)
      view-cells rs w =
          sym (map-map (λ (x : Held). node (level x.0) (held_label x)) held_of (shown_of rs))
          ∙ ap (map (λ (x : Held). node (level x.0) (held_label x))) (held-shown rs w)
          ∙ map-map (λ (x : Held). node (level x.0) (held_label x)) held_cell (shown_cells level key_in label_by grant_by (in_window day) rs)

      -- The view is read off the low projection.
      pub view_low : (rs : List (List ℕ)) → Nested level 0 rs → view (stored_by rs) ≡ nodes_of (low_of rs)
      view_low rs w =
          view-cells rs w
          ∙ sym (map-map (λ (p : PublicRecord). node p.level p.carried) (public_of level key_in label_by grant_by (in_window day)) (shown_cells level key_in label_by grant_by (in_window day) rs))
          ∙ ap nodes_of (sym (low_shown level key_in label_by grant_by (in_window day) rs))

      keys-behind : (ps qs : List RecordCell) → HeldBehind P (map held_cell ps) (map held_cell qs) → KeysBehind level key_in label_by grant_by (in_window day) restricted ps qs
      keys-behind [] qs h = tt
      keys-behind (x ∷ ps) [] h = tt
      keys-behind (x ∷ ps) (y ∷ qs) h = ((λ a b. key_same P (label x.0) (label y.0) (h.0 a b)), keys-behind ps qs h.1)

      behind-keys : (ps qs : List RecordCell) → KeysBehind level key_in label_by grant_by (in_window day) restricted ps qs → HeldBehind P (map held_cell ps) (map held_cell qs)
      behind-keys [] qs h = tt
      behind-keys (x ∷ ps) [] h = tt
      behind-keys (x ∷ ps) (y ∷ qs) h = ((λ a b. same_key P (label x.0) (label y.0) (h.0 a b)), behind-keys ps qs h.1)

      -- what a node carries tells its key, unless it is RESTRICTED
      tells : (c d : List Key) (x y : List ℕ) → label_by c x ≡ label_by d y → (key_in x ≡ key_in y) ⊎ (label_by c x ≡ restricted)
      tells c d x y e = by_case (holds read (rights_by_keys P u c))
          (λ p. by_case (holds read (rights_by_keys P u d))
          (λ q. inl (ap (key_of P) (rw (p, q) at e)))
          (λ q. inr (rw q at e)))
          (λ p. inr (rw p))

      module _ (rs qs : List (List ℕ)) (w : Nested level 0 rs) (v : Nested level 0 qs) where
        -- Trees that look the same, no policy word differing behind RESTRICTED, have the same low projection;
        pub low_of_alike : view (stored_by rs) ≡ view (stored_by qs) → Behind P (shown_of rs) (shown_of qs) → low_of rs ≡ low_of qs
        low_of_alike e h =
            let a = shown_cells level key_in label_by grant_by (in_window day) rs in
            let b = shown_cells level key_in label_by grant_by (in_window day) qs in
            let pair : Node → ℕ × List ℕ = λ n. (level_of n, label_of n) in
            let n : map cellNode a ≡ map cellNode b = sym (view-cells rs w) ∙ e ∙ view-cells qs v in
            let l : map (look level key_in label_by grant_by (in_window day)) a ≡ map (look level key_in label_by grant_by (in_window day)) b = sym (map-map pair cellNode a) ∙ ap (map pair) n ∙ map-map pair cellNode b in
            let k : HeldBehind P (map held_cell a) (map held_cell b) = rw (← held-shown rs w, ← held-shown qs v) (to_held P (shown_of rs) (shown_of qs) h) in
            low_alike level key_in label_by grant_by (in_window day) restricted tells rs qs l (keys-behind a b k)

        -- and back.
        pub alike_of_low : low_of rs ≡ low_of qs → (view (stored_by rs) ≡ view (stored_by qs)) × Behind P (shown_of rs) (shown_of qs)
        alike_of_low e =
            let a = shown_cells level key_in label_by grant_by (in_window day) rs in
            let b = shown_cells level key_in label_by grant_by (in_window day) qs in
            let r = alike_low level key_in label_by grant_by (in_window day) restricted rs qs e in
            let k : HeldBehind P (map held_of (shown_of rs)) (map held_of (shown_of qs)) = rw (held-shown rs w, held-shown qs v) (behind-keys a b r.1) in
            (view_low rs w ∙ ap nodes_of e ∙ sym (view_low qs v), from_held P (shown_of rs) (shown_of qs) k)

      -- What a change does

      abbrev shownPublic : ℕ → List PublicRecord → List Bool
      shownPublic d ps = shown_from public_level (public_grant grant_by) d ps

      abbrev publicItems : ℕ → List Bool → List PublicRecord → List Item
      publicItems d ms ps = all_items public_level (public_grant grant_by) public_set public_word d ms ps

      abbrev tableItems : List (List ℕ) → List ℕ → List Bool → List Bool → List Item
      tableItems rs ss bs ms = items (policy_word P) rs ss bs (in_table bs ms)

      -- one record more, shown or not
      items_more : (b : Bool) (d : ℕ) (ms : List Bool) (h : List Key) (r : List ℕ) (rs : List (List ℕ)) (ss : List ℕ) (ps : List PublicRecord)
          → ((e : ℕ) (ns : List Bool) → tableItems rs ss (shownPublic e ps) ns ≡ publicItems e ns ps)
          → tableItems (r ∷ rs) (rights_by_keys P u h ∷ ss) (b ∷ shownPublic (depth_after d (level r) b) ps) ms
          ≡ cond b
          (record { level = level r; rights = rights_by_keys P u h; shown = true; selected = get_or ms 0 false; word = is_word (key_in r) } ∷ publicItems (suc (level r)) (drop 1 ms) ps)
          (record { level = level r; rights = rights_by_keys P u h; shown = false; selected = false; word = is_word (key_in r) } ∷ publicItems (min d (level r)) ms ps)
      unfolding items in_table
      items_more true d ms h r rs ss ps ih =
          rw (add-one (level r))
          (ap₂ ◌∷◌ (λ i. record { level = level r; rights = rights_by_keys P u h; shown = true; selected = get_or ms 0 false; word = key_word P (label r) i }) (ih (suc (level r)) (drop 1 ms)))
      items_more false d ms h r rs ss ps ih =
          ap₂ ◌∷◌ (λ i. record { level = level r; rights = rights_by_keys P u h; shown = false; selected = false; word = key_word P (label r) i }) (ih (min d (level r)) ms)

      items-public : (d : ℕ) (ms : List Bool) (c : List (List ℕ)) (k : List Key) (rs : List (List ℕ)) → map (key_of P) c ≡ k
          → tableItems rs (map (rights_by P u) (chains c rs)) (shownPublic d (publics level key_in label_by grant_by (in_window day) k rs)) ms
          ≡ publicItems d ms (publics level key_in label_by grant_by (in_window day) k rs)
      unfolding items in_table chains publics cells shown_from all_items
      items-public d ms c k [] e = refl
      items-public d ms c k (r ∷ rs) e =
          let h = chain level key_in (map (key_of P) c) r in
          rw (← e, set-keys c r)
          (items_more (is_shown_at public_level (public_grant grant_by) d (public_of level key_in label_by grant_by (in_window day) (r, h))) d ms h r rs
          (map (rights_by P u) (chains (take (level r) c ++ (label r ∷ [])) rs)) (publics level key_in label_by grant_by (in_window day) h rs)
          (λ f ns. items-public f ns (take (level r) c ++ (label r ∷ [])) h rs (chain_keys c r)))

      public-steps : (n : ℕ) (c : List Key) (rs : List (List ℕ)) → Nested level n rs → Nested public_level n (publics level key_in label_by grant_by (in_window day) c rs)
      unfolding publics cells
      public-steps n c [] w = tt
      public-steps n c (r ∷ rs) w = (w.0, public-steps (suc (level r)) (chain level key_in c r) rs w.1)

      shown-public : (rs : List (List ℕ)) → Nested level 0 rs → shown (stored_by rs) ≡ shown_from public_level (public_grant grant_by) 0 (publics level key_in label_by grant_by (in_window day) [] rs)
      unfolding publics
      shown-public rs w =
          shown-cells-by 0 [] [] [] rs refl
          ∙ sym (shown-map public_level (public_grant grant_by) (public_of level key_in label_by grant_by (in_window day)) [] (cells level key_in [] rs))
          ∙ shown_by_depth public_level (public_grant grant_by) (publics level key_in label_by grant_by (in_window day) [] rs)
          (nested-steps public_level (public_grant grant_by) 0 (publics level key_in label_by grant_by (in_window day) [] rs) (public-steps 0 [] rs w))

      -- The marks of the records that a change does are taken from the low projection alone.
      pub done_low_lem : (c : Change) (ms : List Bool) (t : List ℕ) → Nested level 0 (records t)
          → done_marks c (policy_word P) t (rights_on P u (records t)) (shown (stored_by (records t))) (in_table (shown (stored_by (records t))) ms)
          ≡ marks level key_in label_by grant_by (in_window day) (done_low c ms) (records t)
      unfolding marks low_below
      done_low_lem c ms t w =
          done_items c (policy_word P) t (rights_on P u (records t)) (shown (stored_by (records t))) (in_table (shown (stored_by (records t))) ms)
          ∙ ap (λ bs. done_from c [] [] (items (policy_word P) (records t) (rights_on P u (records t)) bs (in_table bs ms))) (shown-public (records t) w)
          ∙ ap (done_from c [] []) (items-public 0 ms [] [] (records t) refl)
          ∙ done_seen_lem public_level (public_grant grant_by) public_set public_word c ms (publics level key_in label_by grant_by (in_window day) [] (records t))
