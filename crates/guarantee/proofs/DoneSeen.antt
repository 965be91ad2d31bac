-- What a change does, from the shown nodes alone: a node that is not shown is never done, and the parent of a shown node is the nearest shown node before it at a
-- smaller level. Assumes nothing.
use Prim.Native.Nat.{ℕ, zero, suc, ◌+◌, ◌≤◌, min}
use mathlib.Core.Path.{◌≡◌, refl, ap, ◌∙◌}
use mathlib.Core.Bool.{Bool, true, false, cond}
use mathlib.Core.List.{List, [], ◌∷◌}
use native.Mathlib.Omega.{arith}
use lib.Dec.{ltb}
use lib.ListN.{get_or, drop}
use lib.Seq.{get_or-drop, drop-drop}
use borrow.Author.Tests.{ltb-false, le-ltb}
use Rattle.rights.specs.Policy.{insert}
use Rattle.rights.specs.Rights.{holds}
use Rattle.rights.specs.Table.{record_at, records_from, records, level, label, count}
use Rattle.rights.proofs.ListLaws.{by_case}
use Rattle.views.specs.Done.{Asked, does, asked_of, done_marks}
use Rattle.rights.specs.Marks.{each_from}
use Rattle.views.specs.Shown.{at_parent, nearest_first}
use Rattle.views.specs.How.Numbers.{is_shown_at}
use Rattle.views.specs.declared.done.Change.{Change}
use Rattle.views.specs.declared.done.Change.TheVariants.{Rename, Update, Append, Before, After, Remove, Window}
use Rattle.guarantee.proofs.Scan.{seen, spread, shown-level}

-- what a change asks of a node, its parent apart
pub record Item : Type 0 where
  pub level : ℕ
  pub rights : ℕ
  pub shown : Bool
  pub selected : Bool
  pub word : Bool

abbrev pub asked : Item → Bool → Bool → Asked
asked x selected insertable = record {
  level = x.level;
  rights = x.rights;
  shown = x.shown;
  selected = x.selected;
  word = x.word;
  parent_selected = selected;
  parent_insert = insertable;
}

-- of each node whether the change does it; of the nodes before, the nearest first, bs says which are selected, and is on which the user has insert
unfoldable pub done_from : Change → List (ℕ × Bool) → List (ℕ × Bool) → List Item → List Bool
done_from c bs is [] = []
done_from c bs is (x ∷ xs) =
    does c (asked x (at_parent false bs x.level) (at_parent false is x.level))
    ∷ done_from c ((x.level, x.selected) ∷ bs) ((x.level, holds insert x.rights) ∷ is) xs

-- In a table

module _ (word : List ℕ → Bool) (t ss : List ℕ) (bs ms : List Bool) where
  abbrev item_at : ℕ → Item
  item_at i = record { level = level (record_at t i); rights = get_or ss i 0; shown = get_or bs i false; selected = get_or ms i false; word = word (label (record_at t i)) }

  done_walk : (c : Change) (n i : ℕ) → each_from (λ k. does c (asked_of word t ss bs ms k)) i n
      ≡ done_from c (nearest_first (λ k. (level (record_at t k), get_or ms k false)) i) (nearest_first (λ k. (level (record_at t k), holds insert (get_or ss k 0))) i)
      (each_from item_at i n)
  unfolding each_from done_from nearest_first
  done_walk c zero i = refl
  done_walk c (suc n) i = ap (λ r. does c (asked_of word t ss bs ms i) ∷ r) (done_walk c n (suc i))

-- the records, with the rights, whether each is shown, and the marks
unfoldable pub items : (List ℕ → Bool) → List (List ℕ) → List ℕ → List Bool → List Bool → List Item
items word [] ss bs ms = []
items word (r ∷ rs) ss bs ms =
    record { level = level r; rights = get_or ss 0 0; shown = get_or bs 0 false; selected = get_or ms 0 false; word = word (label r) }
    ∷ items word rs (drop 1 ss) (drop 1 bs) (drop 1 ms)

first_of : {A : Type 0} (i : ℕ) (xs : List A) (d : A) → get_or (drop i xs) 0 d ≡ get_or xs i d
first_of i xs d = get_or-drop i xs 0 d ∙ (let e : i + 0 ≡ i = omega arith in rw e)

drop_next : {A : Type 0} (i : ℕ) (xs : List A) → drop 1 (drop i xs) ≡ drop (suc i) xs
drop_next i xs = drop-drop 1 i xs ∙ (let e : i + 1 ≡ suc i = omega arith in rw e)

each-items : (word : List ℕ → Bool) (t ss : List ℕ) (bs ms : List Bool) (n i : ℕ)
    → each_from (item_at word t ss bs ms) i n ≡ items word (records_from t n i) (drop i ss) (drop i bs) (drop i ms)
unfolding each_from items records_from
each-items word t ss bs ms zero i = refl
each-items word t ss bs ms (suc n) i =
    rw (first_of i ss 0, first_of i bs false, first_of i ms false, drop_next i ss, drop_next i bs, drop_next i ms)
    (ap (λ r. item_at word t ss bs ms i ∷ r) (each-items word t ss bs ms n (suc i)))

pub done_items : (c : Change) (word : List ℕ → Bool) (t ss : List ℕ) (bs ms : List Bool) → done_marks c word t ss bs ms ≡ done_from c [] [] (items word (records t) ss bs ms)
unfolding nearest_first
done_items c word t ss bs ms = done_walk word t ss bs ms c (count t) 0 ∙ ap (done_from c [] []) (each-items word t ss bs ms (count t) 0)

-- By the shown nodes

not_done : (c : Change) (x : Item) (a b : Bool) → x.shown ≡ false → x.selected ≡ false → does c (asked x a b) ≡ false
not_done Rename x a b e f = rw f
not_done Update x a b e f = rw e
not_done Append x a b e f = rw f
not_done Before x a b e f = rw f
not_done After x a b e f = rw f
not_done Remove x a b e f = rw f
not_done Window x a b e f = rw f

-- two lists of nodes before have the same parent for every node of a level up to d
abbrev Agree : ℕ → List (ℕ × Bool) → List (ℕ × Bool) → Type 0
Agree d bs cs = (l : ℕ) → l ≤ d → at_parent false bs l ≡ at_parent false cs l

agree_shown : (d k : ℕ) (b : Bool) (bs cs : List (ℕ × Bool)) → k ≤ d → Agree d bs cs → Agree (suc k) ((k, b) ∷ bs) ((k, b) ∷ cs)
unfolding at_parent
agree_shown d k b bs cs h a l q = by_case (ltb k l)
    (λ e. rw e)
    (λ e. let z : l ≤ k = ltb-false k l e in rw e (a l (omega arith)))

agree_hidden : (d k : ℕ) (b : Bool) (bs cs : List (ℕ × Bool)) → Agree d bs cs → Agree (min d k) ((k, b) ∷ bs) cs
unfolding at_parent
agree_hidden d k b bs cs a l q = rw (le-ltb k l (omega arith)) (a l (omega arith))

module _ {E : Type 0} (lev : E → ℕ) (g : E → Bool) (set : E → ℕ) (word : E → Bool) where
  abbrev pub item : Bool → Bool → E → Item
  item b m x = record { level = lev x; rights = set x; shown = b; selected = m; word = word x }

  -- the items of all nodes, where the marks are those of the shown ones, below a shown chain of depth d
  unfoldable pub all_items : ℕ → List Bool → List E → List Item
  all_items d ms [] = []
  all_items d ms (x ∷ t) =
      cond (is_shown_at lev g d x) (item true (get_or ms 0 false) x ∷ all_items (suc (lev x)) (drop 1 ms) t) (item false false x ∷ all_items (min d (lev x)) ms t)

  -- of the shown nodes alone
  unfoldable pub seen_items : List Bool → List E → List Item
  seen_items ms [] = []
  seen_items ms (x ∷ t) = item true (get_or ms 0 false) x ∷ seen_items (drop 1 ms) t

  done_spread : (c : Change) (d : ℕ) (ms : List Bool) (bs cs is js : List (ℕ × Bool)) (t : List E) → Agree d bs cs → Agree d is js
      → done_from c bs is (all_items d ms t) ≡ spread lev g d (done_from c cs js (seen_items ms (seen lev g d t))) t
  unfolding done_from all_items seen_items spread seen
  done_spread c d ms bs cs is js [] a e = refl
  done_spread c d ms bs cs is js (x ∷ t) a e = by_case (is_shown_at lev g d x)
      (λ v. let k : lev x ≤ d = shown-level lev g d x v in
      rw (v, a (lev x) k, e (lev x) k)
      (ap (λ r. does c (asked (item true (get_or ms 0 false) x) (at_parent false cs (lev x)) (at_parent false js (lev x))) ∷ r)
      (done_spread c (suc (lev x)) (drop 1 ms) _ _ _ _ t (agree_shown d (lev x) (get_or ms 0 false) bs cs k a) (agree_shown d (lev x) (holds insert (set x)) is js k e))))
      (λ v. rw (v, not_done c (item false false x) (at_parent false bs (lev x)) (at_parent false is (lev x)) refl refl)
      (ap (λ r. false ∷ r)
      (done_spread c (min d (lev x)) ms _ cs _ js t (agree_hidden d (lev x) false bs cs a) (agree_hidden d (lev x) (holds insert (set x)) is js e))))

  -- which of the shown nodes a change does, where ms are the marks of the selected ones
  abbrev pub done_seen : Change → List Bool → List E → List Bool
  done_seen c ms xs = done_from c [] [] (seen_items ms xs)

  pub done_seen_lem : (c : Change) (ms : List Bool) (t : List E) → done_from c [] [] (all_items 0 ms t) ≡ spread lev g 0 (done_seen c ms (seen lev g 0 t)) t
  done_seen_lem c ms t = done_spread c 0 ms [] [] [] [] t (λ l h. refl) (λ l h. refl)
