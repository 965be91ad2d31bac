-- What a line of a logged-in user reads off a store, by the low projection: the view, the selection, the counts, the depth at the places that would be done; and the
-- low projection of what an effect leaves, where the marked nodes are taken from it. Assumes nothing.
use Prim.Native.Nat.{ℕ, suc, ◌+◌, ◌≤◌, ◌<◌, min}
use mathlib.Core.Path.{◌≡◌, refl, ap, ap₂, sym, ◌∙◌, subst}
use mathlib.Core.Bool.{Bool, true, false, cond, ◌&&◌, ◌||◌}
use mathlib.Core.List.{List, [], ◌∷◌}
use native.Mathlib.Omega.{arith}
use lib.Dec.{leb, ltb}
use lib.ListN.{get_or, length, drop}
use Rattle.rights.specs.Labels.{restricted}
use Rattle.rights.specs.Policy.{insert, Policy, read, policy_word}
use Rattle.rights.specs.Isa.{passes_own}
use Rattle.rights.specs.Rights.{holds, rights_on}
use Rattle.rights.specs.XPath.{xpath_selection}
use Rattle.rights.specs.Table.{records, level, table_ok}
use Rattle.rights.specs.Limits.{label_max}
use Rattle.rights.proofs.ListLaws.{by_case}
use Rattle.views.proofs.RelabelLaws.{level-relabel, label-relabel, in_window_relabel}
use Rattle.views.proofs.RedateLaws.{level-redate, label-redate, in_window_redate}
use Rattle.views.specs.Change.{remove, insert_behind, insert_in_front, rename, chunks, raise, relabel, redate, placed, removed, renamed, redated, too_deep}
use Rattle.views.specs.Done.{done_marks, in_table}
use Rattle.rights.specs.Marks.{mark_count}
use Rattle.views.specs.Nodes.{Nested, Front}
use Rattle.views.specs.How.Pass.{AtDone}
use Rattle.views.specs.Shown.{stored, in_window, shown, view}
use Rattle.views.specs.How.Numbers.{is_shown_at}
use Rattle.views.specs.declared.done.Change.{Change}
use Rattle.views.specs.declared.insert.Place.{Place}
use Rattle.views.specs.declared.insert.Place.TheVariants as place
use Rattle.views.proofs.NestedLaws.{done_from_lem}
use Rattle.views.proofs.RecordBytes.{above-raise}
use Rattle.answers.specs.Answer.{done_text}
use Rattle.lines.specs.State.{user_of, day_in, policy_in}
use Rattle.lines.specs.UserView.{rights_in, view_in, marks_in, done_in}
use Rattle.lines.specs.Work.{count_text}
use Rattle.guarantee.specs.Alike.{SamePolicy, UserIs}
use Rattle.guarantee.proofs.SamePolicy.{same-own, same_word, same_rights_on}
use Rattle.guarantee.proofs.Keys.{Key, key_of, rights_by_keys}
use Rattle.guarantee.proofs.Chains.{chain, cells}
use Rattle.guarantee.proofs.Scan.{seen, spread}
use Rattle.guarantee.proofs.Low.{Public, public_level, public_grant, public_of, publics, low_below, marks, recarried, redated_low, Renames, Redates, low_remove, low_append, low_insert_after, low_insert_in_front, low_rename, low_redate}
use Rattle.guarantee.proofs.DoneSeen.{Item, done_from, seen_items, done_seen}
use Rattle.guarantee.proofs.Sound.{NoWord, Whole}
use Rattle.guarantee.proofs.TableAfter.{table_nested}
use Rattle.guarantee.proofs.LowTable.{PublicRecord, key_in, label_by, grant_by, low_of, nodes_of, view_low, done_low, public_set, public_word, done_low_lem}

-- an inserted tree
front-raise : (k : ℕ) (tree : List (List ℕ)) → Nested level 0 tree → Front level k (raise k tree)
unfolding raise
front-raise k [] w = tt
front-raise k (r ∷ rs) w = omega (arith, w.0)

-- Counts

length_from : (c : Change) (bs is : List (ℕ × Bool)) (xs : List Item) → length (done_from c bs is xs) ≡ length xs
unfolding done_from
length_from c bs is [] = refl
length_from c bs is (x ∷ xs) = ap suc (length_from c ((x.level, x.selected) ∷ bs) ((x.level, holds insert x.rights) ∷ is) xs)

module _ {E : Type 0} (lev : E → ℕ) (g : E → Bool) (set : E → ℕ) (word : E → Bool) where
  length-items : (ms : List Bool) (t : List E) → length (seen_items lev g set word ms t) ≡ length t
  unfolding seen_items
  length-items ms [] = refl
  length-items ms (x ∷ t) = ap suc (length-items (drop 1 ms) t)

  length_done : (c : Change) (ms : List Bool) (t : List E) → length (done_seen lev g set word c ms t) ≡ length t
  length_done c ms t = length_from c [] [] (seen_items lev g set word ms t) ∙ length-items ms t

  count_more : (d : Bool) (a b : List Bool) → mark_count a ≡ mark_count b → mark_count (d ∷ a) ≡ mark_count (d ∷ b)
  count_more true a b e = ap suc e
  count_more false a b e = e

  count_spread : (b : ℕ) (ds : List Bool) (t : List E) → length ds ≡ length (seen lev g b t) → mark_count (spread lev g b ds t) ≡ mark_count ds
  unfolding spread seen
  count_spread b [] [] e = refl
  count_spread b (d ∷ ds) [] e = absurd (omega (arith, e))
  count_spread b [] (x ∷ t) e = by_case (is_shown_at lev g b x)
      (λ v. absurd (let q : 0 ≡ suc (length (seen lev g (suc (lev x)) t)) = rw v at e in omega (arith, q)))
      (λ v. let q : 0 ≡ length (seen lev g (min b (lev x)) t) = rw v at e in rw v (count_spread (min b (lev x)) [] t q))
  count_spread b (d ∷ ds) (x ∷ t) e = by_case (is_shown_at lev g b x)
      (λ v. let q : suc (length ds) ≡ suc (length (seen lev g (suc (lev x)) t)) = rw v at e in
      rw v (count_more d (spread lev g (suc (lev x)) ds t) ds (count_spread (suc (lev x)) ds t (omega (arith, q)))))
      (λ v. let q : length (d ∷ ds) ≡ length (seen lev g (min b (lev x)) t) = rw v at e in rw v (count_spread (min b (lev x)) (d ∷ ds) t q))

-- refusal 10 on the shown nodes
unfoldable pub deep_low : {K W : Type 0} → ℕ → List Bool → List (Public K W) → Bool
deep_low k ds [] = false
deep_low k ds (p ∷ ps) = (get_or ds 0 false && ltb 11 (p.level + k)) || deep_low k (drop 1 ds) ps

module _ (P : Policy) (u day : ℕ) where
  -- What a line asks of a low projection

  -- the marks of what a path selects
  abbrev pub select_low : List ℕ → List PublicRecord → List Bool
  select_low path ps = xpath_selection path (passes_own P u) (nodes_of ps)

  -- of the shown nodes that a change does, after a selection
  abbrev pub done_by : Change → List ℕ → List PublicRecord → List Bool
  done_by c path ps = done_low P u c (select_low path ps) ps

  abbrev pub count_low : Change → List ℕ → List PublicRecord → List ℕ
  count_low c path ps = done_text (mark_count (select_low path ps)) (mark_count (done_by c path ps))

  -- ds marks the shown nodes, ms those of the table
  abbrev pub Marked : (List PublicRecord → List Bool) → List Bool → List ℕ → Type 0
  Marked ds ms t = ms ≡ marks level (key_in P u) (label_by P u) (grant_by P u) (in_window day) ds (records t)

  -- the shown part of a tree with its root at level l, below or beside a node with this chain
  abbrev pub tree_low : ℕ → List ℕ → ℕ → List Key → List PublicRecord
  tree_low m tree l ks = low_below level (key_in P u) (label_by P u) (grant_by P u) (in_window day) l ks (raise l (chunks m tree))

  deep_spread : (k b : ℕ) (c : List Key) (ds : List Bool) (rs : List (List ℕ))
      → too_deep k (spread public_level (public_grant (grant_by P u)) b ds (publics level (key_in P u) (label_by P u) (grant_by P u) (in_window day) c rs)) rs
      ≡ deep_low k ds (seen public_level (public_grant (grant_by P u)) b (publics level (key_in P u) (label_by P u) (grant_by P u) (in_window day) c rs))
  unfolding too_deep spread seen publics cells deep_low
  deep_spread k b c ds [] = refl
  deep_spread k b c ds (r ∷ rs) =
      let h = chain level (key_in P u) c r in
      by_case (is_shown_at public_level (public_grant (grant_by P u)) b (public_of level (key_in P u) (label_by P u) (grant_by P u) (in_window day) (r, h)))
      (λ v. rw v (ap (λ z. (get_or ds 0 false && ltb 11 (level r + k)) || z) (deep_spread k (suc (level r)) h (drop 1 ds) rs)))
      (λ v. rw v (deep_spread k (min b (level r)) h ds rs))

  module _ (declared : u < length P.names) (s t : List ℕ) (same : SamePolicy P (policy_in s)) (ok : table_ok t ≡ true) (user : UserIs u s) (today : day_in s ≡ day) where
    nested : Nested level 0 (records t)
    nested = table_nested t ok

    user-in : user_of s ≡ u
    user-in = omega (arith, user)

    word_in : policy_word (policy_in s) ≡ policy_word P
    word_in = sym (same_word P (policy_in s) same)

    own_in : passes_own (policy_in s) (user_of s) ≡ passes_own P u
    own_in = ap (passes_own (policy_in s)) user-in ∙ sym (same-own P (policy_in s) same u)

    rights-in : rights_in s t ≡ rights_on P u (records t)
    rights-in = ap (λ v. rights_on (policy_in s) v (records t)) user-in ∙ sym (same_rights_on P (policy_in s) same u (records t))

    pub view_in_lem : view_in s t ≡ nodes_of (low_of P u day (records t))
    view_in_lem = ap₂ (λ d ss. view (stored d t ss)) today rights-in ∙ view_low P u day declared (records t) nested

    pub marks_in_lem : (path : List ℕ) → marks_in s t path ≡ select_low path (low_of P u day (records t))
    marks_in_lem path = ap₂ (xpath_selection path) own_in view_in_lem

    pub done_in_lem : (c : Change) (path : List ℕ)
        → Marked (done_low P u c (select_low path (low_of P u day (records t)))) (done_in c s t path) t
    done_in_lem c path =
        (λ i. done_marks c (word_in i) t (rights-in i) (shown (stored (today i) t (rights-in i))) (in_table (shown (stored (today i) t (rights-in i))) (marks_in_lem path i)))
        ∙ done_low_lem P u day declared c (select_low path (low_of P u day (records t))) t nested

    count-in : (c : Change) (path : List ℕ) → mark_count (done_in c s t path) ≡ mark_count (done_by c path (low_of P u day (records t)))
    unfolding marks low_below
    count-in c path =
        ap mark_count (done_in_lem c path)
        ∙ count_spread public_level (public_grant (grant_by P u)) (public_set P u) public_word 0 (done_by c path (low_of P u day (records t)))
        (publics level (key_in P u) (label_by P u) (grant_by P u) (in_window day) [] (records t))
        (length_done public_level (public_grant (grant_by P u)) (public_set P u) public_word c (select_low path (low_of P u day (records t))) (low_of P u day (records t)))

    -- "The answer is `(done S D)`": both counts
    pub text_in : (c : Change) (path : List ℕ) → count_text c s t path ≡ count_low c path (low_of P u day (records t))
    text_in c path = λ i. done_text (mark_count (marks_in_lem path i)) (count-in c path i)

    -- "10 .. a level above 11 .. at a place that would be done"
    pub deep_in : (k : ℕ) (c : Change) (path : List ℕ)
        → too_deep k (done_in c s t path) (records t) ≡ deep_low k (done_by c path (low_of P u day (records t))) (low_of P u day (records t))
    unfolding marks low_below
    deep_in k c path = ap (λ ms. too_deep k ms (records t)) (done_in_lem c path) ∙ deep_spread k 0 [] (done_by c path (low_of P u day (records t))) (records t)

  -- The low projection of what an effect leaves

  abbrev pub remove_low : (List PublicRecord → List Bool) → List PublicRecord → List PublicRecord
  remove_low ds ps = remove public_level (ds ps) ps

  abbrev carried_by : List ℕ → Key → List Key → List ℕ → List ℕ
  carried_by l k ks w = cond (holds read (rights_by_keys P u ks)) l restricted

  abbrev pub rename_low : List ℕ → (List PublicRecord → List Bool) → List PublicRecord → List PublicRecord
  rename_low l ds ps = rename public_level (recarried (carried_by l)) (ds ps) ps

  abbrev pub place_low : Place → ℕ → List ℕ → (List PublicRecord → List Bool) → List PublicRecord → List PublicRecord
  place_low place.Append m tree ds ps = insert_behind public_level (λ p. tree_low m tree (suc p.level) p.chain) (ds ps) ps
  place_low place.After m tree ds ps = insert_behind public_level (λ p. tree_low m tree p.level p.chain) (ds ps) ps
  place_low place.Before m tree ds ps = insert_in_front public_level (λ p. tree_low m tree p.level p.chain) (ds ps) ps

  abbrev pub redate_low : ℕ → ℕ → (List PublicRecord → List Bool) → List PublicRecord → List PublicRecord
  redate_low f l ds ps = redated_low (leb f day && leb day l) (ds ps) ps

  renames : (l : List ℕ) → length l ≤ label_max → policy_word P l ≡ false → (r : List ℕ) → NoWord P r → Renames level (key_in P u) (label_by P u) (grant_by P u) (in_window day) (relabel l) (carried_by l) r
  renames l short q r e = (
    (level-relabel l r, (let z = label-relabel l r in rw (z, q, e))),
    (λ c. let z = label-relabel l r in rw z),
    in_window_relabel l r short day,
  )

  redates : (f l : ℕ) (r : List ℕ) → Whole r → Redates level (key_in P u) (label_by P u) (grant_by P u) (in_window day) (redate f l) (leb f day && leb day l) r
  redates f l r h = (
    (level-redate f l r h.0, ap (key_of P) (label-redate f l r h.0 h.1)),
    (λ c. let z = label-redate f l r h.0 h.1 in rw z),
    in_window_redate f l r h.0 day,
  )

  module _ (t : List ℕ) (ok : table_ok t ≡ true) (ds : List PublicRecord → List Bool) (ms : List Bool) (e : Marked ds ms t) where
    pub removed_low : low_of P u day (removed ms (records t)) ≡ remove_low ds (low_of P u day (records t))
    removed_low =
        ap (λ bs. low_of P u day (remove level bs (records t))) e
        ∙ low_remove level (key_in P u) (label_by P u) (grant_by P u) (in_window day) ds (records t) (table_nested t ok)

    pub renamed_low : (l : List ℕ) → length l ≤ label_max → policy_word P l ≡ false → AtDone (NoWord P) ms (records t)
        → low_of P u day (renamed l ms (records t)) ≡ rename_low l ds (low_of P u day (records t))
    renamed_low l short q free =
        let bs = marks level (key_in P u) (label_by P u) (grant_by P u) (in_window day) ds (records t) in
        ap (λ bs. low_of P u day (rename level (relabel l) bs (records t))) e
        ∙ low_rename level (key_in P u) (label_by P u) (grant_by P u) (in_window day) (relabel l) (carried_by l) ds (records t)
        (done_from_lem level (NoWord P) (Renames level (key_in P u) (label_by P u) (grant_by P u) (in_window day) (relabel l) (carried_by l)) (renames l short q) bs (records t)
        (subst (λ bs. AtDone (NoWord P) bs (records t)) e free))

    pub redated_low_lem : (f l : ℕ) → AtDone Whole ms (records t)
        → low_of P u day (redated f l ms (records t)) ≡ redate_low f l ds (low_of P u day (records t))
    redated_low_lem f l whole =
        let bs = marks level (key_in P u) (label_by P u) (grant_by P u) (in_window day) ds (records t) in
        ap (λ bs. low_of P u day (rename level (redate f l) bs (records t))) e
        ∙ low_redate level (key_in P u) (label_by P u) (grant_by P u) (in_window day) (redate f l) (leb f day && leb day l) ds (records t)
        (done_from_lem level Whole (Redates level (key_in P u) (label_by P u) (grant_by P u) (in_window day) (redate f l) (leb f day && leb day l)) (redates f l) bs (records t)
        (subst (λ bs. AtDone Whole bs (records t)) e whole))

    pub placed_low : (at : Place) (m : ℕ) (tree : List ℕ) → Nested level 0 (chunks m tree)
        → low_of P u day (placed at m tree ms (records t)) ≡ place_low at m tree ds (low_of P u day (records t))
    placed_low place.Append m tree w =
        ap (λ bs. low_of P u day (insert_behind level (λ r. raise (suc (level r)) (chunks m tree)) bs (records t))) e
        ∙ low_append level (key_in P u) (label_by P u) (grant_by P u) (in_window day) (λ l. raise l (chunks m tree)) (λ l. above-raise l l (chunks m tree) (omega arith))
        (λ l. front-raise l (chunks m tree) w) ds (records t) (table_nested t ok)
    placed_low place.After m tree w =
        ap (λ bs. low_of P u day (insert_behind level (λ r. raise (level r) (chunks m tree)) bs (records t))) e
        ∙ low_insert_after level (key_in P u) (label_by P u) (grant_by P u) (in_window day) (λ l. raise l (chunks m tree)) (λ l. above-raise l l (chunks m tree) (omega arith))
        (λ l. front-raise l (chunks m tree) w) ds (records t) (table_nested t ok)
    placed_low place.Before m tree w =
        ap (λ bs. low_of P u day (insert_in_front level (λ r. raise (level r) (chunks m tree)) bs (records t))) e
        ∙ low_insert_in_front level (key_in P u) (label_by P u) (grant_by P u) (in_window day) (λ l. raise l (chunks m tree)) (λ l. above-raise l l (chunks m tree) (omega arith))
        (λ l. front-raise l (chunks m tree) w) ds (records t) (table_nested t ok)
