-- Which node is which: every node but those that a removal takes stays the same node, in order; inserted nodes are new; and the nodes that are followed are those of
-- the table. Assumes nothing.
use Prim.Native.Nat.{ℕ, zero, suc, ◌+◌, ◌≤◌, ◌<◌}
use mathlib.Core.Logic.{◌⊎◌, inl, inr}
use mathlib.Core.Bool.{Bool}
use mathlib.Core.Path.{◌≡◌, refl, sym, ap, ap₂, ◌∙◌}
use mathlib.Core.List.Sublistᴰ
use mathlib.Core.List.{List, [], ◌∷◌, ◌++◌, map, Sublistᴰ}
use mathlib.Core.Option.{Option, none, some}
use native.Mathlib.Omega.{arith}
use Rattle.rights.specs.Table.{records, level}
use Rattle.views.specs.Change.{chunks, raise, relabel, redate, rename, insert_marked}
use Rattle.views.specs.Nodes.{tags, All}
use Rattle.views.specs.declared.done.Change.TheVariants as change
use Rattle.views.specs.declared.insert.Place.{Place}
use Rattle.views.specs.declared.insert.Place.TheVariants as place
use Rattle.views.proofs.KeptLaws.{tags-remove, tags-insert_behind, tags-insert_in_front, tags-rename}
use Rattle.views.proofs.MapLaws.{map-remove, map-insert_behind, map-insert_in_front, map-rename}
use Rattle.views.proofs.NodeLaws.{remove-only}
use Rattle.forms.specs.declared.layout.Word.TheVariants as word
use Rattle.forms.specs.Form.{ReadForm, read_form}
use Rattle.forms.specs.Command.{command, form_of}
use Rattle.lines.specs.Effect.{Effect, policy, root, insertion, renaming, removal, redating, login, dating, reading, nodes_after, records_after}
use Rattle.lines.specs.Outcome.{Reply, says, refuses}
use Rattle.lines.specs.UserView.{done_in}
use Rattle.lines.specs.Clause.{work_of}
use Rattle.lines.specs.State.{stage_c, stage}
use Rattle.guarantee.specs.Alike.{Input, outcome}
use Rattle.guarantee.specs.Identity.{Tagged, tagged_level, new, after_effect, after_reply, effect_of, follow, follow_all, state_after_all, table_after_all, tag_all, tag_at, known, known_of}
use Rattle.guarantee.specs.Identity.{Follows, NodesKept, NodesRemoved, InsertedNew, NoneBack, OrderKept}
use Rattle.lines.proofs.StateLaws.{store_held}
use Rattle.rights.specs.Record.{node_record}
use Rattle.lines.proofs.CheckLaws.{Refused}
use Rattle.guarantee.proofs.Sound.{EffectSound}
use Rattle.guarantee.proofs.Accepted.{Accepted, line_cases}
use Rattle.guarantee.proofs.TableAfter.{table_after_lem}

-- A function of nodes that keeps levels, and goes with what makes nodes and with every change of their records, goes with every effect.
module _ {E N : Type 0} (lev : E → ℕ) (lev' : N → ℕ) (f : E → N) (same : (x : E) → lev' (f x) ≡ lev x) where
  map_insert : (at : Place) (tree : ℕ → List E) (tree' : ℕ → List N) → ((l : ℕ) → map f (tree l) ≡ tree' l) → (ms : List Bool) (ns : List E)
      → map f (insert_marked lev at tree ms ns) ≡ insert_marked lev' at tree' ms (map f ns)
  map_insert place.Append tree tree' e ms ns =
      map-insert_behind lev lev' f same (λ x. tree (suc (lev x))) (λ y. tree' (suc (lev' y))) (λ x. rw (same x) (e (suc (lev x)))) ms ns
  map_insert place.After tree tree' e ms ns =
      map-insert_behind lev lev' f same (λ x. tree (lev x)) (λ y. tree' (lev' y)) (λ x. rw (same x) (e (lev x))) ms ns
  map_insert place.Before tree tree' e ms ns =
      map-insert_in_front lev lev' f same (λ x. tree (lev x)) (λ y. tree' (lev' y)) (λ x. rw (same x) (e (lev x))) ms ns

  module _ (new : List (List ℕ) → List E) (new' : List (List ℕ) → List N) (brought : (rs : List (List ℕ)) → map f (new rs) ≡ new' rs)
      (on : (List ℕ → List ℕ) → E → E) (on' : (List ℕ → List ℕ) → N → N) (goes : (g : List ℕ → List ℕ) (x : E) → f (on g x) ≡ on' g (f x)) where
    map-after : (e : Effect) (ns : List E) → map f (nodes_after lev new on e ns) ≡ nodes_after lev' new' on' e (map f ns)
    map-after (policy p g) ns = refl
    map-after (root l) ns = brought (node_record 0 l ∷ [])
    map-after (insertion at ms m tree g) ns =
        map_insert at (λ l. new (raise l (chunks m tree))) (λ l. new' (raise l (chunks m tree))) (λ l. brought (raise l (chunks m tree))) ms ns
    map-after (renaming l ms) ns = map-rename lev lev' f same (on (relabel l)) (on' (relabel l)) (goes (relabel l)) ms ns
    map-after (removal ms) ns = map-remove lev lev' f same ms ns
    map-after (redating d l ms) ns = map-rename lev lev' f same (on (redate d l)) (on' (redate d l)) (goes (redate d l)) ms ns
    map-after (login u) ns = refl
    map-after (dating d) ns = refl
    map-after reading ns = refl

-- The records of the nodes that are followed are the table's

abbrev recorded : (List ℕ → List ℕ) → Tagged → Tagged
recorded g n = (g n.0, n.1)

records-new : (rs : List (List ℕ)) → map (λ n. n.0) (new rs) ≡ rs
records-new [] = refl
records-new (r ∷ rs) = ap (λ l. r ∷ l) (records-new rs)

records-after : (e : Effect) (ns : List Tagged) → map (λ n. n.0) (after_effect e ns) ≡ records_after e (map (λ n. n.0) ns)
records-after e ns = map-after tagged_level level (λ n. n.0) (λ n. refl) new (λ rs. rs) records-new recorded (λ g. g) (λ g n. refl) e ns

-- one line
module _ (s t : List ℕ) (i : Input) (ns : List Tagged) (e : map (λ n. n.0) ns ≡ records t) where
  pub follows_line : map (λ n. n.0) (follow s t i ns) ≡ records (outcome s t i).table
  unfolding follow
  follows_line = go (line_cases s t i.line i.room)
    where
      go : Refused s t (outcome s t i) ⊎ Accepted s t i.line i.room
          → map (λ n. n.0) (after_reply (outcome s t i).reply (effect_of s t i.line) ns) ≡ records (outcome s t i).table
      go (inl x) = rw x.is e
      go (inr x) =
          rw x.is
          (records-after (effect_of s t i.line) ns ∙ ap (records_after (effect_of s t i.line)) e
          ∙ sym (table_after_lem (read_form i.line) s t (store_held s t x.passes).table (effect_of s t i.line) x.sound).held)

-- any lines
pub follows : Follows
unfolding follow_all table_after_all
follows s t [] ns e = e
follows s t (i ∷ is) ns e =
    follows (outcome s t i).state (outcome s t i).table is (follow s t i ns) (follows_line s t i ns e)

-- The tags

abbrev tag_of : Tagged → Option ℕ
tag_of n = n.1

-- what a node carries that is nothing for a new one stays through an insertion
none-new : {X : Type 0} (h : Tagged → Option X) → ((r : List ℕ) → h (r, none) ≡ none) → (rs : List (List ℕ)) → tags h (new rs) ≡ []
unfolding tags
none-new h e [] = refl
none-new h e (r ∷ rs) = rw (e r) (none-new h e rs)

tags_insert : {X : Type 0} (h : Tagged → Option X) → ((r : List ℕ) → h (r, none) ≡ none)
    → (at : Place) (m : ℕ) (tree : List ℕ) (ms : List Bool) (g : ℕ) (ns : List Tagged) → tags h (after_effect (insertion at ms m tree g) ns) ≡ tags h ns
tags_insert h e place.Append m tree ms g ns =
    tags-insert_behind tagged_level h (λ n. new (raise (suc (tagged_level n)) (chunks m tree))) (λ n. none-new h e (raise (suc (tagged_level n)) (chunks m tree))) ms ns
tags_insert h e place.After m tree ms g ns =
    tags-insert_behind tagged_level h (λ n. new (raise (tagged_level n) (chunks m tree))) (λ n. none-new h e (raise (tagged_level n) (chunks m tree))) ms ns
tags_insert h e place.Before m tree ms g ns =
    tags-insert_in_front tagged_level h (λ n. new (raise (tagged_level n) (chunks m tree))) (λ n. none-new h e (raise (tagged_level n) (chunks m tree))) ms ns

-- a node with another record is the same node
tags-recorded : (g : List ℕ → List ℕ) (ms : List Bool) (ns : List Tagged) → tags tag_of (rename tagged_level (recorded g) ms ns) ≡ tags tag_of ns
tags-recorded g ms ns = tags-rename tagged_level tag_of (recorded g) (λ n. refl) ms ns

same : {a b : List ℕ} → a ≡ b → Sublistᴰ a b
same {b = b} e = rw e (Sublistᴰ.refl b)

tags_effect : (e : Effect) (ns : List Tagged) → Sublistᴰ (tags tag_of (after_effect e ns)) (tags tag_of ns)
tags_effect (policy p g) ns = Sublistᴰ.refl _
tags_effect (root l) ns = rw (none-new tag_of (λ r. refl) (node_record 0 l ∷ [])) (Sublistᴰ.nil-sublist _)
tags_effect (insertion at ms m tree g) ns = same (tags_insert tag_of (λ r. refl) at m tree ms g ns)
tags_effect (renaming l ms) ns = same (tags-recorded (relabel l) ms ns)
tags_effect (removal ms) ns = tags-remove tagged_level tag_of ms ns
tags_effect (redating f l ms) ns = same (tags-recorded (redate f l) ms ns)
tags_effect (login u) ns = Sublistᴰ.refl _
tags_effect (dating d) ns = Sublistᴰ.refl _
tags_effect reading ns = Sublistᴰ.refl _

tags_reply : (r : Reply) (e : Effect) (ns : List Tagged) → Sublistᴰ (tags tag_of (after_reply r e ns)) (tags tag_of ns)
tags_reply (says b) e ns = tags_effect e ns
tags_reply (refuses n) e ns = Sublistᴰ.refl _

tags-follow : (s t : List ℕ) (i : Input) (ns : List Tagged) → Sublistᴰ (tags tag_of (follow s t i ns)) (tags tag_of ns)
unfolding follow
tags-follow s t i ns = tags_reply (outcome s t i).reply (effect_of s t i.line) ns

-- after any lines, whatever the store: the kept nodes are some of those at first, in order
tags-kept : (s t : List ℕ) (is : List Input) (ns : List Tagged) → Sublistᴰ (tags tag_of (follow_all s t is ns)) (tags tag_of ns)
unfolding follow_all
tags-kept s t [] ns = Sublistᴰ.refl _
tags-kept s t (i ∷ is) ns =
    Sublistᴰ.trans (tags-kept (outcome s t i).state (outcome s t i).table is (follow s t i ns)) (tags-follow s t i ns)

-- "A change keeps every node that it does not remove"
tags-same : (f : ReadForm) (s t : List ℕ) → stage_c ≤ stage s → ((p : List ℕ) → f ≡ form_of (command word.Remove (p, tt)) → ⊥) → (e : Effect) → EffectSound f s t e → (ns : List Tagged)
    → tags tag_of (after_effect e ns) ≡ tags tag_of ns
tags-same f s t h k (policy p g) x ns = refl
tags-same f s t h k (root l) x ns = absurd (omega (arith, x.early))
tags-same f s t h k (insertion at ms m tree g) x ns = tags_insert tag_of (λ r. refl) at m tree ms g ns
tags-same f s t h k (renaming l ms) x ns = tags-recorded (relabel l) ms ns
tags-same f s t h k (removal ms) x ns = absurd (k x.path x.form)
tags-same f s t h k (redating d l ms) x ns = tags-recorded (redate d l) ms ns
tags-same f s t h k (login u) x ns = refl
tags-same f s t h k (dating d) x ns = refl
tags-same f s t h k reading x ns = refl

pub nodes_kept : NodesKept
unfolding follow
nodes_kept s t h i ns k = go (line_cases s t i.line i.room)
  where
    go : Refused s t (outcome s t i) ⊎ Accepted s t i.line i.room
        → tags tag_of (after_reply (outcome s t i).reply (effect_of s t i.line) ns) ≡ tags tag_of ns
    go (inl x) = rw x.is
    go (inr x) = rw x.is (tags-same (read_form i.line) s t h k (effect_of s t i.line) x.sound ns)

pub nodes_removed : NodesRemoved
unfolding follow
nodes_removed s t i ns p text e q =
    rw q
    (ap (λ (f : ReadForm). after_effect (work_of f s t).effect ns) e
    ∙ remove-only tagged_level (done_in change.Remove s t p) ns)

-- "Inserted nodes are new"

known-all : (i : ℕ) (rs : List (List ℕ)) → known_of (tag_all i rs) ≡ tag_all i rs
unfolding tags
known-all i [] = refl
known-all i (r ∷ rs) = ap (λ ns. (r, some i) ∷ ns) (known-all (suc i) rs)

pub inserted_new : InsertedNew
unfolding follow
inserted_new s t i at ms m tree g e = go (outcome s t i).reply ∙ known-all 0 (records t)
  where
    go : (r : Reply) → known_of (after_reply r (effect_of s t i.line) (tag_all 0 (records t))) ≡ known_of (tag_all 0 (records t))
    go (says b) =
        ap (λ (x : Effect). known_of (after_effect x (tag_all 0 (records t)))) e ∙ tags_insert known (λ r. refl) at m tree ms g (tag_all 0 (records t))
    go (refuses n) = refl

-- Other tags: a change goes by levels and records alone

abbrev through : (ℕ → Option ℕ) → Option ℕ → Option ℕ
through f none = none
through f (some i) = f i

abbrev retag : (ℕ → Option ℕ) → Tagged → Tagged
retag f n = (n.0, through f n.1)

module _ (f : ℕ → Option ℕ) where
  retag-new : (rs : List (List ℕ)) → map (retag f) (new rs) ≡ new rs
  retag-new [] = refl
  retag-new (r ∷ rs) = ap (λ ns. (r, none) ∷ ns) (retag-new rs)

  retag-follow : (s t : List ℕ) (i : Input) (ns : List Tagged) → map (retag f) (follow s t i ns) ≡ follow s t i (map (retag f) ns)
  unfolding follow
  retag-follow s t i ns = go (outcome s t i).reply
    where
      go : (r : Reply) → map (retag f) (after_reply r (effect_of s t i.line) ns) ≡ after_reply r (effect_of s t i.line) (map (retag f) ns)
      go (says b) =
          map-after tagged_level tagged_level (retag f) (λ n. refl) new new retag-new recorded recorded (λ g n. refl) (effect_of s t i.line) ns
      go (refuses n) = refl

  retag-all : (s t : List ℕ) (is : List Input) (ns : List Tagged)
      → map (retag f) (follow_all s t is ns) ≡ follow_all s t is (map (retag f) ns)
  unfolding follow_all
  retag-all s t [] ns = refl
  retag-all s t (i ∷ is) ns =
      retag-all (outcome s t i).state (outcome s t i).table is (follow s t i ns)
      ∙ ap (follow_all (outcome s t i).state (outcome s t i).table is) (retag-follow s t i ns)

  -- nodes are their records with other tags
  retagged : (j : ℕ) (ns : List Tagged) → ((k : ℕ) → f (j + k) ≡ tag_at ns k) → map (retag f) (tag_all j (map (λ n. n.0) ns)) ≡ ns
  retagged j [] h = refl
  retagged j ((r, o) ∷ ns) h =
      let z : j + 0 ≡ j = omega arith in
      let e : f j ≡ o = rw z at (h 0) in
      ap₂ (λ x l. (r, x) ∷ l) e (retagged (suc j) ns (λ k. let y : j + suc k ≡ suc j + k = omega arith in rw y at (h (suc k))))

  tag_through : (ns : List Tagged) (k i : ℕ) → tag_at (map (retag f) ns) k ≡ some i → (j : ℕ) × (f j ≡ some i) × (tag_at ns k ≡ some j)
  tag_through [] k i e = absurd (let z : ◌≡◌ {A = ℕ} 0 1 = cc in omega arith)
  tag_through ((r, none) ∷ ns) zero i e = absurd (let z : ◌≡◌ {A = ℕ} 0 1 = cc in omega arith)
  tag_through ((r, some j) ∷ ns) zero i e = (j, e, refl)
  tag_through (n ∷ ns) (suc k) i e = tag_through ns k i e

follow-append : (s t : List ℕ) (is js : List Input) (ns : List Tagged)
    → follow_all s t (is ++ js) ns ≡ follow_all (state_after_all s t is) (table_after_all s t is) js (follow_all s t is ns)
unfolding follow_all state_after_all table_after_all
follow-append s t [] js ns = refl
follow-append s t (i ∷ is) js ns = follow-append (outcome s t i).state (outcome s t i).table is js (follow s t i ns)

pub records-numbered : (i : ℕ) (rs : List (List ℕ)) → map (λ n. n.0) (tag_all i rs) ≡ rs
records-numbered i [] = refl
records-numbered i (r ∷ rs) = ap (λ l. r ∷ l) (records-numbered (suc i) rs)

-- "A removed node never comes back"
pub none_back : NoneBack
none_back s t before between k i w =
    let s1 : List ℕ = state_after_all s t before in
    let t1 : List ℕ = table_after_all s t before in
    let mid : List Tagged = follow_all s t before (tag_all 0 (records t)) in
    let h : map (λ n. n.0) mid ≡ records t1 = follows s t before (tag_all 0 (records t)) (records-numbered 0 (records t)) in
    let z : (j : ℕ) → tag_at mid (0 + j) ≡ tag_at mid j = λ j. let y : 0 + j ≡ j = omega arith in rw y in
    let e : map (retag (tag_at mid)) (tag_all 0 (records t1)) ≡ mid = ap (λ rs. map (retag (tag_at mid)) (tag_all 0 rs)) (sym h) ∙ retagged (tag_at mid) 0 mid z in
    let q : map (retag (tag_at mid)) (follow_all s1 t1 between (tag_all 0 (records t1))) ≡ follow_all s t (before ++ between) (tag_all 0 (records t)) =
    retag-all (tag_at mid) s1 t1 between (tag_all 0 (records t1)) ∙ ap (follow_all s1 t1 between) e
    ∙ sym (follow-append s t before between (tag_all 0 (records t))) in
    tag_through (tag_at mid) (follow_all s1 t1 between (tag_all 0 (records t1))) k i (ap (λ ns. tag_at ns k) q ∙ w)

-- Numbers as tags

-- each number is below those behind it
abbrev Rises : List ℕ → Type 0
Rises [] = Unit {0}
Rises (x ∷ xs) = All (λ y. x < y) xs × Rises xs

pub all_part : {A : Type 0} (Q : A → Type 0) {a b : List A} → Sublistᴰ a b → All Q b → All Q a
all_part Q Sublistᴰ.slnil k = tt
all_part Q (Sublistᴰ.cons d) k = all_part Q d k.1
all_part Q (Sublistᴰ.cons-cons e d) k = (rw e k.0, all_part Q d k.1)

rises_part : {a b : List ℕ} → Sublistᴰ a b → Rises b → Rises a
rises_part Sublistᴰ.slnil k = tt
rises_part (Sublistᴰ.cons d) k = rises_part d k.1
rises_part (Sublistᴰ.cons-cons e d) k = (rw e (all_part (λ y. _ < y) d k.0), rises_part d k.1)

over : (h i : ℕ) (rs : List (List ℕ)) → h < i → All (λ y. h < y) (tags tag_of (tag_all i rs))
unfolding tags
over h i [] k = tt
over h i (r ∷ rs) k = (k, over h (suc i) rs (omega arith))

numbers_rise : (i : ℕ) (rs : List (List ℕ)) → Rises (tags tag_of (tag_all i rs))
unfolding tags
numbers_rise i [] = tt
numbers_rise i (r ∷ rs) = (over i (suc i) rs (omega arith), numbers_rise (suc i) rs)

-- a tag that stands in a list is one of its tags
all_tag : (Q : ℕ → Type 0) (ns : List Tagged) (k i : ℕ) → All Q (tags tag_of ns) → tag_at ns k ≡ some i → Q i
unfolding tags
all_tag Q [] k i a e = absurd (let z : ◌≡◌ {A = ℕ} 0 1 = cc in omega arith)
all_tag Q ((r, none) ∷ ns) zero i a e = absurd (let z : ◌≡◌ {A = ℕ} 0 1 = cc in omega arith)
all_tag Q ((r, some j) ∷ ns) zero i a e = let z : j ≡ i = cc in rw (← z) a.0
all_tag Q ((r, none) ∷ ns) (suc k) i a e = all_tag Q ns k i a e
all_tag Q ((r, some j) ∷ ns) (suc k) i a e = all_tag Q ns k i a.1 e

tags_rise : (ns : List Tagged) (k k' i i' : ℕ) → Rises (tags tag_of ns) → tag_at ns k ≡ some i → tag_at ns k' ≡ some i' → k < k' → i < i'
unfolding tags
tags_rise [] k k' i i' a e f h = absurd (let z : ◌≡◌ {A = ℕ} 0 1 = cc in omega arith)
tags_rise (n ∷ ns) k zero i i' a e f h = absurd (omega arith)
tags_rise ((r, none) ∷ ns) zero (suc k') i i' a e f h = absurd (let z : ◌≡◌ {A = ℕ} 0 1 = cc in omega arith)
tags_rise ((r, some j) ∷ ns) zero (suc k') i i' a e f h = let z : j ≡ i = cc in rw (← z) (all_tag (λ y. j < y) ns k' i' a.0 f)
tags_rise ((r, none) ∷ ns) (suc k) (suc k') i i' a e f h = tags_rise ns k k' i i' a e f (omega arith)
tags_rise ((r, some j) ∷ ns) (suc k) (suc k') i i' a e f h = tags_rise ns k k' i i' a.1 e f (omega arith)

pub order-kept : OrderKept
order-kept s t is k k' i i' e f h =
    tags_rise (follow_all s t is (tag_all 0 (records t))) k k' i i'
    (rises_part (tags-kept s t is (tag_all 0 (records t))) (numbers_rise 0 (records t))) e f h
