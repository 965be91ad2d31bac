-- Loading the solver's file: refused with a number exactly if the number's condition holds and that of none before it does, accepted exactly if none holds;
-- accepted, it leaves what the lines that match the document's tree would leave. Assumes nothing.
use Prim.Native.Nat.{ℕ, ◌≤◌, ◌<◌}
use mathlib.Core.Path.{◌≡◌, refl, sym, ap, ◌∙◌}
use mathlib.Core.Bool.{Bool, true, false, not}
use mathlib.Core.List.{List, [], ◌∷◌, map}
use mathlib.Core.Logic.{inl, inr, ⊎_elim, ◌↔◌}
use native.Mathlib.Omega.{arith}
use borrow.Author.Tests.{leb-true, leb-false, le-leb, lt-leb, ltb-false, le-ltb, not-true, not-false}
use lib.Dec.{leb, ltb}
use lib.ListN.{length}
use Rattle.rights.specs.Held.{node_bytes, table_bytes, stored_nodes}
use Rattle.rights.specs.Labels.{same_label, restricted}
use Rattle.rights.specs.Nodes.{level_of, label_of}
use Rattle.rights.specs.Policy.{some}
use Rattle.rights.specs.Table.{capacity, records}
use Rattle.rights.specs.Tree.{Tree, tree, none, more, nodes_of, nodes_in, size_of}
use Rattle.rights.proofs.ListLaws.{by_case}
use Rattle.answers.specs.Answer.{ok_text}
use Rattle.xml.specs.Document.{DocumentOf}
use Rattle.xml.specs.How.Tokens.{is_document, document_nodes}
use Rattle.xml.proofs.DocumentComplete.{document_read}
use Rattle.xml.proofs.DocumentSound.{read_document}
use Rattle.xml.proofs.DocumentLaws.{document_good}
use Rattle.lines.specs.Conditions.{Some, TreeRestricted, DeepAt, Holds, First}
use Rattle.lines.specs.Outcome.{Outcome, says, refuses, refusal}
use Rattle.lines.specs.Refusal.{Passed, rising, index_in}
use Rattle.lines.specs.State.{stage_c, stage, with_stage, store_ok}
use Rattle.lines.proofs.CheckLaws.{answered-passed, refused-is}
use Rattle.lines.proofs.ConditionLaws.{Tells, clash, first_exactly, none_exactly}
use Rattle.lines.proofs.NameRows.{less_told}
use Rattle.lines.proofs.RefusalLaws.{checked-passed}
use Rattle.store.specs.Load.{LinesLeave, matching_lines, loaded_stage, loaded_state, loaded_table, Loadable}
use Rattle.store.specs.LoadXml.{DocumentWith, load_refusals, load_checks, nodes_stage, load_xml}
use Rattle.store.proofs.LoadLaws.{load_lines, load_kept, lines_load}
use Rattle.store.proofs.RefusalsLaws.{Lent, store_told}

-- some element passes a test
some-told : {A : Type 0} (P : A → Type 0) (f : A → Bool) → ((x : A) → P x ↔ (f x ≡ true)) → (xs : List A) → Some P xs ↔ (some f xs ≡ true)
unfolding some
some-told P f h [] = (λ x. absurd x, λ e. clash {b = false} e refl)
some-told P f h (x ∷ xs) =
    let ih = some-told P f h xs in (
      ⊎_elim (λ p. rw ((h x).0 p)) (λ q. by_case (f x) (λ e. rw e) (λ e. rw (e, ih.0 q))),
      λ e. by_case (f x) (λ b. inl ((h x).1 b)) (λ b. inr (ih.1 (rw b at e))),
    )

same-told : {b : Bool} → (b ≡ true) ↔ (b ≡ true)
same-told = (λ e. e, λ e. e)

-- 3

root_told : (s : List ℕ) → (stage_c ≤ stage s) ↔ (leb stage_c (stage s) ≡ true)
root_told s = (le-leb 2 (stage s), leb-true 2 (stage s))

-- 14

document_told : (xml : List ℕ) → ((u : Tree) → DocumentOf xml u → ⊥) ↔ (not (is_document xml) ≡ true)
document_told xml = (
  λ h. by_case (is_document xml) (λ e. let r = read_document xml e in absurd (h r.0 r.1)) (λ e. rw e),
  λ e u d. clash (document_read xml u d).0 (not-true (is_document xml) e),
)

-- what holds of the document's tree is told by its nodes
with_told : (xml : List ℕ) (P : Tree → Type 0) {b : Bool} → ((u : Tree) → document_nodes xml ≡ nodes_of 0 u → P u ↔ (b ≡ true)) → is_document xml ≡ true
    → DocumentWith xml P ↔ (b ≡ true)
with_told xml P h e = (
  λ (u, d, p). (h u (document_read xml u d).1).0 p,
  λ q. let r = read_document xml e in (r.0, r.1, (h r.0 r.2).1 q),
)

-- 9 and 10 of the nodes of a tree

labels_told : (u : Tree) → TreeRestricted u ↔ (some (λ n. same_label (label_of n) restricted) (nodes_of 0 u) ≡ true)
labels_told u = some-told _ _ (λ n. same-told) (nodes_of 0 u)

levels-told : (u : Tree) → DeepAt 0 u ↔ (some (λ n. ltb 11 (level_of n)) (nodes_of 0 u) ≡ true)
levels-told u = some-told _ _ (λ n. less_told 11 (level_of n)) (nodes_of 0 u)

-- C if the root is the only node, else D
stage-told : (u : Tree) → nodes_stage (size_of u) ≡ loaded_stage u
unfolding nodes_of nodes_in
stage-told (tree l none) = refl
stage-told (tree l (more u us)) = let n = size_of (tree l (more u us)) in rw (lt-leb n 1 (more-nodes u))
  where
    more-nodes : (v : Tree) → 1 < size_of (tree l (more v us))
    more-nodes (tree m vs) = omega arith

module _ (s t xml : List ℕ) (room : ℕ) where
  -- what the call gives where nothing turns it away
  abbrev answer : Outcome
  answer = record {
    reply = says ok_text;
    state = with_stage (nodes_stage (length (document_nodes xml))) s;
    table = table_bytes (length t) (map node_bytes (document_nodes xml));
  }

  -- the same by the tree
  answer_is : (u : Tree) → DocumentOf xml u → answer ≡ record { reply = says ok_text; state = loaded_state u s; table = loaded_table u t }
  answer_is u d = rw ((document_read xml u d).1, stage-told u)

  taken : {text : List ℕ} → (load_xml s t xml room).reply ≡ says text → Passed (load_checks s t xml room)
  unfolding load_xml
  taken e = answered-passed (load_checks s t xml room) s t answer e

  -- nothing turns the tree of an accepted document away
  taken_loadable : Passed (load_checks s t xml room) → (u : Tree) → document_nodes xml ≡ nodes_of 0 u → Loadable room t u
  taken_loadable p u q = record {
    labels = λ h. clash ((labels_told u).0 h) (rw q at p.1.1.1.0);
    levels = λ h. clash ((levels-told u).0 h) (rw q at p.1.1.1.1.0);
    size = ltb-false (capacity (length t)) (size_of u) (rw q at p.1.1.1.1.1.0);
    area = ltb-false room (length ok_text) p.1.1.1.1.1.1.0;
  }

  -- An accepted document's tree: the matching lines would leave what the call leaves, which passes 13 and holds the tree.
  pub record Loads (u : Tree) (o : Outcome) : Type 0 where
    pub document : DocumentOf xml u
    pub lines : LinesLeave room (matching_lines u) s t o.state o.table
    pub passes : store_ok o.state o.table ≡ true
    pub nodes : stored_nodes o.table ≡ nodes_of 0 u
    pub held : records o.table ≡ map node_bytes (nodes_of 0 u)

  pub load_accepted : {text : List ℕ} → (load_xml s t xml room).reply ≡ says text → (u : Tree) × Loads u (load_xml s t xml room) × (text ≡ ok_text)
  unfolding load_xml
  load_accepted {text} e =
      let p = taken e in
      let (u, d, q) = read_document xml (not-false (is_document xml) p.1.1.0) in
      let ok = not-false (store_ok s t) p.0 in
      let early = leb-false 2 (stage s) p.1.0 in
      let good = document_good xml u d in
      let h = taken_loadable p u q in
      let o = checked-passed (load_checks s t xml room) s t answer p in
      let k = load_kept room s t u good ok early h in (
        u,
        rw (o ∙ answer_is u d)
            (record { document = d; lines = load_lines room s t u good ok early h; passes = k.0; nodes = k.1; held = k.2 }),
        (let z : says ok_text ≡ says text = sym (ap (λ (x : Outcome). x.reply) o) ∙ e in cc),
      )

  -- The other way: a document whose matching lines would all be answered `(ok)` is accepted, and leaves what they leave.
  pub lines_accepted : (u : Tree) → DocumentOf xml u → (s' t' : List ℕ) → LinesLeave room (matching_lines u) s t s' t'
      → load_xml s t xml room ≡ record { reply = says ok_text; state = s'; table = t' }
  unfolding load_xml
  lines_accepted u d s' t' x =
      let (ok, early, h, es, et) = lines_load room s t u (document_good xml u d) s' t' x in
      let r = document_read xml u d in
      let p : Passed (load_checks s t xml room) = (
        rw ok,
        (
          lt-leb 2 (stage s) early,
          (
            rw r.0,
            (
              rw r.1 (by_case (some (λ n. same_label (label_of n) restricted) (nodes_of 0 u)) (λ e. absurd (h.labels ((labels_told u).1 e))) (λ e. e)),
              (
                rw r.1 (by_case (some (λ n. ltb 11 (level_of n)) (nodes_of 0 u)) (λ e. absurd (h.levels ((levels-told u).1 e))) (λ e. e)),
                (
                  rw r.1 (le-ltb (capacity (length t)) (size_of u) h.size),
                  (le-ltb room (length ok_text) h.area, tt),
                ),
              ),
            ),
          ),
        ),
      ) in
      checked-passed (load_checks s t xml room) s t answer p ∙ answer_is u d ∙ rw (es, et)

  -- So the bytes are accepted exactly if they are a document whose matching lines would all be.
  pub load_as_lines : ((text : List ℕ) × ((load_xml s t xml room).reply ≡ says text))
      ↔ ((u : Tree) × DocumentOf xml u × ((s' : List ℕ) × (t' : List ℕ) × LinesLeave room (matching_lines u) s t s' t'))
  load_as_lines = (
    λ (text, e). let (u, h, z) = load_accepted e in (u, h.document, (_, _, h.lines)),
    λ (u, d, (s', t', x)). (ok_text, ap (λ (o : Outcome). o.reply) (lines_accepted u d s' t' x)),
  )

  -- "The number is returned; state, tables and answer area keep their bytes."
  pub load_refused : {n : ℕ} → (load_xml s t xml room).reply ≡ refuses n → load_xml s t xml room ≡ refusal n s t
  unfolding load_xml
  load_refused e = refused-is (load_checks s t xml room) s t answer refl e

module _ (s t : List ℕ) (lent : Lent s t) (xml : List ℕ) (room : ℕ) where
  tells : Tells (load_refusals s t xml room) (load_checks s t xml room)
  tells = (
    store_told s t lent,
    λ _. (
      root_told s,
      λ _. (
        document_told xml,
        λ a.
            let e = not-false (is_document xml) a in (
              with_told xml TreeRestricted (λ u q. rw q (labels_told u)) e,
              λ _. (
                with_told xml (DeepAt 0) (λ u q. rw q (levels-told u)) e,
                λ _. (
                  with_told xml (λ u. capacity (length t) < size_of u) (λ u q. rw q (less_told (capacity (length t)) (size_of u))) e,
                  λ _. (less_told room (length ok_text), λ _. tt),
                ),
              ),
            ),
      ),
    ),
  )

  -- Refused with n exactly if n's condition holds and that of no number before it does
  pub load_refused_exactly : (n : ℕ) → ((load_xml s t xml room).reply ≡ refuses n) ↔ First n (load_refusals s t xml room)
  unfolding load_xml rising index_in
  load_refused_exactly n = first_exactly s t (answer s t xml room) refl (load_refusals s t xml room) (load_checks s t xml room) n refl tells refl

  -- Accepted exactly if no condition holds
  pub load_accepted_exactly : ((text : List ℕ) × ((load_xml s t xml room).reply ≡ says text)) ↔ ((n : ℕ) → Holds n (load_refusals s t xml room) → ⊥)
  unfolding load_xml
  load_accepted_exactly = none_exactly s t (answer s t xml room) refl (load_refusals s t xml room) (load_checks s t xml room) tells
