-- Readers have demand 3's guarantee over a tree that was loaded (specs/Loading.antt). Assumes nothing.
use Prim.Native.Nat.{ℕ, ◌≤◌, ◌<◌}
use mathlib.Core.Path.{◌≡◌, refl, sym, ap, ap₂, subst, ◌∙◌}
use mathlib.Core.Bool.{Bool, true, cond}
use mathlib.Core.List.{List, map}
use native.Mathlib.Omega.{arith}
use borrow.Author.Tests.{le-leb}
use lib.ListN.{length}
use Rattle.rights.specs.Held.{node_bytes}
use Rattle.rights.specs.Marks.{keep}
use Rattle.rights.specs.Policy.{Policy}
use Rattle.rights.specs.PolicyBytes.{policy_of}
use Rattle.rights.specs.Rights.{rights_on}
use Rattle.rights.specs.Table.{records_from, records}
use Rattle.rights.specs.Tree.{Tree, tree, none, more, nodes_of}
use Rattle.rights.proofs.ListLaws.{by_case}
use Rattle.views.specs.Shown.{Stored, stored_from, shown, view}
use Rattle.xml.proofs.DocumentLaws.{one_tree, document_good}
use Rattle.lines.specs.Outcome.{Reply, says, refuses, refusal}
use Rattle.lines.specs.Refusal.{checked, wrong_stage, bad_store}
use Rattle.lines.specs.State.{stage_c, stage, day_in, policy_in, store_ok}
use Rattle.lines.proofs.TreeLineLaws.{no_records}
use Rattle.store.specs.Load.{loaded_stage}
use Rattle.store.specs.LoadXml.{load_xml}
use Rattle.store.proofs.LoadLaws.{lines_load}
use Rattle.store.proofs.LoadXmlLaws.{load_accepted, load_refused}
use Rattle.guarantee.specs.Alike.{SamePolicy, stored_for, shown_to, Behind}
use Rattle.guarantee.specs.Loading.{LoadsTree, tree_for, tree_shown_to, LoadedAlike, LoadedAnswers, LoadPasses, LoadInWork, LoadBetween, NoneKept, LoadGuarantee}
use Rattle.guarantee.proofs.SamePolicy.{same_rights_on}
use Rattle.lines.proofs.StateLaws.{policy_staged, day_staged}
use Rattle.guarantee.proofs.Accepted.{accepted_said}
use Rattle.guarantee.proofs.Demand3.{demand3}

-- 13, and a root that is there

load_passes : LoadPasses
unfolding load_xml checked
load_passes s t xml room = (kept (load_xml s t xml room).reply refl, λ e. rw e)
  where
    kept : (r : Reply) → (load_xml s t xml room).reply ≡ r → store_ok s t ≡ true → store_ok (load_xml s t xml room).state (load_xml s t xml room).table ≡ true
    kept (says b) q ok = let (u, h, z) = load_accepted s t xml room q in h.passes
    kept (refuses n) q ok = rw (load_refused s t xml room q) ok

load_in_work : LoadInWork
unfolding load_xml checked
load_in_work s t xml room h = by_case (store_ok s t) (λ e. rw (e, le-leb 2 (stage s) h)) (λ e. rw e)

load_between : LoadBetween
load_between n s t s' t' a xml xml' room room' = (
  turned s t xml room a.start.rooted a.start.passes,
  turned s' t' xml' room' a.start.rooted' a.start.passes',
)
  where
    turned : (s t xml : List ℕ) (room : ℕ) → stage_c ≤ stage s → store_ok s t ≡ true → load_xml s t xml room ≡ refusal wrong_stage s t
    turned s t xml room h ok = load_in_work s t xml room h ∙ ap (λ (b : Bool). refusal (cond b wrong_stage bad_store) s t) ok

-- What a call that takes a document in found and leaves

pub record Left (u : Tree) (s t s' t' : List ℕ) : Type 0 where
  pub passed : store_ok s t ≡ true
  pub early : stage s < stage_c
  pub passes : store_ok s' t' ≡ true
  pub rooted : stage_c ≤ stage s'
  pub policy : policy_in s' ≡ policy_in s
  pub day : day_in s' ≡ day_in s
  pub held : records t' ≡ map node_bytes (nodes_of 0 u)

rooted_by : (u : Tree) → stage_c ≤ loaded_stage u
rooted_by (tree l none) = omega arith
rooted_by (tree l (more v us)) = omega arith

pub left_by : (u : Tree) (s t s' t' : List ℕ) → LoadsTree u s t s' t' → Left u s t s' t'
left_by u s t s' t' c =
    let room = length c.lent in
    let m = c.promised in
    let (b, q) = accepted_said (load_xml s t c.xml room).reply c.said (sym m.answer) in
    let (v, h, z) = load_accepted s t c.xml room q in
    let (ok, early, x, es, et) = lines_load room s t v (document_good c.xml v h.document) _ _ h.lines in
    record {
      passed = ok;
      early = early;
      passes = rw (m.state, m.table) h.passes;
      rooted = rw (m.state ∙ es) (rooted_by v);
      policy = ap policy_in (m.state ∙ es) ∙ ap policy_of (policy_staged s (loaded_stage v));
      day = ap day_in (m.state ∙ es) ∙ day_staged s (loaded_stage v);
      held = ap records m.table ∙ h.held ∙ ap (λ (w : Tree). map node_bytes (nodes_of 0 w)) (one_tree c.xml v u h.document c.document);
    }

none_kept : NoneKept
unfolding records_from
none_kept u s t s' t' c = let x = left_by u s t s' t' c in ap (λ (k : ℕ). records_from t k 0) (no_records s t x.passed x.early)

-- The stored nodes are those of the tree, with the rights that the policy gives on them

stored_tree : (n : ℕ) (u : Tree) (s t s' t' : List ℕ) → Left u s t s' t' → stored_for n s' t' ≡ tree_for (day_in s) (policy_in s) n u
stored_tree n u s t s' t' x = λ i. stored_from (x.day i) 0 (x.held i) (rights_on (x.policy i) n (x.held i))

abbrev shown_of : List Stored → List Stored
shown_of xs = keep (shown xs) xs

loaded_alike : LoadedAlike
loaded_alike n u u' s t sₗ tₗ s' t' sₗ' tₗ' c c' p today a =
    let x = left_by u s t sₗ tₗ c in
    let x' = left_by u' s' t' sₗ' tₗ' c' in
    let r = same_rights_on (policy_in s) (policy_in s') p n (map node_bytes (nodes_of 0 u')) in
    let e = stored_tree n u s t sₗ tₗ x in
    let e' : stored_for n sₗ' tₗ' ≡ tree_for (day_in s) (policy_in s) n u' =
    stored_tree n u' s' t' sₗ' tₗ' x' ∙ sym (ap₂ (λ (d : ℕ) (ss : List ℕ). stored_from d 0 (map node_bytes (nodes_of 0 u')) ss) today r) in
    record {
      start = record {
        passes = x.passes;
        passes' = x'.passes;
        rooted = x.rooted;
        rooted' = x'.rooted;
        policy = subst (λ (P : Policy). SamePolicy P (policy_in sₗ')) (sym x.policy) (subst (SamePolicy (policy_in s)) (sym x'.policy) p);
        day = x.day ∙ today ∙ sym x'.day;
      };
      looks = ap view e ∙ a.looks ∙ sym (ap view e');
      behind =
          subst (λ (P : Policy). Behind P (shown_to n sₗ tₗ) (shown_to n sₗ' tₗ')) (sym x.policy)
          (subst (λ (xs : List Stored). Behind (policy_in s) (shown_of xs) (shown_to n sₗ' tₗ')) (sym e)
          (subst (λ (xs : List Stored). Behind (policy_in s) (tree_shown_to (day_in s) (policy_in s) n u) (shown_of xs)) (sym e') a.behind));
    }

loaded_answers : LoadedAnswers
loaded_answers n u u' s t sₗ tₗ s' t' sₗ' tₗ' c c' p today a cs ds r r' l b =
    demand3.answers_alike n sₗ tₗ sₗ' tₗ' (loaded_alike n u u' s t sₗ tₗ s' t' sₗ' tₗ' c c' p today a) cs ds r r' l b

pub load_guarantee : LoadGuarantee
load_guarantee = record {
  passes = load_passes;
  alike = loaded_alike;
  answers = loaded_answers;
  in_work = load_in_work;
  between = load_between;
  none_kept = none_kept;
}
