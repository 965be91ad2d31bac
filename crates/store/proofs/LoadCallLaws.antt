-- The call that loads the solver's file, step by step: what each step asks for, and what is returned and left where it turns the call away. Assumes nothing.
use Rattle.std.specs.Prelude.{Result, Ok, Err, IsErrAnd}
use Prim.Native.Nat.{ℕ, max, ◌+◌, ◌*◌, ◌<◌}
use mathlib.Core.Path.{◌≡◌, refl, sym, ap, ◌∙◌}
use mathlib.Core.Bool.{true, false, ◌||◌}
use mathlib.Core.List.{List, [], ◌∷◌, ◌++◌, map}
use native.Mathlib.Omega.{arith}
use borrow.Author.Tests.{leb-false, lt-leb, lt-ltb, le-ltb, ltb-true, ltb-false, not-false}
use lib.Dec.{ltb}
use lib.ListN.{length}
use Rattle.rights.specs.Held.{node_bytes, table_bytes}
use Rattle.rights.specs.Nodes.{Nodes, level_of}
use Rattle.rights.specs.Policy.{some}
use Rattle.rights.specs.Table.{count, capacity}
use Rattle.rights.proofs.ListLaws.{by_case}
use Rattle.rights.proofs.TableLaws.{capacity_exact}
use Rattle.views.proofs.TableLaws.{facts}
use Rattle.answers.specs.Answer.{ok_text}
use Rattle.answers.specs.How.AnswerArea.{Answered}
use Rattle.xml.specs.How.Loading.{deepest, tally_of, Writable}
use Rattle.xml.specs.How.Tokens.{is_document, document_nodes}
use Rattle.xml.specs.declared.document.Tally.{Tally}
use Rattle.lines.specs.Outcome.{Made}
use Rattle.lines.specs.declared.refusals.Refusal.{Refusal}
use Rattle.lines.specs.declared.refusals.Refusal.TheVariants.{NoDocument}
use Rattle.lines.specs.Refusal.{number_of, refusal_number, numbered, Check, area_check, first_refusal, Passed}
use Rattle.lines.specs.State.{stage, with_stage, store_ok}
use Rattle.lines.proofs.RefusalLaws.{front_err, passed_ok, handed_on, answering_refused, answering_short, answering_done}
use Rattle.lines.proofs.StateLaws.{store_held}
use Rattle.lines.proofs.TreeLineLaws.{no_records}
use Rattle.store.specs.How.Load.{tally_checks}
use Rattle.store.specs.LoadXml.{store_checks, document_checks, nodes_stage, load_xml}

-- the deepest node tells whether some node is too deep
deeper-told : (a b : ℕ) → ltb 11 (max a b) ≡ ltb 11 a || ltb 11 b
deeper-told a b =
    by_case (ltb 11 a)
    (λ e. rw e (lt-ltb 11 (max a b) (omega (arith, ltb-true 11 a e))))
    (λ e. by_case (ltb 11 b)
    (λ f. rw (e, f) (lt-ltb 11 (max a b) (omega (arith, ltb-true 11 b f))))
    (λ f. rw (e, f) (le-ltb 11 (max a b) (omega (arith, ltb-false 11 a e, ltb-false 11 b f)))))

deepest-told : (ns : Nodes) → ltb 11 (deepest ns) ≡ some (λ n. ltb 11 (level_of n)) ns
unfolding deepest some
deepest-told [] = refl
deepest-told (n ∷ ns) = deeper-told (level_of n) (deepest ns) ∙ ap (λ b. ltb 11 (level_of n) || b) (deepest-told ns)

-- 13 and 3
module _ (s t : List ℕ) where
  pub store_passed : {d : Result Unit Refusal} {v : Unit} → refusal_number d ≡ first_refusal (store_checks s t) → d ≡ Ok v → (store_ok s t ≡ true) × (stage s < 2)
  store_passed e z = let p = passed_ok (store_checks s t) refl e z in (not-false (store_ok s t) p.0, leb-false 2 (stage s) p.1.0)

module _ (s t xml : List ℕ) where
  -- all checks but 12, and what the call leaves where none of them fails
  abbrev own_checks : List Check
  own_checks = store_checks s t ++ document_checks (length t) xml

  abbrev state' : List ℕ
  state' = with_stage (nodes_stage (length (document_nodes xml))) s

  abbrev table' : List ℕ
  table' = table_bytes (length t) (map node_bytes (document_nodes xml))

  -- a check of the store or of the document fails; o is what the call returns
  turned : {area : List ℕ} (x : Refusal) → number_of x ≡ first_refusal own_checks → Made (load_xml s t xml (length area)) area (numbered (Err x)) s t area
  unfolding load_xml
  turned x e = answering_refused own_checks ok_text s t state' table' x e

  handed : {area : List ℕ} {r : Result Unit Refusal} {x : Refusal} → refusal_number r ≡ first_refusal own_checks → r ≡ Err x → (o : Result ℕ Refusal) → IsErrAnd o (λ y. y ≡ x)
      → Made (load_xml s t xml (length area)) area (numbered o) s t area
  handed {x} e q o p = rw (handed_on o x p) (turned x (sym (ap refusal_number q) ∙ e))

  pub store_refused : {area : List ℕ} {d : Result Unit Refusal} {x : Refusal} → refusal_number d ≡ first_refusal (store_checks s t) → d ≡ Err x
      → (o : Result ℕ Refusal) → IsErrAnd o (λ y. y ≡ x) → Made (load_xml s t xml (length area)) area (numbered o) s t area
  store_refused e q o p = handed (front_err q (store_checks s t) e (document_checks (length t) xml)) q o p

  module _ (ok : store_ok s t ≡ true) (early : stage s < 2) where
    -- 14
    pub document_refused : {area : List ℕ} → is_document xml ≡ false → Made (load_xml s t xml (length area)) area (numbered (Err NoDocument)) s t area
    document_refused e = turned NoDocument (rw (ok, lt-leb 2 (stage s) early, e))

    module _ (document : is_document xml ≡ true) {n : Tally} (told : n ≡ tally_of (document_nodes xml)) where
      -- 9, 10 and 11
      own-checks : first_refusal (tally_checks (length t) n) ≡ first_refusal own_checks
      own-checks = rw (told, deepest-told (document_nodes xml), ok, lt-leb 2 (stage s) early, document)

      module _ {d : Result Unit Refusal} (e : refusal_number d ≡ first_refusal (tally_checks (length t) n)) where
        pub tally_refused : {area : List ℕ} {x : Refusal} → d ≡ Err x → (o : Result ℕ Refusal) → IsErrAnd o (λ y. y ≡ x)
            → Made (load_xml s t xml (length area)) area (numbered o) s t area
        tally_refused q o p = handed (e ∙ own-checks) q o p

        module _ {v : Unit} (z : d ≡ Ok v) where
          own-passed : Passed own_checks
          own-passed = passed_ok own_checks refl (e ∙ own-checks) z

          -- what the writer of the document asks
          pub document_fits : Writable xml t
          document_fits =
              let p = own-passed in
              let low = ltb-false 11 (deepest (document_nodes xml)) (deepest-told (document_nodes xml) ∙ p.1.1.1.1.0) in
              let h = facts t (store_held s t ok).table in
              let fits = (capacity_exact (length t) (length (document_nodes xml)) h.head).0 (ltb-false (capacity (length t)) (length (document_nodes xml)) p.1.1.1.1.1.0) in
              let e : 4 + count t * 32 ≡ 4 = omega (arith, no_records s t ok early) in
              record { document = document; levels = low; few = fits.1; room = fits.0; clear = rw e at h.clear }

          -- 12, and nothing
          module _ {before area : List ℕ} {need : ℕ} (a : Answered ok_text before area need)
              {k : Result Unit Refusal} (q : refusal_number k ≡ first_refusal (area_check (length area) need ∷ [])) where
            pub area_refused : {x : Refusal} → k ≡ Err x → (o : Result ℕ Refusal) → IsErrAnd o (λ y. y ≡ x)
                → Made (load_xml s t xml (length before)) before (numbered o) s t area
            unfolding load_xml
            area_refused {x} h o p = rw (handed_on o x p) (answering_short own_checks ok_text s t state' table' own-passed a q h)

            pub document_taken : {s'' t'' : List ℕ} {u : Unit} → k ≡ Ok u → s'' ≡ with_stage (nodes_stage n.nodes) s → t'' ≡ table'
                → Made (load_xml s t xml (length before)) before (numbered (Ok need)) s'' t'' area
            unfolding load_xml
            document_taken h es et = answering_done own_checks ok_text s t state' table' own-passed a q h (rw told at es) et
