-- One line, by the tests that it meets and the form that was read. Assumes nothing.
use Rattle.std.specs.Int.{from_bool}
use Rattle.rights.specs.Marks.{bit}
use Rattle.std.specs.Prelude.{Result, Ok, Err, IsErrAnd}
use Prim.Native.Nat.{ℕ, min, suc, ◌+◌, ◌-◌, ◌*◌, ◌≤◌, ◌<◌}
use mathlib.Core.Path.{◌≡◌, refl, sym, ap, ◌∙◌, subst}
use mathlib.Core.List.{List, [], ◌∷◌, ◌++◌, append_assoc}
use mathlib.Core.Bool.{Bool, true, false, ◌&&◌, beq, and-eq-true_iff}
use native.Mathlib.Omega.{arith}
use borrow.Author.Tests.{leb-true, le-leb, lt-leb, leb-false, not-false}
use lib.Dec.{leb, ltb}
use lib.ListN.{length, get_or, take, drop, replicate, length-append, length-drop, length-replicate, drop_of_length-le}
use lib.Seq.{take_at, take_all, take-nil}
use Rattle.rights.specs.Record.{node_record, pasted}
use Rattle.rights.proofs.ListLaws.{by_case}
use Rattle.rights.proofs.RecordOfLaws.{length_node}
use Rattle.forms.specs.declared.layout.Word.{Word}
use Rattle.forms.specs.declared.form.Form.{Form}
use Rattle.forms.specs.Text.{line_ok}
use Rattle.rights.specs.Nodes.{Node, node}
use Rattle.forms.specs.Tree.{held, records_of}
use Rattle.rights.specs.Tree as text
use Rattle.rights.specs.Tree.{nodes_of, nodes_in}
use Rattle.forms.specs.TreeText.{GoodTree, GoodTrees, GoodLabel}
use Rattle.forms.specs.Layout.{stage_of, shape_of}
use Rattle.forms.specs.Form.{place_in, form_at, read_form, tree_in}
use Rattle.forms.specs.How.Codes.{codes_of, says_by, stage_number}
use Rattle.forms.specs.How.Reader.{FormRead, area_in}
use Rattle.forms.proofs.PlaceLaws.{area_form}
use Rattle.lines.specs.State.{stage, store_ok}
use Rattle.lines.specs.Outcome.{Answer, Refused, refusal, Made}
use Rattle.lines.specs.Refusal.{Check, Passed, first_refusal, numbered, refusal_number}
use Rattle.lines.specs.declared.refusals.Refusal.{Refusal}
use Rattle.lines.specs.Clause.{work_of}
use Rattle.lines.specs.Effect.{Work, guarded, Performs}
use Rattle.lines.proofs.OutcomeLaws.{made_at}
use Rattle.lines.proofs.RefusalLaws.{first_behind, front_err, passed_ok, passed-append, performs_refused, performed-guarded}
use Rattle.store.specs.Line.{in_stage, is_no_form, text_checks, form_checks, line_checks, step}
use Rattle.store.proofs.FormParts.{TreePart, Fits, form_fits}

-- A form that was read, where its word is known
module _ {line : List ℕ} {f : Form} (r : FormRead line f) {w : Word} (e : f.word ≡ w) where
  pub read_as : read_form line ≡ form_at w line (place_in f.ends)
  read_as = r.form ∙ ap (λ v. form_at v line (place_in f.ends)) e

  pub fits_as : Fits line (form_at w line (place_in f.ends))
  fits_as = subst (Fits line) read_as (form_fits line)

  pub says_as : (j : ℕ) → j < 4 → get_or f.says j 0 ≡ says_by (get_or (codes_of (shape_of w)) j 0) line (place_in f.ends j + 1)
  says_as = subst (λ v. (j : ℕ) → j < 4 → get_or f.says j 0 ≡ says_by (get_or (codes_of (shape_of v)) j 0) line (place_in f.ends j + 1)) e r.says

  pub tree_as : (b : List ℕ) → b ≡ pasted (replicate 16384 0) 0 (records_of (tree_in (read_form line)))
      → b ≡ pasted (replicate 16384 0) 0 (records_of (tree_in (form_at w line (place_in f.ends))))
  tree_as b q = q ∙ ap (λ g. pasted (replicate 16384 0) 0 (records_of (tree_in g))) read_as

-- the bytes from a up to b, as far as they go
pub part_clipped : (s : List ℕ) (a b : ℕ) → take (min b (length s) - min a (min b (length s))) (drop (min a (min b (length s))) s) ≡ take (b - a) (drop a s)
part_clipped s a b = by_case (leb b (length s))
    (λ e. let m : min b (length s) ≡ b = omega (arith, leb-true b (length s) e) in rw m (by_case (leb a b)
    (λ f. let n : min a b ≡ a = omega (arith, leb-true a b f) in rw n refl)
    (λ f. let n : min a b ≡ b = omega (arith, leb-false a b f) in let y : b - b ≡ 0 = omega arith in let z : b - a ≡ 0 = omega (arith, leb-false a b f) in rw (n, z, y) refl)))
    (λ e. let m : min b (length s) ≡ length s = omega (arith, leb-false b (length s) e) in rw m (by_case (leb a (length s))
    (λ f. let n : min a (length s) ≡ a = omega (arith, leb-true a (length s) f) in rw n (take_all (length s - a) (drop a s) (omega (arith, length-drop a s)) ∙ sym (take_all (b - a) (drop a s) (omega (arith, length-drop a s, leb-false b (length s) e)))))
    (λ f. let n : min a (length s) ≡ length s = omega (arith, leb-false a (length s) f) in let z : length s - length s ≡ 0 = omega arith in let y : drop a s ≡ [] = drop_of_length-le s {i = a} (omega (arith, leb-false a (length s) f)) in rw (n, z, y) (sym (take-nil (b - a))))))

-- accept is 1, deny 0
pub accept_bit : {n : ℕ} (b : Bool) → n ≡ from_bool b → n ≡ bit b
accept_bit true e = e
accept_bit false e = e

-- a label that was taken is short
pub label_short : {l : List ℕ} (x : List ℕ) → GoodLabel l → x ≡ l → length x ≤ 24
label_short x g e = rw e g.1

-- The records of the line's tree

records-append : (ns ms : List Node) → records_of (ns ++ ms) ≡ records_of ns ++ records_of ms
unfolding records_of
records-append [] ms = refl
records-append (node l x ∷ ns) ms = ap (λ r. node_record (held l) x ++ r) (records-append ns ms) ∙ sym (append_assoc (node_record (held l) x) (records_of ns) (records_of ms))

mutual
  unfolding GoodTrees GoodTree nodes_in nodes_of records_of

  tree_records : (t : text.Tree) (k : ℕ) → GoodTree t → length (records_of (nodes_of k t)) ≡ length (nodes_of k t) * 32
  tree_records (text.tree l ts) k g =
      length-append (node_record (held k) l) (records_of (nodes_in (suc k) ts))
      ∙ omega (arith, length_node (held k) l g.0.1, trees_records ts (suc k) g.1)

  trees_records : (ts : text.Trees) (k : ℕ) → GoodTrees ts → length (records_of (nodes_in k ts)) ≡ length (nodes_in k ts) * 32
  trees_records text.none k g = refl
  trees_records (text.more t ts) k g =
      ap length (records-append (nodes_of k t) (nodes_in k ts)) ∙ length-append (records_of (nodes_of k t)) (records_of (nodes_in k ts))
      ∙ omega (arith, tree_records t k g.0, trees_records ts k g.1, length-append (nodes_of k t) (nodes_in k ts))

module _ {line : List ℕ} {ns : List Node} (w : TreePart line ns) where
  size_is : length (records_of ns) ≡ length ns * 32
  size_is = rw w.nodes (tree_records w.is 0 w.good)

  few : line_ok line ≡ true → length ns ≤ 512
  unfolding line_ok
  few ok =
      let f = simp (line_ok, and-eq-true_iff) at ok in
      omega (arith, w.small, leb-true (length line) 1024 f.0)

  module _ {m : ℕ} (n : m ≡ length ns) (area : List ℕ) (e : area ≡ pasted (replicate 16384 0) 0 (records_of ns)) (ok : line_ok line ≡ true) where
    length-area : length area ≡ 16384
    length-area =
        ap length e ∙ length-append (records_of ns) (drop (0 + length (records_of ns)) (replicate 16384 0))
        ∙ omega (arith, size_is, few ok, length-drop (0 + length (records_of ns)) (replicate {A = ℕ} 16384 0), length-replicate {A = ℕ} 16384 0)

    pub tree_asks : (m ≤ 1024) × (m * 32 ≤ length area)
    tree_asks = (omega (arith, n, few ok), omega (arith, n, few ok, length-area))

    pub tree_taken : (x : List ℕ) → x ≡ take (m * 32) area → x ≡ records_of ns
    tree_taken x q = q ∙ rw e (take_at (records_of ns) (drop (0 + length (records_of ns)) (replicate 16384 0)) (m * 32) (rw n size_is))

    -- what the lines with a tree ask of it
    pub tree_holds : (x : List ℕ) → x ≡ take (m * 32) area → (m * 32 ≤ length x) × (m ≤ 16384)
    tree_holds x q = (omega (arith, n, ap length (tree_taken x q), size_is), omega (arith, n, few ok))

-- a root line comes before any root
pub root_stage : (g : ℕ) → in_stage 2 g ≡ true → g < 2
root_stage g h = by_case (leb 2 g)
    (λ q. absurd (
    let w : (leb g 2 && false) ≡ true = rw q at h in
    let f = simp (and-eq-true_iff) at w in
    let y : ◌≡◌ {A = ℕ} 0 1 = cc in
    omega arith))
    (λ q. omega (arith, leb-false 2 g q))

-- the stage of a form beside the stage of the state
pub stage_late : (k g : ℕ) → k < g → false ≡ in_stage k g
stage_late k g h = rw (lt-leb g k h)

pub stage_even : (k g : ℕ) → g ≤ k → beq (ltb 2 k) (leb 2 g) ≡ in_stage k g
stage_even k g h = rw (le-leb g k h)

-- a line that is short enough finds room for its tree
pub form_room : (line : List ℕ) → line_ok line ≡ true → 16 * length line ≤ length (replicate {A = ℕ} 16384 0)
unfolding line_ok
form_room line ok =
    let f = simp (line_ok, and-eq-true_iff) at ok in
    omega (arith, leb-true (length line) 1024 f.0, length-replicate {A = ℕ} 16384 0)

-- a refusal leaves all as it was
pub refused : {n : ℕ} {s t area : List ℕ} → Made (refusal n s t) area (Refused n) s t area
refused = record { answer = refl; state = refl; table = refl; area = refl }

-- The whole line

module _ (s t line : List ℕ) where
  abbrev own_work : Work
  own_work = work_of (read_form line) s t

  abbrev own_front : List Check
  own_front = form_checks (stage_of (read_form line).word) (stage s)

  abbrev whole : Work
  whole = guarded (line_checks s t line) own_work

  module _ {d : Result Unit Refusal} (e : refusal_number d ≡ first_refusal (text_checks s t line)) where
    -- refused before it is read
    pub text_refused : {area : List ℕ} {x : Refusal} → d ≡ Err x → (o : Result ℕ Refusal) → IsErrAnd o (λ y. y ≡ x)
        → Made (step s t line (length area)) area (numbered o) s t area
    unfolding step
    text_refused q o p = performs_refused whole s t (front_err q (text_checks s t line) e (own_front ++ own_work.checks)) q o p

    -- or let pass
    module _ {v : Unit} (z : d ≡ Ok v) where
      passed-text : Passed (text_checks s t line)
      passed-text = passed_ok (text_checks s t line) refl e z

      pub text_passed : (store_ok s t ≡ true) × (line_ok line ≡ true)
      text_passed = let p = passed-text in (not-false (store_ok s t) p.0, not-false (line_ok line) p.1.0)

      -- the form that was read, where its stage was asked for
      module _ {f : Form} (q : FormRead line f) where
        stage_is : stage_number f.stage ≡ stage_of (read_form line).word
        stage_is = q.stage ∙ ap (λ r. stage_of r.word) (sym q.form)

        module _ {g : Result Unit Refusal} (k : refusal_number g ≡ first_refusal (form_checks (stage_number f.stage) (stage s))) where
          read : {r : Result Unit Refusal} → g ≡ r → refusal_number r ≡ first_refusal own_front
          read h = sym (ap refusal_number h) ∙ k ∙ ap (λ j. first_refusal (form_checks j (stage s))) stage_is

          -- refused for its form
          pub form_refused : {area : List ℕ} {x : Refusal} → g ≡ Err x → (o : Result ℕ Refusal) → IsErrAnd o (λ y. y ≡ x)
              → Made (step s t line (length area)) area (numbered o) s t area
          unfolding step
          form_refused {x} h o p =
              performs_refused whole s t {A = Unit} {x = x}
              (front_err {A = Unit} {r = Err x} refl own_front (read h) own_work.checks ∙ sym (first_behind (text_checks s t line) (own_front ++ own_work.checks) passed-text))
              refl o p

          module _ {u : Unit} (w : g ≡ Ok u) where
            passed-form : Passed own_front
            passed-form = passed_ok {A = Unit} own_front {r = Ok u} refl (read w) refl

            -- what both let pass; the area of a line that is a form has the records of its tree
            pub run-asks : (a b : List ℕ) → b ≡ area_in line a
                → (store_ok s t ≡ true) × (line_ok line ≡ true) × FormRead line f × (in_stage (stage_of f.word) (stage s) ≡ true) × (b ≡ pasted a 0 (records_of (tree_in (read_form line))))
            run-asks a b h = (
              text_passed.0,
              text_passed.1,
              q,
              ap (λ j. in_stage j (stage s)) (sym q.stage ∙ stage_is) ∙ not-false (in_stage (stage_of (read_form line).word) (stage s)) passed-form.1.0,
              h ∙ area_form line a (λ y. let x : true ≡ false = ap (λ r. is_no_form (stage_of r.word)) (sym y) ∙ passed-form.0 in absurd (let v : ◌≡◌ {A = ℕ} 0 1 = cc in omega arith)),
            )

            -- taken to the form's own work
            pub line_run : {area s' t' area' : List ℕ} {r : Answer} → Performs own_work s t area r s' t' area' → Made (step s t line (length area)) area r s' t' area'
            unfolding step
            line_run {area} m =
                made_at (performed-guarded (line_checks s t line) own_work (length area) s t (passed-append (text_checks s t line) own_front passed-text passed-form)) m
