-- Two stores that differ and are alike, and two that only look the same and are told apart (specs/Witness.antt), computed on the bytes of state, table and lines. Assumes
-- nothing.
use Prim.Native.Nat.{ℕ, ◌≤◌, ◌<◌}
use Prim.Native.String.{String}
use mathlib.Core.Path.{◌≡◌, refl, sym, ap, ap₂, ◌∙◌, subst}
use mathlib.Core.Bool.{true}
use mathlib.Core.List.{List, [], ◌∷◌}
use mathlib.Core.Logic.{inl, inr}
use native.Mathlib.Omega.{arith}
use borrow.Author.Tests.{leb-true, lt-leb, le-ltb}
use lib.ListN.{length, get_or, replicate}
use Rattle.rights.specs.Bytes.{bytes, all, digit_byte, run}
use Rattle.rights.specs.Labels.{label_byte, folded, same_label}
use Rattle.rights.specs.Path.{passes as passesTest}
use Rattle.rights.specs.Policy.{Policy, some, policy_word}
use Rattle.rights.specs.Isa.{is_by, stands_for, subjects_where, passes_own}
use Rattle.rights.specs.Record.{padded, record_of}
use Rattle.rights.specs.Rights.{reaches, decide, rights_by, chains, rights_on}
use Rattle.rights.specs.Table.{records, capacity}
use Rattle.rights.specs.Tree.{nodes_of, nodes_in}
use Rattle.rights.specs.Marks.{keep, each_from}
use Rattle.views.specs.Shown.{stored_from, stored, at_parent, nearest_first, shown_after, shown, view}
use Rattle.forms.specs.Part.{label_end}
use Rattle.forms.specs.TreeText.{GoodLabel}
use Rattle.answers.specs.Answer.{ok_text}
use Rattle.xml.specs.Document.{blank_byte, name_start, said, full, ends, Document, write_element, write_content, write_document, element_tree, content_trees, GoodElement, GoodContent, GoodDocument}
use Rattle.xml.specs.How.Tokens.{is_document, document_nodes, lex, lex_after, tokens_from, nested, nested_in, matched_in, same_bytes, token_nodes}
use Rattle.lines.specs.State.{stage_c, stage, user_byte, day_in, policy_in, store_ok}
use Rattle.lines.specs.Outcome.{Reply, says, refuses, Outcome, answer_of, area_after}
use Rattle.lines.specs.Refusal.{checked}
use Rattle.store.specs.LoadXml.{load_xml}
use Rattle.lines.specs.Effect.{renaming, records_after}
use Rattle.guarantee.specs.Alike.{Start, Alike, Behind, stored_for, shown_to, look, UserIs, Input, outcome}
use Rattle.guarantee.specs.Identity.{after_effect, state_after_all, table_after_all, tag_all, tag_at}
use Rattle.guarantee.specs.Cases.{new_state, new_table}
use Rattle.guarantee.specs.Witness.{typed, policy_lines, school, state_with, table_with, NotTold, Hidden, file_with, tree_with, policy_state, policy_table, loaded_with, LoadsFile, HiddenInFiles, ToldApart, SecondNeeded, WordsNeeded}
use Rattle.guarantee.specs.Loading.{TreesAlike}
use Rattle.guarantee.proofs.Schools.{the_policy, the_table, nodes_in as schoolNodes, look_of, shown_of, BehindBoth, look_ill_cold, look_ill_flu, look_ill_sha, behind_ill_cold, behind_ill_flu, behind_ill_sha, tables_differ, look_in_any_case, behind_in_any_case, letters_differ}
use Rattle.guarantee.proofs.LineAlike.{same_self}
use Rattle.guarantee.proofs.SessionKept.{store_kept}
use Rattle.guarantee.proofs.RunKept.{run-passes}
use Rattle.guarantee.proofs.Cases.{given, passed, step-passed, small_passes}
use Rattle.guarantee.proofs.Loading.{left_by}

-- What is read off a store: its policy, stage, user and day, its table, and the reply to the line that tells notes apart
abbrev told : List ℕ
told = bytes "(remove /*/*)"

record Read : Type 0 where
  policy : Policy
  stage : ℕ
  user : ℕ
  day : ℕ
  table : List ℕ
  reply : Reply

unfoldable read_off : List ℕ → List ℕ → Read
read_off s t = record { policy = policy_in s; stage = stage s; user = user_byte s; day = day_in s; table = t; reply = (passed s t (typed told)).reply }

-- from a store that passes, after lines, where 13 is not computed
unfoldable read_after : List ℕ → List ℕ → List Input → Read
read_after s t [] = read_off s t
read_after s t (i ∷ is) = read_after (passed s t i).state (passed s t i).table is

read_after_lem : (s t : List ℕ) (is : List Input) → store_ok s t ≡ true → read_off (state_after_all s t is) (table_after_all s t is) ≡ read_after s t is
unfolding read_after state_after_all table_after_all
read_after_lem s t [] p = refl
read_after_lem s t (i ∷ is) p =
    let e : outcome s t i ≡ passed s t i = step-passed s t i p in
    read_after_lem (outcome s t i).state (outcome s t i).table is (store_kept s t i.line i.room p)
    ∙ ap (λ (o : Outcome). read_after o.state o.table is) e

-- a school
abbrev Reads : String → String → Type 0
Reads one answer =
    read_after new_state (new_table 10) (school one) ≡ record { policy = the_policy; stage = 4; user = 1; day = 1; table = the_table one; reply = says (bytes answer) }

ill : Reads "ill" "(done 1 0)\n"
unfolding given read_after read_off
ill = refl

cold : Reads "cold" "(done 1 0)\n"
unfolding given read_after read_off
cold = refl

flu : Reads "flu" "(done 1 1)\n"
unfolding given read_after read_off
flu = refl

capital : Reads "Flu" "(done 1 1)\n"
unfolding given read_after read_off
capital = refl

sha : Reads "SHA" "(done 1 1)\n"
unfolding given read_after read_off
sha = refl

module _ (one answer : String) (w : Reads one answer) where
  read_off_lem : read_off (state_with one) (table_with one)
      ≡ record { policy = the_policy; stage = 4; user = 1; day = 1; table = the_table one; reply = says (bytes answer) }
  read_off_lem = read_after_lem new_state (new_table 10) (school one) small_passes ∙ w

  passes : store_ok (state_with one) (table_with one) ≡ true
  passes = run-passes new_state (new_table 10) (school one) small_passes

  policy_is : policy_in (state_with one) ≡ the_policy
  unfolding read_off
  policy_is = ap (λ (r : Read). r.policy) read_off_lem

  rooted : stage_c ≤ stage (state_with one)
  unfolding read_off
  rooted = let e : stage (state_with one) ≡ 4 = ap (λ (r : Read). r.stage) read_off_lem in omega (arith, e)

  user_is : UserIs 0 (state_with one)
  unfolding read_off
  user_is = ap (λ (r : Read). r.user) read_off_lem

  day_is : day_in (state_with one) ≡ 1
  unfolding read_off
  day_is = ap (λ (r : Read). r.day) read_off_lem

  table_is : table_with one ≡ the_table one
  unfolding read_off
  table_is = ap (λ (r : Read). r.table) read_off_lem

  reply_is : (outcome (state_with one) (table_with one) (typed told)).reply ≡ says (bytes answer)
  unfolding read_off
  reply_is =
      ap (λ (o : Outcome). o.reply) (step-passed (state_with one) (table_with one) (typed told) passes)
      ∙ ap (λ (r : Read). r.reply) read_off_lem

  rights-is : rights_on (policy_in (state_with one)) 0 (records (table_with one)) ≡ rights_on the_policy 0 (records (the_table one))
  rights-is = ap₂ (λ P t. rights_on P 0 (records t)) policy_is table_is

  stored_is : stored_for 0 (state_with one) (table_with one) ≡ schoolNodes one
  stored_is = λ i. stored (day_is i) (table_is i) (rights-is i)

-- two such schools
module _ (one other answer answer' : String) (w : Reads one answer) (w' : Reads other answer') where
  started : Start (state_with one) (table_with one) (state_with other) (table_with other)
  started = record {
    passes = passes one answer w;
    passes' = passes other answer' w';
    rooted = rooted one answer w;
    rooted' = rooted other answer' w';
    policy = rw (policy_is one answer w, policy_is other answer' w') (same_self the_policy);
    day = day_is one answer w ∙ sym (day_is other answer' w');
  }

  look-same : look_of one ≡ look_of other → look 0 (state_with one) (table_with one) ≡ look 0 (state_with other) (table_with other)
  look-same e =
      ap view (stored_is one answer w) ∙ e ∙ sym (ap view (stored_is other answer' w'))

  shown-is : (one answer : String) → Reads one answer → shown_to 0 (state_with one) (table_with one) ≡ shown_of one
  shown-is one answer w = ap (λ xs. keep (shown xs) xs) (stored_is one answer w)

  behind-is : Behind (policy_in (state_with one)) (shown_to 0 (state_with one) (table_with one))
      (shown_to 0 (state_with other) (table_with other)) ≡ BehindBoth one other
  behind-is =
      ap (λ (P : Policy). Behind P (shown_to 0 (state_with one) (table_with one)) (shown_to 0 (state_with other) (table_with other)))
      (policy_is one answer w)
      ∙ ap₂ (Behind the_policy) (shown-is one answer w) (shown-is other answer' w')

  alike : look_of one ≡ look_of other → BehindBoth one other
      → Alike 0 (state_with one) (table_with one) (state_with other) (table_with other)
  alike e b = record { start = started; looks = look-same e; behind = subst (λ B. B) (sym behind-is) b }

  told_apart : look_of one ≡ look_of other → (BehindBoth one other → ⊥) → ToldApart one other "(remove /*/*)" answer answer'
  told_apart e k = record {
    start = started;
    looks = look-same e;
    unlike = λ a. k (subst (λ B. B) behind-is a.behind);
    user = user_is one answer w;
    user' = user_is other answer' w';
    says_one = reply_is one answer w;
    says_other = reply_is other answer' w';
  }

ill_flu : ToldApart "ill" "flu" "(remove /*/*)" "(done 1 0)\n" "(done 1 1)\n"
ill_flu = told_apart "ill" "flu" "(done 1 0)\n" "(done 1 1)\n" ill flu look_ill_flu behind_ill_flu

ill_sha : ToldApart "ill" "SHA" "(remove /*/*)" "(done 1 0)\n" "(done 1 1)\n"
ill_sha = told_apart "ill" "SHA" "(done 1 0)\n" "(done 1 1)\n" ill sha look_ill_sha behind_ill_sha

pub words_needed : WordsNeeded
unfolding given
words_needed =
    let e : table_with "ill" ≡ the_table "ill" = table_is "ill" "(done 1 0)\n" ill in
    record {
      kept = ap (λ (t : List ℕ). tag_at (after_effect (renaming (bytes "note") (true ∷ [])) (tag_all 0 (records t))) 1) e;
      had = ap (λ (ss : List ℕ). get_or ss 1 0) (rights-is "ill" "(done 1 0)\n" ill);
      has = ap₂ (λ (P : Policy) (t : List ℕ). get_or (rights_on P 0 (records_after (renaming (bytes "note") (true ∷ [])) (records t))) 1 0) (policy_is "ill" "(done 1 0)\n" ill) e;
    }

not-told : (one other answer answer' : String) → Reads one answer → Reads other answer' → look_of one ≡ look_of other → BehindBoth one other
    → (the_table one ≡ the_table other → ⊥) → NotTold one other
not-told one other answer answer' w w' e b d =
    (alike one other answer answer' w w' e b, λ q. d (sym (table_is one answer w) ∙ q ∙ table_is other answer' w'))

pub hidden : Hidden
hidden = (
  not-told "ill" "cold" "(done 1 0)\n" "(done 1 0)\n" ill cold look_ill_cold behind_ill_cold tables_differ,
  not-told "flu" "Flu" "(done 1 1)\n" "(done 1 1)\n" flu capital look_in_any_case behind_in_any_case letters_differ,
)

pub second_needed : SecondNeeded
second_needed = (ill_flu, ill_sha)

-- The solver's files

abbrev after_policy : Read
after_policy = record { policy = the_policy; stage = 1; user = 0; day = 1; table = new_table 10; reply = refuses 3 }

policy_lines_lem : read_after new_state (new_table 10) policy_lines ≡ after_policy
unfolding given read_after read_off
policy_lines_lem = refl

policy_read : read_off policy_state policy_table ≡ after_policy
policy_read = read_after_lem new_state (new_table 10) policy_lines small_passes ∙ policy_lines_lem

-- a store without a root, that passes, takes them in
module _ (s t : List ℕ) (ok : store_ok s t ≡ true) (early : stage s < stage_c) (room : 2 ≤ capacity (length t)) where
  file_ill : (load_xml s t (file_with "ill") 5).reply ≡ says ok_text
  unfolding load_xml checked is_document document_nodes lex lex_after tokens_from nested nested_in matched_in same_bytes token_nodes label_end run blank_byte name_start digit_byte label_byte some same_label folded
  file_ill = rw (ok, lt-leb 2 (stage s) early, le-ltb (capacity (length t)) 2 room)

  file_cold : (load_xml s t (file_with "cold") 5).reply ≡ says ok_text
  unfolding load_xml checked is_document document_nodes lex lex_after tokens_from nested nested_in matched_in same_bytes token_nodes label_end run blank_byte name_start digit_byte label_byte some same_label folded
  file_cold = rw (ok, lt-leb 2 (stage s) early, le-ltb (capacity (length t)) 2 room)

policy_passes : store_ok policy_state policy_table ≡ true
policy_passes = run-passes new_state (new_table 10) policy_lines small_passes

policy_early : stage policy_state < stage_c
unfolding read_off
policy_early = let e : stage policy_state ≡ 1 = ap (λ (r : Read). r.stage) policy_read in omega (arith, e)

policy_room : 2 ≤ capacity (length policy_table)
unfolding read_off
policy_room = rw (ap (λ (r : Read). r.table) policy_read) (leb-true 2 (capacity (length (new_table 10))) refl)

abbrev document_with : String → Document
document_with inner = record { before = []; root = full (bytes "school") (ends (said [] (bytes inner) [])); after = [] }

good_with : (inner : String) → GoodLabel (bytes inner) → GoodDocument (document_with inner)
unfolding GoodElement GoodContent all label_byte name_start digit_byte
good_with inner g = record { before = refl; root = (((omega arith, omega arith, refl), refl), (refl, g, refl)); after = refl }

loads_file : (inner : String) → GoodLabel (bytes inner) → file_with inner ≡ write_document (document_with inner) → (loaded_with inner).reply ≡ says ok_text → LoadsFile inner
unfolding element_tree content_trees
loads_file inner g d e = record {
  xml = file_with inner;
  document = (document_with inner, good_with inner g, d, refl);
  lent = replicate 5 0;
  said = 5;
  area = area_after (loaded_with inner).reply (replicate 5 0);
  promised = record { answer = sym (ap answer_of e); state = refl; table = refl; area = refl };
}

loads_ill : LoadsFile "ill"
unfolding write_element write_content all label_byte
loads_ill = loads_file "ill" (omega arith, omega arith, refl) refl (file_ill policy_state policy_table policy_passes policy_early policy_room)

loads_cold : LoadsFile "cold"
unfolding write_element write_content all label_byte
loads_cold = loads_file "cold" (omega arith, omega arith, refl) refl (file_cold policy_state policy_table policy_passes policy_early policy_room)

trees_alike : TreesAlike 1 the_policy 0 (tree_with "ill") (tree_with "cold")
unfolding nodes_of nodes_in all label_byte folded same_label passesTest some passes_own policy_word is_by stands_for subjects_where reaches decide rights_by chains padded record_of stored_from at_parent nearest_first shown_after keep each_from
trees_alike = record { looks = refl; behind = ((λ a b. inl refl), ((λ a b. inr (refl, refl)), tt)) }

files_differ : (loaded_with "ill").table ≡ (loaded_with "cold").table → ⊥
unfolding nodes_of nodes_in record_of padded
files_differ e =
    let x = left_by (tree_with "ill") policy_state policy_table _ _ loads_ill in
    let y = left_by (tree_with "cold") policy_state policy_table _ _ loads_cold in
    let z : ◌≡◌ {A = ℕ} 3 4 = ap (λ (rs : List (List ℕ)). get_or (get_or rs 1 []) 1 0) (sym x.held ∙ ap records e ∙ y.held) in
    omega (arith, z)

pub hidden_in_files : HiddenInFiles
unfolding read_off
hidden_in_files = (
  loads_ill,
  loads_cold,
  subst (λ (P : Policy). TreesAlike 1 P 0 (tree_with "ill") (tree_with "cold")) (sym (ap (λ (r : Read). r.policy) policy_read)) trees_alike,
  files_differ,
)
