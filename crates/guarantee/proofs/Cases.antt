-- The starred cases of document 01 and the cases of document 02, computed on the bytes of state, table and lines (specs/Cases.antt). Assumes nothing.
use Prim.Native.Nat.{ℕ}
use mathlib.Core.Path.{◌≡◌, refl, ◌∙◌}
use mathlib.Core.Bool.{true}
use mathlib.Core.List.{List, [], ◌∷◌, map}
use lib.ListN.{drop}
use Rattle.guarantee.specs.Alike.{Input, outcome}
use Rattle.guarantee.specs.Cases.{replies, new_state, new_table, input, Case, CaseAnswered, Starred}
use Rattle.guarantee.specs.Cases.{example_answered, example_renamed, bracket_holds, bracket_counts, no_rules, root_removed, lesson_removed, levels, few_records, hidden_child, words_of_others, ReadRight, first_room, door_sheet, form_tutor, either_case, one_term, until_first_of_may, until_years_end, DayTold, CardsAnswered}
use Rattle.rights.specs.Bytes.{digit_byte, run, all, every}
use Rattle.rights.specs.Labels.{label_byte, folded, same_label}
use Rattle.rights.specs.Path.{passes}
use Rattle.rights.specs.PathReader.{read_test, number_of, is_position, read_position, closes, read_brackets, read_steps, brackets, steps, path_of, read_step, unslashed}
use Rattle.rights.specs.PathText.{decimal, write_test}
use Rattle.rights.specs.Policy.{some, policy_word}
use Rattle.rights.specs.Isa.{is_by, stands_for, subjects_where, passes_own}
use Rattle.rights.specs.PolicyBytes.{test_of, names_from, isa_from, steps_from, rules_from, policy_of}
use Rattle.rights.specs.PolicyCheck.{subjects_ok, isas_ok, rules_ok, policy_ok}
use Rattle.rights.specs.Record.{padded, record_of}
use Rattle.rights.specs.Rights.{reaches, decide, rights_by, chains}
use Rattle.rights.specs.Nodes.{level_at, label_at}
use Rattle.rights.specs.XPath.{filter, with_number, each, stretch, node_set, filtered, xpath_selected}
use Rattle.rights.specs.Table.{records_from, records_ok, table_ok}
use Rattle.views.specs.Shown.{stored_from, at_parent, nearest_first, shown_after}
use Rattle.rights.specs.Marks.{each_from, keep}
use Rattle.views.specs.Change.{drop_below, put_behind, remove, insert_behind, rename, chunks, raise, join, changed, deepest, too_deep}
use Rattle.views.specs.Done.{in_table}
use Rattle.answers.specs.Answer.{hit_lines, child_lines, view_text}
use Rattle.answers.specs.Sheet.{cell, days, labelled, lesson, row_text, head_row, row, sheet_text}
use Rattle.forms.specs.Word.{same_text, among, sign_at, right_at}
use Rattle.forms.specs.Layout.{word_at}
use Rattle.forms.specs.Part.{path_byte, label_end, day_end, day_at, run_end, known_end}
use Rattle.forms.specs.Tree.{open_end, tail_end, tree_end, tail_nodes, tree_nodes, records_of}
use Rattle.forms.specs.Form.{parts_of, ends_in, read_form}
use Rattle.lines.specs.PolicyEdit.{subject_from, subject_named, isa_held, bracketed, has_bracket, step_list, steps_in, path_restricted, step_records, with_line}
use Rattle.forms.specs.Text.{line_byte, line_ok}
use Rattle.lines.specs.State.{session_ok, state_ok, store_ok}
use Rattle.lines.specs.Effect.{guarded, performed}
use Rattle.lines.specs.Outcome.{Reply, Outcome}
use Rattle.lines.specs.Refusal.{checked}
use Rattle.lines.specs.Work.{tree_restricted}
use Rattle.lines.specs.Clause.{work_of}
use Rattle.store.specs.Line.{line_checks, step}
use Rattle.guarantee.proofs.SessionKept.{store_kept}

-- A line from a store that passes: `step` without 13.
unfoldable pub passed : List ℕ → List ℕ → Input → Outcome
passed s t i =
    performed (guarded (drop 1 (line_checks s t i.line)) (work_of (read_form i.line) s t)) i.room s t

pub step-passed : (s t : List ℕ) (i : Input) → store_ok s t ≡ true → outcome s t i ≡ passed s t i
unfolding step performed checked passed
step-passed s t i ok = rw ok

unfoldable passed_replies : List ℕ → List ℕ → List Input → List Reply
passed_replies s t [] = []
passed_replies s t (i ∷ is) = (passed s t i).reply ∷ passed_replies (passed s t i).state (passed s t i).table is

-- Every line leaves a store that passes, so in a run from one that passes 13 need not be computed again. This carries the table to `step`.
carried : (s t : List ℕ) (is : List Input) → store_ok s t ≡ true → replies s t is ≡ passed_replies s t is
unfolding replies passed_replies passed
carried s t [] p = refl
carried s t (i ∷ is) p =
    let e : outcome s t i ≡ passed s t i = step-passed s t i p in
    rw (carried (outcome s t i).state (outcome s t i).table is (store_kept s t i.line i.room p), e)

-- a new store passes
pub new-passes : store_ok new_state (new_table 1024) ≡ true
unfolding all records_from records_ok table_ok every subjects_ok isas_ok rules_ok policy_ok session_ok state_ok store_ok
new-passes = refl

pub small_passes : store_ok new_state (new_table 10) ≡ true
unfolding all records_from records_ok table_ok every subjects_ok isas_ok rules_ok policy_ok session_ok state_ok store_ok
small_passes = refl

-- what the lines of a row give from a new store, where 13 is not computed
unfoldable pub given : Case → List Reply
unfolding passed_replies passed digit_byte run all label_byte same_label passes read_test read_step number_of is_position read_position closes read_brackets read_steps unslashed brackets steps path_of decimal write_test some passes_own policy_word test_of names_from isa_from steps_from rules_from policy_of record_of is_by reaches decide rights_by chains level_at label_at filter with_number each stretch node_set filtered xpath_selected records_from stored_from at_parent nearest_first shown_after keep each_from drop_below put_behind remove insert_behind rename chunks raise join changed deepest too_deep in_table hit_lines child_lines view_text same_text among word_at sign_at right_at path_byte label_end day_end day_at open_end tail_end tree_end tail_nodes tree_nodes records_of parts_of ends_in read_form subject_from subject_named isa_held bracketed has_bracket step_list steps_in path_restricted step_records with_line line_byte line_ok checked performed tree_restricted folded padded stands_for subjects_where run_end known_end cell days labelled lesson row_text head_row row sheet_text
given c = passed_replies new_state (new_table c.capacity) (map input c.turns)

abbrev Gives : Case → Type 0
Gives c = given c ≡ map (λ x. x.reply) c.turns

example-answered : Gives example_answered
unfolding given
example-answered = refl

example-renamed : Gives example_renamed
unfolding given
example-renamed = refl

bracket_holds_lem : Gives bracket_holds
unfolding given
bracket_holds_lem = refl

bracket_counts_lem : Gives bracket_counts
unfolding given
bracket_counts_lem = refl

no_rules_lem : Gives no_rules
unfolding given
no_rules_lem = refl

root_removed_lem : Gives root_removed
unfolding given
root_removed_lem = refl

lesson-removed : Gives lesson_removed
unfolding given
lesson-removed = refl

levels-given : Gives levels
unfolding given
levels-given = refl

few_records_lem : Gives few_records
unfolding given
few_records_lem = refl

answered : (c : Case) → store_ok new_state (new_table c.capacity) ≡ true → Gives c → CaseAnswered c
unfolding given
answered c p e = carried new_state (new_table c.capacity) (map input c.turns) p ∙ e

abbrev ◌and◌ : {A B : Type 0} → A → B → A × B
◌and◌ a b = (a, b)

infixr 3 ◌and◌
-- ★ Every row of the table.
pub starred : Starred
starred =
    answered example_answered new-passes example-answered
    and answered example_renamed new-passes example-renamed
    and answered bracket_holds new-passes bracket_holds_lem
    and answered bracket_counts new-passes bracket_counts_lem
    and answered no_rules new-passes no_rules_lem
    and answered root_removed new-passes root_removed_lem
    and answered lesson_removed new-passes lesson-removed
    and answered levels new-passes levels-given
    and answered few_records small_passes few_records_lem
    and tt

-- No reading that makes demand 3 false is the store's.
hidden_child_lem : Gives hidden_child
unfolding given
hidden_child_lem = refl

words_of_others_lem : Gives words_of_others
unfolding given
words_of_others_lem = refl

pub read_right : ReadRight
read_right =
    answered hidden_child small_passes hidden_child_lem
    and answered words_of_others small_passes words_of_others_lem
    and answered few_records small_passes few_records_lem
    and tt

-- The cases of document 02's cards
first_room_lem : Gives first_room
unfolding given
first_room_lem = refl

door_sheet_lem : Gives door_sheet
unfolding given
door_sheet_lem = refl

form_tutor_lem : Gives form_tutor
unfolding given
form_tutor_lem = refl

either_case_lem : Gives either_case
unfolding given
either_case_lem = refl

one_term_lem : Gives one_term
unfolding given
one_term_lem = refl

until_first_of_may_lem : Gives until_first_of_may
unfolding given
until_first_of_may_lem = refl

until_years_end_lem : Gives until_years_end
unfolding given
until_years_end_lem = refl

pub day_told : DayTold
day_told = answered until_first_of_may small_passes until_first_of_may_lem and answered until_years_end small_passes until_years_end_lem and tt

pub cards_answered : CardsAnswered
cards_answered =
    answered first_room small_passes first_room_lem
    and answered door_sheet new-passes door_sheet_lem
    and answered form_tutor small_passes form_tutor_lem
    and answered either_case small_passes either_case_lem
    and answered one_term small_passes one_term_lem
    and tt
