-- The work of each form: its checks in the paper's order, its answer and its effect (document 01, "Lines", "Changes", "What is written", "Who can be turned
-- down"; document 02, cards 3 and 7).
use Rattle.std.specs.Prelude.{Option, ℕ, ◌+◌, Bool, true, not, ◌||◌, List, [], ◌∷◌, ◌++◌, leb, ltb}
use Rattle.rights.specs.Labels.{same_label, restricted}
use Rattle.rights.specs.Nodes.{Nodes}
use Rattle.rights.specs.PathReader.{path_of}
use Rattle.rights.specs.Policy.{policy_word, some}
use Rattle.rights.specs.PolicyBytes.{policy_of, subject_count, isa_count, rule_count}
use Rattle.rights.specs.Table.{records, label, day_ok, window_ok}
use Rattle.views.specs.Change.{chunks, lower, deepest, too_deep, has_room, free}
use Rattle.rights.specs.Marks.{mark_count, keep}
use Rattle.views.specs.declared.done.Change.{Change}
use Rattle.views.specs.declared.done.Change.TheVariants as change
use Rattle.views.specs.declared.insert.Place.{Place}
use Rattle.views.specs.declared.insert.Place.TheVariants.{Append, After, Before}
use Rattle.answers.specs.Answer.{ok_text, done_text, query_text, find_text, view_text}
use Rattle.answers.specs.Sheet.{sheet_text}
use Rattle.lines.specs.Effect.{Work, guarded, policy, root, insertion, renaming, removal, redating, login, dating, reading}
use Rattle.lines.specs.PolicyEdit.{is_unknown, number_in, subject_named, isa_held, has_bracket, path_restricted, steps_in, with_subject, with_isa, with_rule}
use Rattle.lines.specs.Refusal.{Check, check, bad_path, bad_name, rule_bracket, policy_full, no_user_yet, banned_label, level_too_deep, table_full, bad_day}
use Rattle.lines.specs.State.{stage_b, stage_d, stage, policy_bytes, policy_in}
use Rattle.lines.specs.UserView.{no_user, not_path, view_in, marks_in, done_in}
use Rattle.lines.specs.declared.queries.Ask.{Ask}
use Rattle.lines.specs.declared.queries.Ask.TheVariants.{Query, Find}

-- Stages A and B: p is the policy's bytes

-- `(subject N)`
abbrev pub subject_checks : List ℕ → List ℕ → List Check
subject_checks p name =
    check bad_name (not (is_unknown (subject_named (policy_of p) name)))
    ∷ check policy_full (leb 64 (subject_count p))
    ∷ check banned_label (same_label name restricted)
    ∷ []

abbrev pub work_subject : List ℕ → List ℕ → Work
work_subject s name =
    record {
      checks = subject_checks (policy_bytes s) name;
      text = ok_text;
      effect = policy (with_subject (policy_bytes s) name) (stage s);
    }

-- `(isa N R)`, from what was found of the names: "R not before N" and "an isa line repeated" are 5 as well
abbrev pub isa_checks : List ℕ → Option ℕ → Option ℕ → List Check
isa_checks p n r =
    check bad_name (is_unknown n)
    ∷ check bad_name (is_unknown r)
    ∷ check bad_name (leb (number_in n) (number_in r))
    ∷ check bad_name (isa_held (policy_of p) (number_in n) (number_in r))
    ∷ check policy_full (leb 128 (isa_count p))
    ∷ []

abbrev pub work_isa : List ℕ → List ℕ → List ℕ → Work
work_isa s member role =
    record {
      checks = isa_checks (policy_bytes s) (subject_named (policy_in s) member) (subject_named (policy_in s) role);
      text = ok_text;
      effect = policy (with_isa (policy_bytes s) (number_in (subject_named (policy_in s) member)) (number_in (subject_named (policy_in s) role))) (stage s);
    }

-- `(rule accept|deny RIGHT PATH N)`: accept is 1 or 0, right the bit of a right
abbrev pub rule_checks : List ℕ → List ℕ → Option ℕ → List Check
rule_checks p path n =
    check bad_path (not_path (path_of path))
    ∷ check bad_name (is_unknown n)
    ∷ check rule_bracket (has_bracket path)
    ∷ check policy_full (leb 128 (rule_count p))
    ∷ check banned_label (path_restricted path)
    ∷ []

abbrev pub work_rule : List ℕ → ℕ → ℕ → List ℕ → List ℕ → Work
work_rule s accept right path name =
    record {
      checks = rule_checks (policy_bytes s) path (subject_named (policy_in s) name);
      text = ok_text;
      effect = policy (with_rule (policy_bytes s) accept right (number_in (subject_named (policy_in s) name)) (steps_in path)) stage_b;
    }

-- Stages C and D

-- `(root L)`: "11 fewer free records than the whole line needs (root 1 ..)"
abbrev pub root_checks : List ℕ → List ℕ → List Check
root_checks t l = check banned_label (same_label l restricted) ∷ check table_full (ltb (free t) 1) ∷ []

abbrev pub work_root : List ℕ → List ℕ → Work
work_root t l = record { checks = root_checks t l; text = ok_text; effect = root l }

-- RESTRICTED is the label of one of the m records of a tree.
unfoldable pub tree_restricted : ℕ → List ℕ → Bool
tree_restricted m tree = some (λ r. same_label (label r) restricted) (chunks m tree)

abbrev pub label_check : ℕ → List ℕ → Check
label_check m tree = check banned_label (tree_restricted m tree)

-- a tree of m records at marked places: "a level above 11 .. at a place that would be done", "fewer free records than the whole line needs (.. insertions D × tree
-- size)"
abbrev pub insert_checks : Place → List Bool → ℕ → List ℕ → List ℕ → List Check
insert_checks place marks m tree t =
    check level_too_deep (too_deep (lower place + deepest (chunks m tree)) marks (records t))
    ∷ check table_full (not (has_room t marks m))
    ∷ []

-- with its answer and the stage afterwards
abbrev pub insert_at : Place → List Bool → ℕ → List ℕ → List ℕ → ℕ → List ℕ → Work
insert_at place marks m tree text g t =
    record { checks = insert_checks place marks m tree t; text = text; effect = insertion place marks m tree g }

-- the root alone is marked: no node beyond the marks is
abbrev pub root_alone : List Bool
root_alone = true ∷ []

-- `(child TREE)`: "last child of the root"
abbrev pub work_child : List ℕ → ℕ → List ℕ → Work
work_child t m tree = guarded (label_check m tree ∷ []) (insert_at Append root_alone m tree ok_text stage_d t)

-- Stage E

-- `(user N)`
abbrev pub user_checks : Option ℕ → List Check
user_checks n = check bad_name (is_unknown n) ∷ []

abbrev pub work_user : List ℕ → List ℕ → Work
work_user s name =
    record {
      checks = user_checks (subject_named (policy_in s) name);
      text = ok_text;
      effect = login (number_in (subject_named (policy_in s) name));
    }

-- `(day D)` (document 02, card 7): it "sets the session's day .. needs no user"
abbrev pub day_checks : ℕ → List Check
day_checks d = check bad_day (not (day_ok d)) ∷ []

abbrev pub work_day : ℕ → Work
work_day d = record { checks = day_checks d; text = ok_text; effect = dating d }

-- `(view)`
abbrev pub view_checks : List ℕ → List Check
view_checks s = check no_user_yet (no_user s) ∷ []

abbrev pub work_view : List ℕ → List ℕ → Work
work_view s t = record { checks = view_checks s; text = view_text (view_in s t); effect = reading }

-- `(sheet ROOM)` (document 02, card 3): "made from the user's view only"; "Turned away: as a view is."
abbrev pub work_sheet : List ℕ → List ℕ → List ℕ → Work
work_sheet s t room = record { checks = view_checks s; text = sheet_text room (view_in s t); effect = reading }

-- what every form with a path of E asks: the path well formed, then a user
abbrev pub on_view : List ℕ → List ℕ → List Check
on_view path s = check bad_path (not_path (path_of path)) ∷ view_checks s

-- `(query P)` and `(find P)`: the hits are the nodes of the view that the path selects, in document order
abbrev pub answer_to : Ask → Nodes → List ℕ
answer_to Query hits = query_text hits
answer_to Find hits = find_text hits

abbrev pub work_ask : Ask → List ℕ → List ℕ → List ℕ → Work
work_ask ask s t path =
    record { checks = on_view path s; text = answer_to ask (keep (marks_in s t path) (view_in s t)); effect = reading }

-- "The answer is `(done S D)`: S nodes selected, each counted once, D done"
abbrev pub count_text : Change → List ℕ → List ℕ → List ℕ → List ℕ
count_text c s t path = done_text (mark_count (marks_in s t path)) (mark_count (done_in c s t path))

-- `(rename P L)` and `(update P L)`: "RESTRICTED as .. new label, or a policy word as new label of rename or update"
abbrev pub rename_checks : List ℕ → List ℕ → List ℕ → List Check
rename_checks s path l = on_view path s ++ (check banned_label (same_label l restricted || policy_word (policy_in s) l) ∷ [])

abbrev pub work_rename : Change → List ℕ → List ℕ → List ℕ → List ℕ → Work
work_rename c s t path l =
    record { checks = rename_checks s path l; text = count_text c s t path; effect = renaming l (done_in c s t path) }

-- `(append P TREE)`, `(before P TREE)`, `(after P TREE)`
abbrev pub change_at : Place → Change
change_at Append = change.Append
change_at After = change.After
change_at Before = change.Before

-- the checks that come before anything is selected
abbrev pub tree_checks : List ℕ → List ℕ → ℕ → List ℕ → List Check
tree_checks s path m tree = on_view path s ++ (label_check m tree ∷ [])

abbrev pub work_insert : Place → List ℕ → List ℕ → List ℕ → ℕ → List ℕ → Work
work_insert place s t path m tree =
    guarded (tree_checks s path m tree) (insert_at place (done_in (change_at place) s t path) m tree (count_text (change_at place) s t path) (stage s) t)

-- `(remove P)`
abbrev pub work_remove : List ℕ → List ℕ → List ℕ → Work
work_remove s t path =
    record { checks = on_view path s; text = count_text change.Remove s t path; effect = removal (done_in change.Remove s t path) }

-- `(window P F T)` (document 02, card 7): "15, after 10, for a day outside 1 to 366 or F after T", whatever is selected
abbrev pub window_checks : List ℕ → List ℕ → ℕ → ℕ → List Check
window_checks s path first last = on_view path s ++ (check bad_day (not (window_ok first last)) ∷ [])

abbrev pub work_window : List ℕ → List ℕ → List ℕ → ℕ → ℕ → Work
work_window s t path first last =
    record {
      checks = window_checks s path first last;
      text = count_text change.Window s t path;
      effect = redating first last (done_in change.Window s t path);
    }
