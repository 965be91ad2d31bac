-- Answers and checks of the forms: how long an answer can be, and which numbers a form's own checks have. Assumes nothing.
use Prim.Native.Nat.{ℕ, suc, ◌+◌, ◌*◌, ◌≤◌}
use mathlib.Core.Path.{◌≡◌}
use mathlib.Core.Bool.{Bool, true, false, ◌&&◌, ◌||◌}
use mathlib.Core.List.{List, [], ◌∷◌, map}
use native.Mathlib.Omega.{arith}
use lib.Dec.{eqb}
use lib.ListN.{length, get_or, drop, length-map, length-take}
use Rattle.rights.specs.Bytes.{within}
use Rattle.rights.specs.Marks.{keep, mark_count}
use Rattle.rights.specs.Nodes.{node}
use Rattle.rights.specs.Policy.{read}
use Rattle.rights.specs.Rights.{holds}
use Rattle.rights.specs.Table.{count, records, record_ok, records_ok, level, table_ok}
use Rattle.rights.proofs.ListLaws.{by_case}
use Rattle.rights.proofs.TableLaws.{both, sound}
use Rattle.views.specs.Shown.{Stored, stored_from, stored_level, shown, carried}
use Rattle.views.specs.How.Numbers.{shown_number}
use Rattle.views.specs.declared.done.Change.{Change}
use Rattle.views.proofs.TableLaws.{facts}
use Rattle.views.proofs.ViewLaws.{view-nested, keep-length, shown_few}
use Rattle.answers.proofs.AnswerLengths.{AllSmall, small_kept, query_most, find_most, done_most, view_most}
use Rattle.lines.specs.Refusal.{Check}
use Rattle.lines.specs.State.{day_in, store_ok}
use Rattle.lines.specs.UserView.{rights_in, stored_in, view_in, marks_in, done_in}
use Rattle.answers.specs.Answer.{ok_text, view_text}
use Rattle.answers.specs.Sheet.{sheet_text}
use Rattle.answers.proofs.SheetLaws.{sheet_length}
use Rattle.lines.specs.Work.{count_text, answer_to}
use Rattle.lines.specs.declared.queries.Ask.{Ask}
use Rattle.lines.specs.declared.queries.Ask.TheVariants.{Query, Find}
use Rattle.lines.proofs.ChangeLaws.{done_size}
use Rattle.lines.proofs.StateLaws.{store_held}
use Rattle.lines.proofs.UserViewLaws.{marks_size}

-- Nodes of a view are as a table holds them

carried_short : (low high : ℕ) (x : Stored) → record_ok low high x.bytes ≡ true → length (carried x) ≤ 24
carried_short low high x e =
    by_case (holds read x.rights)
    (λ q. rw q (omega (arith, length-take (get_or x.bytes 1 0) (drop 2 x.bytes), (sound low high x.bytes e).short_label)))
    (λ q. rw q (omega arith))

small_from : (low high d i : ℕ) (rs : List (List ℕ)) (ss : List ℕ) (ms : List Bool) → records_ok low high rs ≡ true
    → AllSmall (map (λ x. node (stored_level x) (carried x)) (keep ms (stored_from d i rs ss)))
unfolding records_ok stored_from keep
small_from low high d i rs ss [] e = tt
small_from low high d i [] ss (m ∷ ms) e = tt
small_from low high d i (r ∷ rs) [] (m ∷ ms) e = tt
small_from low high d i (r ∷ rs) (s ∷ ss) (m ∷ ms) e =
    let f = both (record_ok low high r) _ e in
    let x : Stored = record { number = i; bytes = r; rights = s; day = d } in
    let rest = small_from 1 (level r + 1) d (suc i) rs ss ms f.1 in
    by_case m (λ q. rw q (((sound low high r f.0).low_level, carried_short low high x f.0), rest)) (λ q. rw q rest)

few_marks : (ms : List Bool) → mark_count ms ≤ length ms
few_marks [] = omega arith
few_marks (true ∷ ms) = let h = few_marks ms in omega arith
few_marks (false ∷ ms) = let h = few_marks ms in omega arith

-- Every answer fits into 12 bytes and 35 for each record in use, if these are not fewer than a sheet has.
abbrev pub Room : List ℕ → ℕ → Type 0
Room t n = (12 + 35 * count t ≤ n) × (657 ≤ n)

pub sheet_most : (s t room : List ℕ) (n : ℕ) → Room t n → length (sheet_text room (view_in s t)) ≤ n
sheet_most s t room n h = omega (arith, h.1, sheet_length room (view_in s t))

pub ok_most : (t : List ℕ) (n : ℕ) → Room t n → length ok_text ≤ n
ok_most t n h = omega (arith, h.0)

module _ (s t : List ℕ) (ok : store_ok s t ≡ true) where
  table_ok_lem : table_ok t ≡ true
  table_ok_lem = (store_held s t ok).table

  view_small : AllSmall (view_in s t)
  view_small = small_from 0 0 (day_in s) 0 (records t) (rights_in s t) (shown (stored_in s t)) (facts t table_ok_lem).nested

  view_few : length (view_in s t) ≤ count t
  view_few =
      omega (
        arith,
        length-map (keep (shown (stored_in s t)) (stored_in s t)) (λ x. node (stored_level x) (carried x)),
        length-map (keep (shown (stored_in s t)) (stored_in s t)) shown_number,
        shown_few (day_in s) t (rights_in s t) table_ok_lem,
      )

  pub count_most : (c : Change) (path : List ℕ) (n : ℕ) → Room t n → length (count_text c s t path) ≤ n
  count_most c path n h =
      omega (
        arith,
        h.0,
        done_most (mark_count (marks_in s t path)) (mark_count (done_in c s t path)) (count t)
            (omega (arith, few_marks (marks_in s t path), marks_size s t path ok, shown_few (day_in s) t (rights_in s t) table_ok_lem))
            (omega (arith, few_marks (done_in c s t path), done_size c s t path)),
      )

  pub shows_most : (n : ℕ) → Room t n → length (view_text (view_in s t)) ≤ n
  shows_most n h =
      omega (arith, h.0, view_most (view_in s t) (view-nested (day_in s) t (rights_in s t) table_ok_lem) view_small (omega (arith, (facts t table_ok_lem).few, view_few)), view_few)

  pub ask_most : (what : Ask) (path : List ℕ) (n : ℕ) → Room t n → length (answer_to what (keep (marks_in s t path) (view_in s t))) ≤ n
  ask_most Query path n h =
      let ms = marks_in s t path in
      omega (arith, h.0, query_most (keep ms (view_in s t)) (small_kept ms (view_in s t) view_small), keep-length ms (view_in s t), view_few)
  ask_most Find path n h =
      let ms = marks_in s t path in
      omega (arith, h.0, find_most (keep ms (view_in s t)) (small_kept ms (view_in s t) view_small), keep-length ms (view_in s t), view_few)

-- a form's own checks have the numbers 2 to 11 and 15
abbrev pub own : List Check → Bool
own [] = true
own (c ∷ cs) = (within 2 11 c.number || eqb c.number 15) && own cs
