-- The seven changes: what is decided before anything changes, and what the table becomes. Assumes nothing.
use Prim.Native.Nat.{ℕ, ◌-◌, ◌≤◌}
use mathlib.Core.Bool.{Bool, true}
use mathlib.Core.Path.{◌≡◌, sym, ap, ◌∙◌}
use mathlib.Core.List.{List, ◌++◌, map}
use native.Mathlib.Omega.{arith}
use lib.ListN.{length, take, drop, length-map, length-append}
use lib.Seq.{take_at, take-length}
use Rattle.rights.specs.Marks.{bit, marks_of, mark_count}
use Rattle.rights.specs.Policy.{policy_word}
use Rattle.rights.specs.PolicyBytes.{policy_of}
use Rattle.rights.specs.PolicyCheck.{policy_ok}
use Rattle.rights.specs.Table.{count, records, table_ok}
use Rattle.rights.proofs.TableLaws.{table_few}
use Rattle.rights.proofs.ListLaws.{rest_of}
use Rattle.views.specs.Change.{changed, renamed, redated, removed}
use Rattle.views.specs.Done.{done_marks}
use Rattle.views.specs.How.Numbers.{shown_by_numbers, by_numbers, DoneBy, shown_numbers}
use Rattle.views.specs.Shown.{shown}
use Rattle.views.specs.declared.done.Change.{Change}
use Rattle.views.specs.declared.insert.Place.{Place}
use Rattle.views.proofs.DoneLaws.{numbers_shown, numbers_in_table, done_length}
use Rattle.rights.proofs.MarkLaws.{marks_bits, marks_take}
use Rattle.answers.specs.Answer.{done_text}
use Rattle.answers.specs.How.AnswerArea.{Answered, written}
use Rattle.lines.specs.How.ChangeRoom.{Chosen, RightsHeld, MarkedFor, Decided}
use Rattle.lines.specs.State.{stage, day_in, policy_in, store_ok}
use Rattle.lines.specs.UserView.{rights_in, stored_in, marks_in, selected_in, done_in}
use Rattle.lines.specs.Work.{change_at, count_text, insert_at}
use Rattle.lines.proofs.StateLaws.{store_held}
use Rattle.lines.proofs.UserViewLaws.{rights-length, marks_are}

-- the part of an area that was written
pub part_fits : (xs more ys : List ℕ) (n : ℕ) → ys ≡ xs ++ more → length xs ≡ n → n ≤ length ys
part_fits xs more ys n e h = omega (arith, ap length e, length-append xs more)

pub part_is : (xs more ys : List ℕ) (n : ℕ) → ys ≡ xs ++ more → length xs ≡ n → take (n - 0) (drop 0 ys) ≡ xs
part_is xs more ys n e h =
    let z : n - 0 ≡ n = omega arith in
    rw (z, e) (take_at xs more n h)

-- an answer that equals another
answered_as : (a b before after : List ℕ) (need : ℕ) → a ≡ b → Answered a before after need → Answered b before after need
answered_as a b before after need e r = record { size = r.size ∙ ap length e; area = r.area ∙ ap (λ x. written x before) e }

-- What is selected and done
module _ (s t path : List ℕ) (ok : store_ok s t ≡ true) (rights shown marks rights' shown' marks' : List ℕ) (k : ℕ)
    (r : Chosen s t path shown marks k shown' marks') (held : RightsHeld s t rights rights') where
  picked_part : marks_of (take (k - 0) (drop 0 marks')) ≡ marks_in s t path
  picked_part = marks_are s t path marks' (drop k marks) k ok r.size r.picked

  pub selected-count : (n : ℕ) → n ≡ mark_count (take k (marks_of marks')) → n ≡ mark_count (marks_in s t path)
  selected-count n e = let z : k - 0 ≡ k = omega arith in e ∙ ap mark_count (sym (marks_take k marks') ∙ (rw z at picked_part))

  module _ (n : ℕ) (e : n ≡ count t) where
    pub rights_part : take (n - 0) (drop 0 rights') ≡ rights_in s t
    rights_part = part_is (rights_in s t) (drop (count t) rights) rights' n held (rights-length s t ∙ sym e)

    pub rights-reach : n ≤ length rights'
    rights-reach = part_fits (rights_in s t) (drop (count t) rights) rights' n held (rights-length s t ∙ sym e)

    pub done_asks : (done : List ℕ) → length done ≡ 16384
        → (policy_ok (take (length s - 8) (drop 8 s)) ≡ true) × (table_ok t ≡ true) × (count t ≤ length (take (n - 0) (drop 0 rights'))) × (count t ≤ length done)
    done_asks done h =
        let g = store_held s t ok in
        let p : policy_ok (take (length s - 8) (drop 8 s)) ≡ true = rw (rest_of s 8) g.policy in
        (p, g.table, omega (arith, ap length rights_part, rights-length s t), omega (arith, table_few t g.table, h))

    pub done_records : (c : Change) (done done' : List ℕ)
        → DoneBy c (take (length s - 8) (drop 8 s)) t (take (n - 0) (drop 0 rights')) (take (k - 0) (drop 0 shown')) (take (k - 0) (drop 0 marks')) done done'
        → done' ≡ map bit (done_in c s t path) ++ drop (count t) done
    done_records c done done' q =
        let g = store_held s t ok in
        let few : count t ≤ length (rights_in s t) = omega (arith, rights-length s t) in
        let x : take (k - 0) (drop 0 shown') ≡ shown_numbers (stored_in s t) = part_is (shown_numbers (stored_in s t)) (drop k shown) shown' k r.numbers (sym r.size) in
        q
        ∙ ap (λ p. map bit (done_marks c (policy_word (policy_of p)) t (take (n - 0) (drop 0 rights')) (shown_by_numbers (take (k - 0) (drop 0 shown')) (count t) 0) (by_numbers (take (k - 0) (drop 0 shown')) (marks_of (take (k - 0) (drop 0 marks'))) (count t) 0)) ++ drop (count t) done) (rest_of s 8)
        ∙ rw (rights_part, x, picked_part, numbers_shown (day_in s) t (rights_in s t) g.table few, numbers_in_table (day_in s) t (rights_in s t) g.table few (marks_in s t path))

-- The marks of the records that are done
pub done_size : (c : Change) (s t path : List ℕ) → length (done_in c s t path) ≡ count t
done_size c s t path = done_length c (policy_word (policy_in s)) t (rights_in s t) (shown (stored_in s t)) (selected_in s t path)

module _ (c : Change) (s t path done done' : List ℕ) (n : ℕ) (r : MarkedFor c s t path done done') (e : n ≡ count t) where
  -- the bytes that are handed on, and the marks that they hold
  abbrev part : List ℕ
  part = take (n - 0) (drop 0 done')

  bits_size : length (map bit (done_in c s t path)) ≡ n
  bits_size = length-map (done_in c s t path) bit ∙ done_size c s t path ∙ sym e

  bits_part : part ≡ map bit (done_in c s t path)
  bits_part = part_is (map bit (done_in c s t path)) (drop (count t) done) done' n r bits_size

  pub done_part : marks_of part ≡ done_in c s t path
  done_part = ap marks_of bits_part ∙ marks_bits (done_in c s t path)

  pub done_reach : n ≤ length done'
  done_reach = part_fits (map bit (done_in c s t path)) (drop (count t) done) done' n r bits_size

  pub done_cover : count t ≤ length part
  done_cover = omega (arith, ap length bits_part, bits_size)

  done_count : mark_count (take (count t) (marks_of part)) ≡ mark_count (done_in c s t path)
  done_count =
      ap (λ l. mark_count (take (count t) l)) done_part
      ∙ ap (λ m. mark_count (take m (done_in c s t path))) (sym (done_size c s t path))
      ∙ ap mark_count (take-length (done_in c s t path))

  -- what the table becomes
  pub redated_table : (f l : ℕ) (t' : List ℕ) → t' ≡ changed t (redated f l (marks_of part) (records t))
      → t' ≡ changed t (redated f l (done_in c s t path) (records t))
  redated_table f l t' q = q ∙ ap (λ x. changed t (redated f l x (records t))) done_part

  pub renamed_table : (l t' : List ℕ) → t' ≡ changed t (renamed l (marks_of part) (records t)) → t' ≡ changed t (renamed l (done_in c s t path) (records t))
  renamed_table l t' q = q ∙ ap (λ x. changed t (renamed l x (records t))) done_part

  pub removed_table : (t' : List ℕ) → t' ≡ changed t (removed (marks_of part) (records t)) → t' ≡ changed t (removed (done_in c s t path) (records t))
  removed_table t' q = q ∙ ap (λ x. changed t (removed x (records t))) done_part

-- with how many are selected
module _ (c : Change) (s t path done done' : List ℕ) (k n : ℕ) (r : Decided c s t path done k done') (e : n ≡ count t) where
  abbrev marked : List Bool
  marked = marks_of (part c s t path done done' n r.marks e)

  done_text_lem : done_text k (mark_count (take (count t) marked)) ≡ count_text c s t path
  done_text_lem = ap (λ m. done_text m (mark_count (take (count t) marked))) r.size ∙ ap (done_text (mark_count (marks_in s t path))) (done_count c s t path done done' n r.marks e)

  pub done_answered : (before after : List ℕ) (need : ℕ) → Answered (done_text k (mark_count (take (count t) marked))) before after need
      → Answered (count_text c s t path) before after need
  done_answered before after need a = answered_as _ (count_text c s t path) before after need done_text_lem a

  -- an insertion at the places that are done
  pub insert_parts : (place : Place) → c ≡ change_at place → (m : ℕ) (tree : List ℕ)
      → insert_at place (done_in (change_at place) s t path) m tree (count_text (change_at place) s t path) (stage s) t
      ≡ insert_at place marked m tree (done_text k (mark_count (take (count t) marked))) (stage s) t
  insert_parts place q m tree =
      ap (λ x. insert_at place (done_in x s t path) m tree (count_text x s t path) (stage s) t) (sym q)
      ∙ ap (λ x. insert_at place x m tree (count_text c s t path) (stage s) t) (sym (done_part c s t path done done' n r.marks e))
      ∙ ap (λ x. insert_at place marked m tree x (stage s) t) (sym done_text_lem)

-- D, counted
pub answered-count : (t done before after : List ℕ) (k n d need : ℕ) → n ≡ count t → d ≡ mark_count (take n (marks_of done)) → Answered (done_text k d) before after need
    → Answered (done_text k (mark_count (take (count t) (marks_of done)))) before after need
answered-count t done before after k n d need e q a =
    answered_as (done_text k d) _ before after need (ap (done_text k) (q ∙ ap (λ m. mark_count (take m (marks_of done))) e)) a
