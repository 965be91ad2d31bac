-- Laws of a window that is set. Assumes nothing.
use mathlib.Core.Path.{◌≡◌, sym, ap, ap₂, ◌∙◌}
use mathlib.Core.List.{List, ◌++◌, append_assoc}
use mathlib.Core.Bool.{true, ◌&&◌}
use Prim.Native.Nat.{ℕ, ◌+◌, ◌*◌, ◌/◌, ◌%◌, ◌≤◌, ◌<◌}
use native.Mathlib.Omega.{arith}
use borrow.Author.Tests.{lt-ltb}
use lib.Dec.{leb}
use lib.ListN.{length, get_or, take, drop}
use lib.Seq.{take_at, drop_at, take-take, drop-drop, length-take-le, get_or-take, get_or-drop}
use Rattle.rights.specs.Table.{level, label, first_day, last_day, window_ok, label_part_ok, spare_ok, record_ok}
use Rattle.rights.specs.Record.{window_bytes}
use Rattle.rights.proofs.RecordLaws.{length-pasted}
use Rattle.rights.proofs.RecordsOkLaws.{record_yes}
use Rattle.rights.proofs.TableLaws.{label_sound, record_levels, record_parts, spare-zeros}
use Rattle.rights.proofs.TextLaws.{drop-take}
use Rattle.views.specs.Change.{redate}
use Rattle.views.specs.Shown.{in_window}

module _ (f l : ℕ) (r : List ℕ) (full : length r ≡ 32) where
  apart : redate f l r ≡ take 26 r ++ (window_bytes f l ++ drop 30 r)
  apart = append_assoc (take 26 r) (window_bytes f l) (drop 30 r)

  length_before : length (take 26 r) ≡ 26
  length_before = length-take-le 26 r (omega (arith, full))

  before-window : take 26 (redate f l r) ≡ take 26 r
  before-window = ap (take 26) apart ∙ take_at (take 26 r) (window_bytes f l ++ drop 30 r) 26 length_before

  from_window : drop 26 (redate f l r) ≡ window_bytes f l ++ drop 30 r
  from_window = ap (drop 26) apart ∙ drop_at (take 26 r) (window_bytes f l ++ drop 30 r) 26 length_before

  byte_before : (k : ℕ) → k < 26 → get_or (redate f l r) k 0 ≡ get_or r k 0
  byte_before k h = sym (get_or-take 26 (redate f l r) k 0 h) ∙ ap (λ (q : List ℕ). get_or q k 0) before-window ∙ get_or-take 26 r k 0 h

  byte_from : (k : ℕ) → get_or (redate f l r) (26 + k) 0 ≡ get_or (window_bytes f l ++ drop 30 r) k 0
  byte_from k = sym (get_or-drop 26 (redate f l r) k 0) ∙ ap (λ (q : List ℕ). get_or q k 0) from_window

  text_before : take 24 (drop 2 (redate f l r)) ≡ take 24 (drop 2 r)
  text_before = sym (drop-take 2 24 (redate f l r)) ∙ ap (drop 2) before-window ∙ drop-take 2 24 r

  -- level and label stay
  pub level-redate : level (redate f l r) ≡ level r
  level-redate = byte_before 0 (omega arith)

  pub label-redate : get_or r 1 0 ≤ 24 → label (redate f l r) ≡ label r
  label-redate h =
      ap (λ (n : ℕ). take n (drop 2 (redate f l r))) (byte_before 1 (omega arith))
      ∙ sym (take-take (get_or r 1 0) 24 (drop 2 (redate f l r)) h)
      ∙ ap (take (get_or r 1 0)) text_before
      ∙ take-take (get_or r 1 0) 24 (drop 2 r) h

  pub length-redate : length (redate f l r) ≡ 32
  length-redate = length-pasted r (window_bytes f l) 26 (omega (arith, full)) ∙ full

  -- the window is the one that was set
  pub first_redate : first_day (redate f l r) ≡ f
  first_redate =
      let whole : f % 256 + f / 256 * 256 ≡ f = omega arith in
      ap₂ (λ (a b : ℕ). a + b * 256) (byte_from 0) (byte_from 1) ∙ whole

  pub last_redate : last_day (redate f l r) ≡ l
  last_redate =
      let whole : l % 256 + l / 256 * 256 ≡ l = omega arith in
      ap₂ (λ (a b : ℕ). a + b * 256) (byte_from 2) (byte_from 3) ∙ whole

  pub in_window_redate : (d : ℕ) → in_window d (redate f l r) ≡ leb f d && leb d l
  in_window_redate d = ap₂ (λ (a b : ℕ). leb a d && leb d b) first_redate last_redate

  -- a record below the root still passes the check
  label_part : label_part_ok r ≡ true → label_part_ok (redate f l r) ≡ true
  unfolding label_part_ok
  label_part e = let short = (label_sound r e).1 in rw (label-redate short, text_before, byte_before 1 (omega arith)) e

  spare_part : window_ok f l ≡ true → 1 ≤ level r → spare_ok r ≡ true → spare_ok (redate f l r) ≡ true
  unfolding spare_ok
  spare_part w h e =
      let end : drop 30 (redate f l r) ≡ drop 30 r = sym (drop-drop 4 26 (redate f l r)) ∙ ap (drop 4) from_window in
      rw (first_redate, last_redate, level-redate, end, w, lt-ltb 0 (level r) h, spare-zeros r e)

  pub redate-ok : window_ok f l ≡ true → 1 ≤ level r → record_ok 0 11 r ≡ true → record_ok 0 11 (redate f l r) ≡ true
  redate-ok w h e =
      let p = record_parts 0 11 r e in
      let m = (record_levels 0 11 r e).2 in
      record_yes 0 11 (redate f l r) (omega arith) (rw level-redate m) (rw level-redate m) ∙ rw (label_part p.0, spare_part w h p.1)
