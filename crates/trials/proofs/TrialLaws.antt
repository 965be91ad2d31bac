-- What a call that may ask is known to have. Assumes nothing.
use Rattle.std.specs.Prelude.{Some, None, Ok, Err, is_some}
use Prim.Native.Nat.{ℕ, ◌≤◌, ◌<◌}
use mathlib.Core.Bool.{Bool, true, false, and-eq-true_iff}
use mathlib.Core.Path.{◌≡◌, refl, ap, ◌∙◌}
use mathlib.Core.List.{List, ◌++◌, map}
use native.Mathlib.Omega.{arith}
use borrow.Author.Tests.{leb-true, ltb-true, le-leb, lt-leb, lt-ltb, le-ltb}
use lib.Dec.{leb}
use lib.ListN.{length, drop}
use Rattle.rights.specs.Bytes.{all}
use Rattle.rights.specs.How.Numbers.{Fits, view_of}
use Rattle.rights.specs.Path.{Path}
use Rattle.rights.specs.PathReader.{Got, got, bad, path_of}
use Rattle.rights.specs.How.Reading.{place_of}
use Rattle.rights.specs.Isa.{passes_own}
use Rattle.rights.specs.Policy.{policy_word}
use Rattle.rights.specs.PolicyBytes.{policy_of, subject_count}
use Rattle.rights.specs.How.Roles.{Declared, Own, name_among}
use Rattle.rights.specs.PolicyCheck.{policy_ok}
use Rattle.rights.specs.Rights.{rights_on}
use Rattle.rights.specs.Marks.{bit}
use Rattle.rights.specs.How.Selection.{selection, Selects}
use Rattle.rights.specs.Table.{table_ok, count, records}
use Rattle.rights.proofs.TableLaws.{both}
use Rattle.rights.proofs.ListLaws.{all_at}
use Rattle.rights.proofs.NodeLaws.{table_fits}
use Rattle.rights.proofs.OwnNames.{own-passes}
use Rattle.rights.proofs.PassLaws.{view-length}
use Rattle.rights.proofs.SoundLaws.{policy_sound}
use Rattle.trials.specs.declared.TrialError.TheVariants.{NotWellFormed, NotAsked}
use Rattle.trials.specs.Trials.{either, word_answer, asks, asks_rights, RightsAnswered, below, asks_nodes, SelectionAnswered}

-- a checked policy is as long as it has to be
pub policy_long : (p : List ℕ) → policy_ok p ≡ true → 0 < length p
policy_long p e = let s = policy_sound p e in omega (arith, s.size)

module _ (p : List ℕ) (u : ℕ) (t : List ℕ) where
  pub asks_no_policy : policy_ok p ≡ false → asks p u t ≡ false
  unfolding asks
  asks_no_policy e = rw e

  pub asks_no_subject : policy_ok p ≡ true → subject_count p ≤ u → asks p u t ≡ false
  unfolding asks
  asks_no_subject e h = rw (e, le-ltb _ _ h)

  pub asks_table : policy_ok p ≡ true → u < subject_count p → asks p u t ≡ table_ok t
  unfolding asks
  asks_table e h = rw (e, lt-ltb _ _ h)

  -- what may be asked about
  pub asks_gives : asks p u t ≡ true → (policy_ok p ≡ true) × (u < subject_count p) × (table_ok t ≡ true)
  unfolding asks
  asks_gives e = let f = simp (asks, and-eq-true_iff) at e in (f.0, ltb-true _ _ f.1.0, f.1.1)

  pub asks_subject : asks p u t ≡ true → Declared p u
  asks_subject e = let g = asks_gives e in record { policy = g.0; subject = g.1 }

  module _ (room : ℕ) where
    pub rights_gives : asks_rights p u t room ≡ true → (asks p u t ≡ true) × (count t ≤ room)
    unfolding asks_rights
    rights_gives e = let f = both (asks p u t) _ e in (f.0, leb-true _ _ f.1)

    module _ (shown : List ℕ) where
      pub nodes_gives : asks_nodes p u t shown room ≡ true → (asks p u t ≡ true) × (length shown ≤ 16384) × (length shown ≤ room) × (all (below (count t)) shown ≡ true)
      unfolding asks_nodes
      nodes_gives e =
          let f = both (asks p u t) _ e in
          let g = both (leb (length shown) 16384) _ f.1 in
          let h = both (leb (length shown) room) _ g.1 in
          (f.0, leb-true _ _ g.0, leb-true _ _ h.0, h.1)

-- every number that passed is one of n
pub nodes_fit : (p : List ℕ) (u : ℕ) (t : List ℕ) (room : ℕ) (shown : List ℕ) → asks_nodes p u t shown room ≡ true → Fits t shown
nodes_fit p u t room shown e =
    let g = nodes_gives p u t room shown e in
    table_fits t (asks_gives p u t g.0).2 shown g.1 (λ i h. ltb-true _ _ (all_at (below (count t)) shown g.3 i h))

-- Answers

either_read : {A : Type 0} (g : Got Path) (i : ℕ) (x y : A) → place_of g ≡ Some i → either g x y ≡ x
either_read (got p e) i x y h = refl
either_read bad i x y h = absurd (let z : ◌≡◌ {A = ℕ} 0 1 = cc in omega arith)

either_bad : {A : Type 0} (g : Got Path) (x y : A) → place_of g ≡ None → either g x y ≡ y
either_bad (got p e) x y h = absurd (let z : ◌≡◌ {A = ℕ} 0 1 = cc in omega arith)
either_bad bad x y h = refl

pub path_told : (g : Got Path) → is_some (place_of g) ≡ either g true false
path_told (got p e) = refl
path_told bad = refl

module _ (p label : List ℕ) where
  pub word_told : policy_ok p ≡ true → (b : Bool) → b ≡ policy_word (policy_of p) label → Some b ≡ word_answer p label
  word_told e b h = rw (e, h)

module _ (p : List ℕ) (u : ℕ) (t : List ℕ) (before : List ℕ) where
  pub rights_done : asks_rights p u t (length before) ≡ true → (n : ℕ) → n ≡ count t → (after : List ℕ) → after ≡ rights_on (policy_of p) u (records t) ++ drop (count t) before
      → RightsAnswered p u t before after (Some n)
  rights_done e n q after h = record { answer = rw (e, q); out = rw e h }

  pub rights-refused : asks_rights p u t (length before) ≡ false → RightsAnswered p u t before before None
  rights-refused e = record { answer = rw e; out = rw e }

  module _ (shown s : List ℕ) where
    pub nodes_done : asks_nodes p u t shown (length before) ≡ true → (i : ℕ) → place_of (path_of s) ≡ Some i → (own after : List ℕ) → Own p u own
        → Selects (view_of t shown) (name_among p own) s before after → SelectionAnswered p u t shown s before after (Ok (length shown))
    nodes_done e i q own after o found =
        let h = found ∙ ap (λ mine. map bit (selection s mine (view_of t shown)) ++ drop (length (view_of t shown)) before) (own-passes o) in
        record {
          answer = rw (e, either_read (path_of s) i _ _ q);
          marks = rw (e, ← (view-length t shown), either_read (path_of s) i (map bit (selection s (passes_own (policy_of p) u) (view_of t shown)) ++ drop (length (view_of t shown)) before) before q) h;
        }

    pub nodes_bad : asks_nodes p u t shown (length before) ≡ true → place_of (path_of s) ≡ None → SelectionAnswered p u t shown s before before (Err NotWellFormed)
    nodes_bad e q = record {
      answer = rw (e, either_bad (path_of s) _ _ q);
      marks = rw (e, either_bad (path_of s) (map bit (selection s (passes_own (policy_of p) u) (view_of t shown)) ++ drop (length shown) before) before q);
    }

    pub nodes_refused : asks_nodes p u t shown (length before) ≡ false → SelectionAnswered p u t shown s before before (Err NotAsked)
    nodes_refused e = record { answer = rw e; marks = rw e }

module _ (p : List ℕ) (u : ℕ) (t : List ℕ) (room : ℕ) where
  pub asked_room : asks p u t ≡ true → asks_rights p u t room ≡ leb (count t) room
  unfolding asks_rights
  asked_room e = rw e

  pub asked-none : asks p u t ≡ false → asks_rights p u t room ≡ false
  unfolding asks_rights
  asked-none e = rw e

  module _ (shown : List ℕ) where
    pub nodes_below : asks p u t ≡ true → length shown ≤ 16384 → length shown ≤ room → asks_nodes p u t shown room ≡ all (below (count t)) shown
    unfolding asks_nodes
    nodes_below e a b = rw (e, le-leb _ _ a, le-leb _ _ b)

    pub nodes_crowded : asks p u t ≡ true → length shown ≤ 16384 → room < length shown → asks_nodes p u t shown room ≡ false
    unfolding asks_nodes
    nodes_crowded e a b = rw (e, le-leb _ _ a, lt-leb _ _ b)

    pub nodes_many : asks p u t ≡ true → 16384 < length shown → asks_nodes p u t shown room ≡ false
    unfolding asks_nodes
    nodes_many e a = rw (e, lt-leb _ _ a)

    pub nodes_none : asks p u t ≡ false → asks_nodes p u t shown room ≡ false
    unfolding asks_nodes
    nodes_none e = rw e
