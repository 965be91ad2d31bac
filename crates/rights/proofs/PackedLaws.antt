-- A group's steps in numbers: none, one step more, the end of a path, and the bits of `$` in the rows. Assumes nothing.
use Prim.Native.Nat.{ℕ, suc, zero, ◌+◌, ◌*◌, ◌^◌, ◌<◌}
use mathlib.Core.Bool.{Bool, true, false, ◌&&◌, ◌||◌, cond, and-true, and-false, or-false, or-true, and_comm, or_comm, or_assoc, and-or_distrib_left}
use mathlib.Core.Path.{◌≡◌, refl, sym, ap, ap₂, ◌∙◌}
use mathlib.Core.List.{List, [], ◌∷◌, ◌++◌, append_assoc}
use native.Mathlib.Nat.{add-zero, zero-add, add-suc, suc-add}
use native.Mathlib.Numerals.{add-one}
use native.Mathlib.Omega.{arith}
use borrow.Author.Tests.{eqb-true, eqb-false, ltb-true}
use lib.Bits.{bit_or}
use lib.Dec.{eqb, eqb-suc-suc, eqb-zero-suc, eqb-suc-zero}
use lib.ListN.{length, get_or, set, length-append, length-set}
use lib.Seq.{get_or-set_same, get_or-set_other}
use Rattle.rights.specs.Labels.{same_label}
use Rattle.rights.specs.Path.{is_descendant}
use Rattle.rights.specs.Rights.{Step, step_for}
use Rattle.rights.specs.Table.{rec_at, label}
use Rattle.rights.specs.Policy.{Rule, some, uses}
use Rattle.rights.specs.PolicyBytes.{name_at, step_of, axis_of, rule_count, step_count, steps_at, stored_path}
use Rattle.rights.specs.How.Roles.{name_among}
use Rattle.rights.specs.How.Automaton.{deeps, passed_by, steps_for}
use Rattle.rights.specs.How.Groups.{bit_at, never, Packed, Noted, Known, Listed, Ready}
use Rattle.rights.specs.How.Vocabulary.{listed_word, listed_number, Sorted}
use Rattle.rights.proofs.OwnNames.{some_at}
use Rattle.rights.proofs.LabelLaws.{same_self}
use Rattle.rights.proofs.PolicyWords.{step_found, rule_found, uses-label}
use Rattle.rights.proofs.StateMaskLaws.{length-steps}
use Rattle.rights.proofs.ListLaws.{by_case}
use Rattle.rights.proofs.TextLaws.{first_at, passes_any, passes-mine, passes-label}
use Rattle.rights.proofs.BitLaws.{bit_at_or, bit_at_one, bit_at_none}
use Rattle.rights.proofs.VocabularyLaws.{number_decides}

-- one step more at the end
pub or-none : (a b : Bool) → a ≡ a || (b && false)
or-none true b = refl
or-none false b = sym (and-false b)

pub deeps_more : (ss : List Step) (s : Step) (j : ℕ) → get_or (deeps (ss ++ (s ∷ []))) j false ≡ get_or (deeps ss) j false || (eqb j (length ss) && s.deep)
unfolding deeps
deeps_more [] s zero = refl
deeps_more [] s (suc j) = ap (λ (b : Bool). b && s.deep) (sym (eqb-suc-zero j))
deeps_more (r ∷ ss) s zero = or-any r.deep ∙ ap (λ (b : Bool). r.deep || (b && s.deep)) (sym (eqb-zero-suc (length ss)))
  where
    or-any : (a : Bool) → a ≡ a || (false && s.deep)
    or-any true = refl
    or-any false = refl
deeps_more (r ∷ ss) s (suc j) = deeps_more ss s j ∙ ap (λ (b : Bool). get_or (deeps ss) j false || (b && s.deep)) (sym (eqb-suc-suc j (length ss)))

pub passed_more : (ss : List Step) (s : Step) (x : List ℕ) (j : ℕ) → get_or (passed_by (ss ++ (s ∷ [])) x) j false ≡ get_or (passed_by ss x) j false || (eqb j (length ss) && s.passed x)
unfolding passed_by
passed_more [] s x zero = refl
passed_more [] s x (suc j) = ap (λ (b : Bool). b && s.passed x) (sym (eqb-suc-zero j))
passed_more (r ∷ ss) s x zero = or-any (r.passed x) ∙ ap (λ (b : Bool). r.passed x || (b && s.passed x)) (sym (eqb-zero-suc (length ss)))
  where
    or-any : (a : Bool) → a ≡ a || (false && s.passed x)
    or-any true = refl
    or-any false = refl
passed_more (r ∷ ss) s x (suc j) = passed_more ss s x j ∙ ap (λ (b : Bool). get_or (passed_by ss x) j false || (b && s.passed x)) (sym (eqb-suc-suc j (length ss)))

pub deeps-length : (ss : List Step) → length (deeps ss) ≡ length ss
unfolding deeps
deeps-length [] = refl
deeps-length (s ∷ ss) = ap suc (deeps-length ss)

or_zero : (a b : Bool) (i : ℕ) → a ≡ a || (b && bit_at 0 i)
or_zero a b i = or-none a b ∙ ap (λ (v : Bool). a || (b && v)) (sym (bit_at_none i))

-- no steps, and rows without a bit
pub packed_none : (number : List ℕ → ℕ) (mine : List ℕ → Bool) (rows : List ℕ) → length rows ≡ 2113 → ((x : List ℕ) → get_or rows (number x) 0 ≡ 0) → Packed number mine [] 0 0 0 rows
unfolding deeps passed_by
packed_none number mine rows e z = record {
  long = e;
  deep_bits = λ j. bit_at_none j;
  row = λ x j. sym (ap₂ ◌||◌ (bit_at_none j) (sym (or_zero _ (mine x) j) ∙ ap (λ (n : ℕ). bit_at n j) (z x) ∙ bit_at_none j));
}

module _ (number : List ℕ → ℕ) (mine : List ℕ → Bool) (ss : List Step) (deep every own : ℕ) (rows : List ℕ) (k : Packed number mine ss deep every own rows) where
  -- nothing is noted for the end of a path
  pub packed_end : Packed number mine (ss ++ (never ∷ [])) deep every own rows
  packed_end = record {
    long = k.long;
    deep_bits = λ j. k.deep_bits j ∙ or-none _ (eqb j (length ss)) ∙ sym (deeps_more ss never j);
    row = λ x j. passed_more ss never x j ∙ sym (or-none _ (eqb j (length ss))) ∙ k.row x j;
  }

  -- the bits of `$` in the rows of the labels that pass it
  pub packed_own : (rows' : List ℕ) → Noted number rows rows' own mine → Packed number mine ss deep every 0 rows'
  packed_own rows' w = record {
    long = w.long ∙ k.long;
    deep_bits = k.deep_bits;
    row = λ x i. k.row x i ∙ ap (λ (b : Bool). bit_at every i || b) (sym (w.row x i) ∙ or_zero _ (mine x) i);
  }

  module _ (s : Step) (j : ℕ) (here : length ss ≡ j) (d : Bool) (e : d ≡ s.deep) where
    deep_more : (i : ℕ) → bit_at (cond d (bit_or deep (2 ^ j)) deep) i ≡ get_or (deeps (ss ++ (s ∷ []))) i false
    deep_more i = go d e ∙ sym (deeps_more ss s i)
      where
        go : (v : Bool) → v ≡ s.deep → bit_at (cond v (bit_or deep (2 ^ j)) deep) i ≡ get_or (deeps ss) i false || (eqb i (length ss) && s.deep)
        go true q = rw (here, ← q) (bit_at_or deep (2 ^ j) i ∙ ap₂ ◌||◌ (k.deep_bits i) (bit_at_one j i ∙ sym (and-true (eqb i j))))
        go false q = rw (← q) (k.deep_bits i ∙ or-none _ (eqb i (length ss)))

    -- the bits that a label has among the steps with s
    passed-new : (x : List ℕ) (i : ℕ) (p : Bool) → s.passed x ≡ p
        → get_or (passed_by (ss ++ (s ∷ [])) x) i false ≡ (bit_at every i || (bit_at (get_or rows (number x) 0) i || (mine x && bit_at own i))) || (p && bit_at (2 ^ j) i)
    passed-new x i p q = passed_more ss s x i ∙ ap₂ ◌||◌ (k.row x i) (and_comm (eqb i (length ss)) (s.passed x) ∙ ap₂ ◌&&◌ q (ap (eqb i) here ∙ sym (bit_at_one j i)))

    -- a step that all labels pass
    pub packed_every : ((x : List ℕ) → s.passed x ≡ true) → Packed number mine (ss ++ (s ∷ [])) (cond d (bit_or deep (2 ^ j)) deep) (bit_or every (2 ^ j)) own rows
    packed_every f = record {
      long = k.long;
      deep_bits = deep_more;
      row = λ x i. passed-new x i true (f x) ∙ rw (bit_at_or every (2 ^ j) i) (go (bit_at every i) (bit_at (2 ^ j) i) _);
    }
      where
        go : (a b r : Bool) → (a || r) || b ≡ (a || b) || r
        go true b r = refl
        go false b r = or_comm r b

    -- a step that is `$`
    pub packed_mine : ((x : List ℕ) → s.passed x ≡ mine x) → Packed number mine (ss ++ (s ∷ [])) (cond d (bit_or deep (2 ^ j)) deep) every (bit_or own (2 ^ j)) rows
    packed_mine f = record {
      long = k.long;
      deep_bits = deep_more;
      row = λ x i. passed-new x i (mine x) (f x) ∙ rw (bit_at_or own (2 ^ j) i, and-or_distrib_left (mine x) (bit_at own i) (bit_at (2 ^ j) i))
          (or_assoc (bit_at every i) _ _ ∙ ap (λ (b : Bool). bit_at every i || b) (or_assoc (bit_at (get_or rows (number x) 0) i) _ _));
    }

    -- a step that the labels of some rows pass
    pub packed_noted : (rows' : List ℕ) (f : List ℕ → Bool) → Noted number rows rows' (2 ^ j) f → ((x : List ℕ) → s.passed x ≡ f x)
        → Packed number mine (ss ++ (s ∷ [])) (cond d (bit_or deep (2 ^ j)) deep) every own rows'
    packed_noted rows' f w same = record {
      long = w.long ∙ k.long;
      deep_bits = deep_more;
      row = λ x i. passed-new x i (f x) (same x) ∙ rw (w.row x i) (go (bit_at every i) (bit_at (get_or rows (number x) 0) i) _ (f x && bit_at (2 ^ j) i));
    }
      where
        go : (a r o b : Bool) → (a || (r || o)) || b ≡ a || ((r || b) || o)
        go true r o b = refl
        go false true o b = refl
        go false false o b = or_comm o b

-- Rows with bits noted for no label, with no bits, for one more test, and for the label of one word

module _ (number : List ℕ → ℕ) (rows : List ℕ) (bits : ℕ) where
  pub noted_none : (f : List ℕ → Bool) → ((x : List ℕ) → f x ≡ false) → Noted number rows rows bits f
  noted_none f e = record { long = refl; row = λ x i. rw (e x) (sym (or-false (bit_at (get_or rows (number x) 0) i))) }

  pub noted_then : (rows' rows'' : List ℕ) (f g h : List ℕ → Bool) → ((x : List ℕ) → h x ≡ f x || g x)
      → Noted number rows rows' bits f → Noted number rows' rows'' bits g → Noted number rows rows'' bits h
  noted_then rows' rows'' f g h e a b = record {
    long = b.long ∙ a.long;
    row = λ x i. b.row x i ∙ ap (λ (v : Bool). v || (g x && bit_at bits i)) (a.row x i)
        ∙ go (bit_at (get_or rows (number x) 0) i) (f x) (g x) (bit_at bits i) ∙ ap (λ (v : Bool). bit_at (get_or rows (number x) 0) i || (v && bit_at bits i)) (sym (e x));
  }
    where
      go : (r a b n : Bool) → (r || (a && n)) || (b && n) ≡ r || ((a || b) && n)
      go true a b n = refl
      go false true b true = refl
      go false true true false = refl
      go false true false false = refl
      go false false b n = refl

module _ (p ws : List ℕ) (n : ℕ) (w rows : List ℕ) (h bits : ℕ) (room : h < length rows) (e : h ≡ listed_number p ws n w) (word : 0 < listed_number p ws n w) where
  pub noted_label : Noted (listed_number p ws n) rows (set rows h (bit_or (get_or rows h 0) bits)) bits (λ x. same_label x w)
  noted_label = record {
    long = length-set rows h _;
    row = λ x i. more (listed_number p ws n x) i
        ∙ ap (λ (b : Bool). bit_at (get_or rows (listed_number p ws n x) 0) i || (b && bit_at bits i)) (ap (eqb (listed_number p ws n x)) e ∙ number_decides (listed_word p ws) n x w word);
  }
    where
      more : (g i : ℕ) → bit_at (get_or (set rows h (bit_or (get_or rows h 0) bits)) g 0) i ≡ bit_at (get_or rows g 0) i || (eqb g h && bit_at bits i)
      more g i =
          by_case (eqb g h)
          (λ q. ap (λ (z : ℕ). bit_at (get_or (set rows h (bit_or (get_or rows h 0) bits)) z 0) i) (eqb-true g h q)
          ∙ ap (λ (z : ℕ). bit_at z i) (get_or-set_same rows h _ 0 room)
          ∙ bit_at_or (get_or rows h 0) bits i
          ∙ ap (λ (z : ℕ). bit_at (get_or rows z 0) i || bit_at bits i) (sym (eqb-true g h q))
          ∙ rw q)
          (λ q. ap (λ (z : ℕ). bit_at z i) (get_or-set_other rows h g _ 0 (eqb-false g h q)) ∙ sym (or-false (bit_at (get_or rows g 0) i)) ∙ rw q)

-- the steps of a path, one more at the end
pub steps_more : (mine : List ℕ → Bool) (p : List ℕ) (b n i : ℕ) → steps_for mine p b (suc n) i ≡ steps_for mine p b n i ++ (step_for mine (step_of (rec_at p (b + (i + n) * 32))) ∷ [])
unfolding steps_for
steps_more mine p b zero i = ap (λ (k : ℕ). step_for mine (step_of (rec_at p (b + k * 32))) ∷ []) (sym (add-zero i))
steps_more mine p b (suc n) i =
    ap (λ (r : List Step). step_for mine (step_of (rec_at p (b + i * 32))) ∷ r)
    (steps_more mine p b n (suc i) ∙ ap (λ (k : ℕ). steps_for mine p b n (suc i) ++ (step_for mine (step_of (rec_at p (b + k * 32))) ∷ [])) (suc-add i n ∙ sym (add-suc i n)))

-- the words for a subject's rights have the name of each subject for which `$` stands, and the label of each step that names one
module _ (p own ws : List ℕ) (n : ℕ) (k : Sorted p own ws n) where
  pub sorted_name : (i : ℕ) → i < length own → 0 < listed_number p ws n (name_at p (get_or own i 0))
  sorted_name i h =
      let x = name_at p (get_or own i 0) in
      let e : name_among p own x ≡ true = some_at (λ u. same_label x (name_at p u)) own i h (same_self x) in
      ltb-true 0 _ (k.holds x ∙ rw e)

  sorted_step : (r j : ℕ) → r < rule_count p → j < step_count p r → Known p ws n (steps_at r + j * 32)
  sorted_step r j h l any own_sign =
      let rec = rec_at p (steps_at r + j * 32) in
      let x = label rec in
      let one : some (uses false x) (stored_path p r) ≡ true = step_found p (uses false x) (steps_at r) (step_count p r) j l (uses-label x rec false any own_sign refl ∙ same_self x) in
      ltb-true 0 _ (k.holds x ∙ rw (rule_found p (λ (q : Rule). some (uses false x) q.path) (rule_count p) r h one) (or-true (name_among p own x)))

-- what a rule asks, of what the groups have
pub ready_listed : (p own ws : List ℕ) (n : ℕ) → Ready p own ws n → Listed p ws n
ready_listed p own ws n k = record { sound = k.sound; words = k.sorted.words; known = sorted_step p own ws n k.sorted }

-- a step of a policy: whether it goes to all descendants, and which labels pass it
module _ (mine : List ℕ → Bool) (p : List ℕ) (at : ℕ) where
  abbrev s : Step
  s = step_for mine (step_of (rec_at p at))

  pub step_deep : (d : Bool) → d ≡ is_descendant (axis_of (get_or p at 0)) → d ≡ s.deep
  step_deep d e = e ∙ ap (λ (z : ℕ). is_descendant (axis_of z)) (sym (first_at p at))

  pub step-every : get_or (label (rec_at p at)) 0 0 ≡ 42 → (x : List ℕ) → s.passed x ≡ true
  step-every e x = passes_any mine (label (rec_at p at)) x e

  pub step-own : (get_or (label (rec_at p at)) 0 0 ≡ 42 → ⊥) → get_or (label (rec_at p at)) 0 0 ≡ 36 → (x : List ℕ) → s.passed x ≡ mine x
  step-own other e x = passes-mine mine (label (rec_at p at)) x other e

  pub step_label : (get_or (label (rec_at p at)) 0 0 ≡ 42 → ⊥) → (get_or (label (rec_at p at)) 0 0 ≡ 36 → ⊥) → (x : List ℕ) → s.passed x ≡ same_label x (label (rec_at p at))
  step_label other e x = passes-label mine (label (rec_at p at)) x other e

-- one step of a path more behind other steps
module _ (mine : List ℕ → Bool) (p : List ℕ) (b j : ℕ) (ss : List Step) where
  pub path_more : (ss ++ steps_for mine p b j 0) ++ (step_for mine (step_of (rec_at p (b + j * 32))) ∷ []) ≡ ss ++ steps_for mine p b (j + 1) 0
  path_more =
      append_assoc ss (steps_for mine p b j 0) _
      ∙ ap (λ (r : List Step). ss ++ r) (ap (λ (i : ℕ). steps_for mine p b j 0 ++ (step_for mine (step_of (rec_at p (b + i * 32))) ∷ [])) (sym (zero-add j)) ∙ sym (steps_more mine p b j 0) ∙ ap (λ (i : ℕ). steps_for mine p b i 0) (sym (add-one j)))

  pub path_length : (used : ℕ) → length ss ≡ used → length (ss ++ steps_for mine p b j 0) ≡ used + j
  path_length used e = omega (arith, e, length-append ss (steps_for mine p b j 0), length-steps mine p b j 0)

-- the row of a label
pub row_at : {number : List ℕ → ℕ} {mine : List ℕ → Bool} {ss : List Step} {deep every own : ℕ} {rows : List ℕ} → Packed number mine ss deep every own rows → (h : ℕ) (x : List ℕ) → h ≡ number x
    → get_or rows h 0 ≡ get_or rows (number x) 0
row_at {rows = rows} k h x e = ap (λ (z : ℕ). get_or rows z 0) e

-- what a label passes, once the rows have the bits of `$`
pub packed_row : {number : List ℕ → ℕ} {mine : List ℕ → Bool} {ss : List Step} {deep every : ℕ} {rows : List ℕ} → Packed number mine ss deep every 0 rows
    → (x : List ℕ) (j : ℕ) → get_or (passed_by ss x) j false ≡ bit_at every j || bit_at (get_or rows (number x) 0) j
packed_row {mine = mine} {every = every} k x j = k.row x j ∙ ap (λ (b : Bool). bit_at every j || b) (sym (or_zero _ (mine x) j))
