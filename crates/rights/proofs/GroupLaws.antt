-- Rules side by side: each moves as it does alone, so that its last bit says whether its path finds the node; and of the rules that do, the last one
-- has the highest bit. Assumes nothing.
use Prim.Native.Nat.{ℕ, suc, zero, ◌+◌, ◌*◌, ◌-◌, ◌/◌, ◌%◌, ◌^◌, ◌≤◌, ◌<◌}
use mathlib.Core.Bool.{Bool, true, false, ◌&&◌, ◌||◌, not, cond, and-false, or-false, or-true}
use mathlib.Core.Logic.{⊎_elim}
use mathlib.Core.Path.{◌≡◌, refl, sym, ap, ap₂, ◌∙◌, subst}
use mathlib.Core.List.{List, [], ◌∷◌, ◌++◌, append_assoc, append-nil}
use native.Mathlib.Nat.{mod-eq_of_lt, mod-lt, add-zero, eq-or-lt_of_le, le_of_suc-le-suc, lt_of_le_of_lt, one-mul}
use native.Mathlib.Numerals.{add-one}
use native.Mathlib.Omega.{arith}
use borrow.Author.Tests.{lt-ltb, le-ltb, ltb-true, ltb-false}
use lib.Bits.{bit_and, bit_or, and_block, or_shifted_r, and_mask, and_zero_r, and_le_l, and_le_r, or_lt}
use lib.Dec.{lit<, eqb, ltb, eqb-suc-suc, eqb-zero-suc, eqb-suc-zero}
use lib.Pow.{pow_mono, pow-lt, split}
use lib.ListN.{length, take, get_or, replicate, length-append, length-replicate, get_or-replicate, get_or-eq_default, get_or-append}
use lib.Seq.{get_or-append-add}
use Rattle.rights.specs.Policy.{Right, position, read, insert, update, delete, bit_of}
use Rattle.rights.specs.Path.{is_descendant}
use Rattle.rights.specs.Rights.{Step, step_for, reaches, ruled_set}
use Rattle.rights.specs.How.Automaton.{value, meet, deeps, passed_by, moved, states, steps_for, rule_path, chain_to, chain_of}
use Rattle.rights.specs.How.Roles.{name_among}
use Rattle.rights.specs.How.Groups.{bit_at, Ruling, ruling_at, never, cat, ruling_steps, ruling_starts, laid, firsts, end_at, Agrees, ruled, settled, Packed, Grouped, General}
use Rattle.rights.specs.PolicyCheck.{bit_ok}
use Rattle.rights.specs.PolicyBytes.{axis_of, accepts, step_count, steps_at, step_of}
use Rattle.rights.specs.Table.{rec_at, record_at, level, label}
use Rattle.rights.proofs.RightsLaws.{right_of}
use Rattle.rights.proofs.ListLaws.{by_case}
use Rattle.rights.proofs.StateMaskLaws.{bit_test, length-steps, length_passed_by}
use Rattle.rights.proofs.ChainLaws.{found}
use Rattle.rights.proofs.BitLaws.{get_meet, get_union, bit_at_and, bit_at_or, bit_at_one, bit_at_ext, bit_at_value, bit_at_clear}
use Rattle.rights.proofs.PackedLaws.{step_deep, step-every, or-none, deeps_more, passed_more, deeps-length, packed_none, packed_end}

-- How a set of states moves, state by state

moved_first : (ss : List Step) (st : List Bool) (x : List ℕ) → get_or (moved ss st x) 0 false ≡ get_or st 0 false && get_or (deeps ss) 0 false
moved_first ss st x = get_union (meet st (deeps ss)) (false ∷ meet st (passed_by ss x)) 0 ∙ or-false _ ∙ get_meet st (deeps ss) 0

moved_next : (ss : List Step) (st : List Bool) (x : List ℕ) (j : ℕ)
    → get_or (moved ss st x) (suc j) false ≡ (get_or st (suc j) false && get_or (deeps ss) (suc j) false) || (get_or st j false && get_or (passed_by ss x) j false)
moved_next ss st x j = get_union (meet st (deeps ss)) (false ∷ meet st (passed_by ss x)) (suc j) ∙ ap₂ ◌||◌ (get_meet st (deeps ss) (suc j)) (get_meet st (passed_by ss x) j)

-- The path ps stands in the steps ss from step `off` on, and no label goes on to its first state.
record Within (ss ps : List Step) (off : ℕ) : Type 0 where
  deep_same : (j : ℕ) → j ≤ length ps → get_or (deeps ss) (off + j) false ≡ get_or (deeps ps) j false
  passed-same : (x : List ℕ) (j : ℕ) → j ≤ length ps → get_or (passed_by ss x) (off + j) false ≡ get_or (passed_by ps x) j false
  apart : (o : ℕ) → suc o ≡ off → (x : List ℕ) → get_or (passed_by ss x) o false ≡ false

abbrev Like : List Step → ℕ → List Bool → List Bool → Type 0
Like ps off xs ys = (j : ℕ) → j ≤ length ps → get_or xs (off + j) false ≡ get_or ys j false

module _ (ss ps : List Step) where
  like_first : (off : ℕ) → Within ss ps off → (xs ys : List Bool) → Like ps off xs ys → (x : List ℕ) → get_or (moved ss xs x) (off + 0) false ≡ get_or (moved ps ys x) 0 false
  like_first zero w xs ys l x = moved_first ss xs x ∙ ap₂ ◌&&◌ (l 0 (omega arith)) (w.deep_same 0 (omega arith)) ∙ sym (moved_first ps ys x)
  like_first (suc o) w xs ys l x =
      let z : suc o + 0 ≡ suc o = omega arith in
      let a = rw z at (l 0 (omega arith)) in
      let b = rw z at (w.deep_same 0 (omega arith)) in
      rw z
      (moved_next ss xs x o
      ∙ ap₂ ◌||◌ (ap₂ ◌&&◌ a b) (ap (λ (v : Bool). get_or xs o false && v) (w.apart o refl x) ∙ and-false (get_or xs o false))
      ∙ or-false _
      ∙ sym (moved_first ps ys x))

  like_moved : (off : ℕ) → Within ss ps off → (xs ys : List Bool) → Like ps off xs ys → (x : List ℕ) → Like ps off (moved ss xs x) (moved ps ys x)
  like_moved off w xs ys l x zero h = like_first off w xs ys l x
  like_moved off w xs ys l x (suc j) h =
      let z : off + suc j ≡ suc (off + j) = omega arith in
      let a = rw z at (l (suc j) h) in
      let b = rw z at (w.deep_same (suc j) h) in
      rw z
      (moved_next ss xs x (off + j)
      ∙ ap₂ ◌||◌ (ap₂ ◌&&◌ a b) (ap₂ ◌&&◌ (l j (omega arith)) (w.passed-same x j (omega arith)))
      ∙ sym (moved_next ps ys x j))

  like_states : (off : ℕ) → Within ss ps off → (c : List (List ℕ)) (xs ys : List Bool) → Like ps off xs ys → Like ps off (states ss xs c) (states ps ys c)
  unfolding states
  like_states off w [] xs ys l = l
  like_states off w (x ∷ c) xs ys l = like_states off w c (moved ss xs x) (moved ps ys x) (like_moved off w xs ys l x)

-- Where a rule stands among the others

deeps-append : (xs ys : List Step) → deeps (xs ++ ys) ≡ deeps xs ++ deeps ys
unfolding deeps
deeps-append [] ys = refl
deeps-append (x ∷ xs) ys = ap (λ (l : List Bool). x.deep ∷ l) (deeps-append xs ys)

passed-append : (xs ys : List Step) (x : List ℕ) → passed_by (xs ++ ys) x ≡ passed_by xs x ++ passed_by ys x
unfolding passed_by
passed-append [] ys x = refl
passed-append (s ∷ xs) ys x = ap (λ (l : List Bool). s.passed x ∷ l) (passed-append xs ys x)

module _ (q : ℕ → Ruling) (i : ℕ) where
  pub cat_on : {A : Type 0} (f : Ruling → List A) (n : ℕ) → (q (i + n)).on ≡ true → cat f q i (suc n) ≡ cat f q i n ++ f (q (i + n))
  unfolding cat
  cat_on f n e = rw e

  pub cat_off : {A : Type 0} (f : Ruling → List A) (n : ℕ) → (q (i + n)).on ≡ false → cat f q i (suc n) ≡ cat f q i n
  unfolding cat
  cat_off f n e = rw e

  cat_split : {A : Type 0} (f : Ruling → List A) (n k : ℕ) → k < n → (q (i + k)).on ≡ true → (r : List A) × (cat f q i n ≡ cat f q i k ++ (f (q (i + k)) ++ r))
  cat_split f zero k h e = absurd (omega arith)
  cat_split f (suc n) k h e =
      ⊎_elim
      (λ (z : k ≡ n). ([], subst (λ (m : ℕ). cat f q i (suc m) ≡ cat f q i k ++ (f (q (i + k)) ++ [])) z (cat_on f k e ∙ ap (λ l. cat f q i k ++ l) (sym (append-nil (f (q (i + k))))))))
      (λ (z : k < n). let w = cat_split f n k z e in
      by_case (q (i + n)).on
      (λ o. (w.0 ++ f (q (i + n)), cat_on f n o ∙ ap (λ l. l ++ f (q (i + n))) w.1 ∙ simp append_assoc))
      (λ o. (w.0, cat_off f n o ∙ w.1)))
      (eq-or-lt_of_le (le_of_suc-le-suc h))

  pub cat-length : (n : ℕ) → length (firsts q i n) ≡ length (laid q i n)
  cat-length zero = unfold cat in refl
  cat-length (suc n) =
      by_case (q (i + n)).on
      (λ o. ap length (cat_on ruling_starts n o)
      ∙ length-append (firsts q i n) (ruling_starts (q (i + n)))
      ∙ ap₂ ◌+◌ (cat-length n) (ap suc (length-replicate (length (q (i + n)).path) false) ∙ (let z : suc (length (q (i + n)).path) ≡ length (q (i + n)).path + 1 = omega arith in z) ∙ sym (length-append (q (i + n)).path (never ∷ [])))
      ∙ sym (length-append (laid q i n) (ruling_steps (q (i + n))))
      ∙ sym (ap length (cat_on ruling_steps n o)))
      (λ o. ap length (cat_off ruling_starts n o) ∙ cat-length n ∙ sym (ap length (cat_off ruling_steps n o)))

  pub laid_more : (n : ℕ) → (q (i + n)).on ≡ true → length (laid q i (suc n)) ≡ suc (end_at q i n)
  laid_more n e = omega (arith, ap length (cat_on ruling_steps n e), length-append (laid q i n) (ruling_steps (q (i + n))), length-append (q (i + n)).path (never ∷ []))

  -- no label goes on from the last state of the rules before
  last_apart : (n o : ℕ) → suc o ≡ length (laid q i n) → (x : List ℕ) → get_or (passed_by (laid q i n) x) o false ≡ false
  last_apart zero o e x = absurd (unfold cat in omega arith)
  last_apart (suc n) o e x =
      by_case (q (i + n)).on
      (λ w. let ps = (q (i + n)).path in
      let k : laid q i (suc n) ≡ (laid q i n ++ ps) ++ (never ∷ []) = cat_on ruling_steps n w ∙ sym (append_assoc (laid q i n) ps (never ∷ [])) in
      ap (λ (l : List Step). get_or (passed_by l x) o false) k
      ∙ passed_more (laid q i n ++ ps) never x o
      ∙ sym (or-none _ (eqb o (length (laid q i n ++ ps))))
      ∙ get_or-eq_default (passed_by (laid q i n ++ ps) x) false (omega (arith, length_passed_by (laid q i n ++ ps) x, ap length k, length-append (laid q i n ++ ps) (never ∷ []))))
      (λ w. ap (λ (l : List Step). get_or (passed_by l x) o false) (cat_off ruling_steps n w) ∙ last_apart n o (e ∙ ap length (cat_off ruling_steps n w)) x)

  module _ (n k : ℕ) (h : k < n) (e : (q (i + k)).on ≡ true) where
    abbrev ps : List Step
    ps = (q (i + k)).path

    abbrev before : List Step
    before = laid q i k

    rest : List Step
    rest = (cat_split ruling_steps n k h e).0

    whole : laid q i n ≡ before ++ (ruling_steps (q (i + k)) ++ rest)
    unfolding rest
    whole = (cat_split ruling_steps n k h e).1

    stands : Within (laid q i n) ps (length before)
    stands = record {
      deep_same = λ j l. ap (λ (s : List Step). get_or (deeps s) (length before + j) false) whole
          ∙ ap (λ (s : List Bool). get_or s (length before + j) false) (deeps-append before (ruling_steps (q (i + k)) ++ rest))
          ∙ ap (λ (m : ℕ). get_or (deeps before ++ deeps (ruling_steps (q (i + k)) ++ rest)) (m + j) false) (sym (deeps-length before))
          ∙ get_or-append-add (deeps before) (deeps (ruling_steps (q (i + k)) ++ rest)) j false
          ∙ ap (λ (s : List Bool). get_or s j false) (deeps-append (ruling_steps (q (i + k))) rest)
          ∙ get_or-append (deeps (ruling_steps (q (i + k)))) (deeps rest) false j (omega (arith, deeps-length (ruling_steps (q (i + k))), length-append ps (never ∷ [])))
          ∙ deeps_more ps never j
          ∙ sym (or-none _ (eqb j (length ps)));
      passed-same = λ x j l. ap (λ (s : List Step). get_or (passed_by s x) (length before + j) false) whole
          ∙ ap (λ (s : List Bool). get_or s (length before + j) false) (passed-append before (ruling_steps (q (i + k)) ++ rest) x)
          ∙ ap (λ (m : ℕ). get_or (passed_by before x ++ passed_by (ruling_steps (q (i + k)) ++ rest) x) (m + j) false) (sym (length_passed_by before x))
          ∙ get_or-append-add (passed_by before x) (passed_by (ruling_steps (q (i + k)) ++ rest) x) j false
          ∙ ap (λ (s : List Bool). get_or s j false) (passed-append (ruling_steps (q (i + k))) rest x)
          ∙ get_or-append (passed_by (ruling_steps (q (i + k))) x) (passed_by rest x) false j (omega (arith, length_passed_by (ruling_steps (q (i + k))) x, length-append ps (never ∷ [])))
          ∙ passed_more ps never x j
          ∙ sym (or-none _ (eqb j (length ps)));
      apart = λ o z x. ap (λ (s : List Step). get_or (passed_by s x) o false) whole
          ∙ ap (λ (s : List Bool). get_or s o false) (passed-append before (ruling_steps (q (i + k)) ++ rest) x)
          ∙ get_or-append (passed_by before x) (passed_by (ruling_steps (q (i + k)) ++ rest) x) false o (omega (arith, length_passed_by before x))
          ∙ last_apart k o z x;
    }

    first_alone : (m : ℕ) (r : List Bool) (j : ℕ) → j ≤ m → get_or ((true ∷ replicate m false) ++ r) j false ≡ get_or (true ∷ []) j false
    first_alone m r zero l = refl
    first_alone m r (suc j) l = get_or-append (replicate m false) r false j (omega (arith, length-replicate m false)) ∙ get_or-replicate m j false false (omega arith)

    starts : Like ps (length before) (firsts q i n) (true ∷ [])
    starts j l =
        let w = cat_split ruling_starts n k h e in
        ap (λ (s : List Bool). get_or s (length before + j) false) w.1
        ∙ ap (λ (m : ℕ). get_or (firsts q i k ++ (ruling_starts (q (i + k)) ++ w.0)) (m + j) false) (sym (cat-length k))
        ∙ get_or-append-add (firsts q i k) (ruling_starts (q (i + k)) ++ w.0) j false
        ∙ first_alone (length ps) w.0 j l

    finds-it : (c : List (List ℕ)) → get_or (states (laid q i n) (firsts q i n) c) (end_at q i k) false ≡ reaches ps c
    finds-it c = like_states (laid q i n) ps (length before) stands c (firsts q i n) (true ∷ []) starts (length ps) (omega arith) ∙ found ps c

  -- the states along a chain say of each rule whether it finds the chain's end
  pub agree : (n m : ℕ) (c : List (List ℕ)) → m ≡ value (states (laid q i n) (firsts q i n) c) → Agrees q i n c m
  agree n m c e k h o = ap (λ (z : ℕ). bit_at z (end_at q i k)) e ∙ bit_test (states (laid q i n) (firsts q i n) c) (end_at q i k) ∙ finds-it n k h o c

-- The last rule that finds the node

-- a number with one bit more, above all of its own
and_top : (m y e : ℕ) → y < 2 ^ e → bit_and m (bit_or y (2 ^ e)) ≡ bit_and m y + cond (bit_at m e) (2 ^ e) 0
and_top m y e h =
    let a = m / 2 ^ e in
    let r = m % 2 ^ e in
    let lo : r < 2 ^ e = mod-lt m (omega (arith, h)) in
    let top : bit_or y (2 ^ e) ≡ 1 * 2 ^ e + y = ap (bit_or y) (sym (one-mul (2 ^ e))) ∙ or_shifted_r 1 e y h in
    let one : bit_and a 1 ≡ a % 2 = and_mask a 1 in
    let both : bit_and m (bit_or y (2 ^ e)) ≡ bit_and a 1 * 2 ^ e + bit_and r y = ap₂ (λ (u v : ℕ). bit_and u v) (sym (split m e)) top ∙ and_block e a 1 r y lo h in
    let low : bit_and m y ≡ bit_and r y =
    ap₂ (λ (u v : ℕ). bit_and u v) (sym (split m e)) (let z : y ≡ 0 * 2 ^ e + y = omega arith in z)
    ∙ and_block e a 0 r y lo h
    ∙ ap (λ (u : ℕ). u * 2 ^ e + bit_and r y) (and_zero_r a)
    ∙ (let z : 0 * 2 ^ e + bit_and r y ≡ bit_and r y = omega arith in z) in
    both ∙ ap (λ (u : ℕ). u * 2 ^ e + bit_and r y) one ∙ go (a % 2) (mod-lt a (lit< tt)) (bit_and r y) ∙ ap (λ (u : ℕ). u + cond (bit_at m e) (2 ^ e) 0) (sym low)
  where
    go : (b : ℕ) → b < 2 → (u : ℕ) → b * 2 ^ e + u ≡ u + cond (eqb b 1) (2 ^ e) 0
    go zero l u = omega arith
    go (suc zero) l u = omega arith
    go (suc (suc b)) l u = absurd (omega arith)

-- a rule over one of the same right
module _ (x : ℕ) (small : x < 256) (k : ℕ) (in-set : bit_at 255 k ≡ true) where
  within : (j : ℕ) → bit_at x j ≡ bit_at x j && bit_at 255 j
  within j = ap (λ (z : ℕ). bit_at z j) (sym (mod-eq_of_lt small) ∙ sym (and_mask x 8)) ∙ bit_at_and x 255 j

  set_over : (y m b : Bool) → y ≡ y && m → ((y && (m && not b)) || b ≡ y || b)
  set_over true true true e = refl
  set_over true true false e = refl
  set_over true false b e = absurd (let z : ◌≡◌ {A = ℕ} 0 1 = cc in omega arith)
  set_over false m b e = refl

  or_twice : (y b : Bool) → (y || b) || b ≡ y || b
  or_twice true b = refl
  or_twice false true = refl
  or_twice false false = refl

  clear_over : (y m b : Bool) → (y || b) && (m && not b) ≡ y && (m && not b)
  clear_over true m b = refl
  clear_over false m true = and-false m
  clear_over false m false = refl

  and_twice : (y m : Bool) → (y && m) && m ≡ y && m
  and_twice true true = refl
  and_twice true false = refl
  and_twice false m = refl

  others : (j : ℕ) → bit_at (255 - 2 ^ k) j ≡ bit_at 255 j && not (bit_at (2 ^ k) j)
  others j = bit_at_clear 255 k in-set j ∙ ap (λ (v : Bool). bit_at 255 j && not v) (sym (bit_at_one k j))

  over : (a b : Bool) → ruled_set (ruled_set x (2 ^ k) a) (2 ^ k) b ≡ ruled_set x (2 ^ k) b
  over true true =
      bit_at_ext _ _
      (λ j. bit_at_or (bit_or x (2 ^ k)) (2 ^ k) j ∙ ap (λ (v : Bool). v || bit_at (2 ^ k) j) (bit_at_or x (2 ^ k) j) ∙ or_twice (bit_at x j) (bit_at (2 ^ k) j) ∙ sym (bit_at_or x (2 ^ k) j))
  over false true =
      bit_at_ext _ _
      (λ j. bit_at_or (bit_and x (255 - 2 ^ k)) (2 ^ k) j
      ∙ ap (λ (v : Bool). v || bit_at (2 ^ k) j) (bit_at_and x (255 - 2 ^ k) j ∙ ap (λ (v : Bool). bit_at x j && v) (others j))
      ∙ set_over (bit_at x j) (bit_at 255 j) (bit_at (2 ^ k) j) (within j)
      ∙ sym (bit_at_or x (2 ^ k) j))
  over true false =
      bit_at_ext _ _
      (λ j. bit_at_and (bit_or x (2 ^ k)) (255 - 2 ^ k) j
      ∙ ap₂ (λ (v w : Bool). v && w) (bit_at_or x (2 ^ k) j) (others j)
      ∙ clear_over (bit_at x j) (bit_at 255 j) (bit_at (2 ^ k) j)
      ∙ ap (λ (v : Bool). bit_at x j && v) (sym (others j))
      ∙ sym (bit_at_and x (255 - 2 ^ k) j))
  over false false =
      bit_at_ext _ _
      (λ j. bit_at_and (bit_and x (255 - 2 ^ k)) (255 - 2 ^ k) j
      ∙ ap (λ (v : Bool). v && bit_at (255 - 2 ^ k) j) (bit_at_and x (255 - 2 ^ k) j)
      ∙ and_twice (bit_at x j) (bit_at (255 - 2 ^ k) j)
      ∙ sym (bit_at_and x (255 - 2 ^ k) j))

ruled_over : (x : ℕ) → x < 256 → (d : Right) (a b : Bool) → ruled_set (ruled_set x (bit_of d) a) (bit_of d) b ≡ ruled_set x (bit_of d) b
ruled_over x h position a b = over x h 0 refl a b
ruled_over x h read a b = over x h 1 refl a b
ruled_over x h insert a b = over x h 2 refl a b
ruled_over x h update a b = over x h 3 refl a b
ruled_over x h delete a b = over x h 4 refl a b

module _ (x : ℕ) (small : x < 256) (d : Right) where
  settled_over : (y n : ℕ) (a : Bool) → ruled_set (settled (bit_of d) y n x) (bit_of d) a ≡ ruled_set x (bit_of d) a
  settled_over y n a = go (ltb n y) (ltb y n)
    where
      go : (u v : Bool) → ruled_set (cond u (ruled_set x (bit_of d) true) (cond v (ruled_set x (bit_of d) false) x)) (bit_of d) a ≡ ruled_set x (bit_of d) a
      go true v = ruled_over x small d true a
      go false true = ruled_over x small d false a
      go false false = refl

  settled_more : (y n e : ℕ) → y < 2 ^ e → n < 2 ^ e → (hit a : Bool)
      → cond hit (ruled_set (settled (bit_of d) y n x) (bit_of d) a) (settled (bit_of d) y n x) ≡ settled (bit_of d) (y + cond (hit && a) (2 ^ e) 0) (n + cond (hit && not a) (2 ^ e) 0) x
  settled_more y n e hy hn true true = settled_over y n true ∙ (let z : ltb (n + 0) (y + 2 ^ e) ≡ true = lt-ltb (n + 0) (y + 2 ^ e) (omega arith) in rw z)
  settled_more y n e hy hn true false =
      settled_over y n false ∙ (let z : ltb (n + 2 ^ e) (y + 0) ≡ false = le-ltb (n + 2 ^ e) (y + 0) (omega arith) in let w : ltb (y + 0) (n + 2 ^ e) ≡ true = lt-ltb (y + 0) (n + 2 ^ e) (omega arith) in rw (z, w))
  settled_more y n e hy hn false a = ap₂ (λ (u v : ℕ). settled (bit_of d) u v x) (sym (add-zero y)) (sym (add-zero n))

fair_more : (x : ℕ) → x < 256 → (b : ℕ) → bit_ok b ≡ true → (y n e : ℕ) → y < 2 ^ e → n < 2 ^ e → (hit a : Bool)
    → cond hit (ruled_set (settled b y n x) b a) (settled b y n x) ≡ settled b (y + cond (hit && a) (2 ^ e) 0) (n + cond (hit && not a) (2 ^ e) 0) x
fair_more x h b fair y n e hy hn hit a = let d = right_of b fair in rw d.1 (settled_more x h d.0 y n e hy hn hit a)

-- A group in numbers

module _ (number : List ℕ → ℕ) (mine : List ℕ → Bool) (q : ℕ → Ruling) (b : ℕ) (i : ℕ) where
  pub group_none : (rows : List ℕ) → length rows ≡ 2113 → ((x : List ℕ) → get_or rows (number x) 0 ≡ 0) → Grouped number mine q b i 0 0 0 0 0 0 0 0 rows
  unfolding cat ruled value
  group_none rows e z = record {
    packed = packed_none number mine rows e z;
    used_is = refl;
    start_is = refl;
    yes_low = lit< tt;
    no_low = lit< tt;
    says = λ m x c h g. (let z : bit_and m 0 ≡ 0 = and_zero_r m in rw z);
  }

  module _ (n deep every own start yes noes used : ℕ) (rows : List ℕ) (g : Grouped number mine q b i n deep every own start yes noes used rows) where
    pub group_skip : (q (i + n)).on ≡ false → Grouped number mine q b i (suc n) deep every own start yes noes used rows
    unfolding ruled
    group_skip o = record {
      packed = rw (cat_off q i ruling_steps n o) g.packed;
      used_is = rw (cat_off q i ruling_steps n o) g.used_is;
      start_is = rw (cat_off q i ruling_starts n o) g.start_is;
      yes_low = rw (cat_off q i ruling_steps n o) g.yes_low;
      no_low = rw (cat_off q i ruling_steps n o) g.no_low;
      says = λ m x c h a. rw o (g.says m x c h (λ k l. a k (omega arith)));
    }

    module _ (fair : bit_ok b ≡ true) (o : (q (i + n)).on ≡ true) (deep' every' own' : ℕ) (rows' : List ℕ)
        (k : Packed number mine (laid q i n ++ (q (i + n)).path) deep' every' own' rows') where
      first_more : (xs : List Bool) (m j : ℕ) → get_or (xs ++ (true ∷ replicate m false)) j false ≡ get_or xs j false || eqb j (length xs)
      first_more [] m zero = refl
      first_more [] m (suc j) = none m j ∙ sym (eqb-suc-zero j)
        where
          none : (m j : ℕ) → get_or (replicate m false) j false ≡ false
          none zero j = refl
          none (suc m) zero = refl
          none (suc m) (suc j) = none m j
      first_more (y ∷ xs) m zero = sym (or-false y) ∙ ap (λ (b : Bool). y || b) (sym (eqb-zero-suc (length xs)))
      first_more (y ∷ xs) m (suc j) = first_more xs m j ∙ ap (λ (b : Bool). get_or xs j false || b) (sym (eqb-suc-suc j (length xs)))

      start-more : bit_or start (2 ^ length (laid q i n)) ≡ value (firsts q i (suc n))
      start-more =
          bit_at_value _ (firsts q i (suc n))
          (λ j. bit_at_or start (2 ^ length (laid q i n)) j
          ∙ ap₂ ◌||◌ (ap (λ (z : ℕ). bit_at z j) g.start_is ∙ bit_test (firsts q i n) j) (bit_at_one (length (laid q i n)) j ∙ ap (eqb j) (sym (cat-length q i n)))
          ∙ sym (first_more (firsts q i n) (length (q (i + n)).path) j)
          ∙ ap (λ (s : List Bool). get_or s j false) (sym (cat_on q i ruling_starts n o)))

      mark-low : (a : Bool) (y : ℕ) → y < 2 ^ length (laid q i n) → cond a (bit_or y (2 ^ end_at q i n)) y < 2 ^ length (laid q i (suc n))
      mark-low a y h =
          let z = laid_more q i n o in
          let f : y < 2 ^ suc (end_at q i n) = omega (arith, pow_mono {i = length (laid q i n)} {j = suc (end_at q i n)} (omega arith)) in
          rw z (go a f)
        where
          go : (a : Bool) → y < 2 ^ suc (end_at q i n) → cond a (bit_or y (2 ^ end_at q i n)) y < 2 ^ suc (end_at q i n)
          go true f = or_lt (suc (end_at q i n)) y (2 ^ end_at q i n) f (pow-lt {i = end_at q i n} {j = suc (end_at q i n)} (omega arith))
          go false f = f

      mark-and : (a : Bool) (m y : ℕ) → y < 2 ^ length (laid q i n) → bit_and m (cond a (bit_or y (2 ^ end_at q i n)) y) ≡ bit_and m y + cond (bit_at m (end_at q i n) && a) (2 ^ end_at q i n) 0
      mark-and true m y h =
          and_top m y (end_at q i n) (omega (arith, pow_mono {i = length (laid q i n)} {j = end_at q i n} (omega arith)))
          ∙ ap (λ (b : Bool). bit_and m y + cond b (2 ^ end_at q i n) 0) (yes_and (bit_at m (end_at q i n)))
        where
          yes_and : (b : Bool) → b ≡ b && true
          yes_and true = refl
          yes_and false = refl
      mark-and false m y h = sym (add-zero (bit_and m y)) ∙ ap (λ (b : Bool). bit_and m y + cond b (2 ^ end_at q i n) 0) (sym (and-false (bit_at m (end_at q i n))))

      says-more : (m x : ℕ) (c : List (List ℕ)) → x < 256 → Agrees q i (suc n) c m
          → ruled q b c i (suc n) x
          ≡ settled b (bit_and m (cond (q (i + n)).accept (bit_or yes (2 ^ end_at q i n)) yes)) (bit_and m (cond (not (q (i + n)).accept) (bit_or noes (2 ^ end_at q i n)) noes)) x
      unfolding ruled
      says-more m x c h a =
          let f = reaches (q (i + n)).path c in
          let r = g.says m x c h (λ j l. a j (omega arith)) in
          let hy : bit_and m yes < 2 ^ end_at q i n = omega (arith, and_le_r m yes, g.yes_low, pow_mono {i = length (laid q i n)} {j = end_at q i n} (omega arith)) in
          let hn : bit_and m noes < 2 ^ end_at q i n = omega (arith, and_le_r m noes, g.no_low, pow_mono {i = length (laid q i n)} {j = end_at q i n} (omega arith)) in
          rw o
          (ap (λ (z : ℕ). cond f (ruled_set z b (q (i + n)).accept) z) r
          ∙ fair_more x h b fair (bit_and m yes) (bit_and m noes) (end_at q i n) hy hn f (q (i + n)).accept
          ∙ ap₂ (λ (u v : ℕ). settled b u v x)
          (ap (λ (b : Bool). bit_and m yes + cond (b && (q (i + n)).accept) (2 ^ end_at q i n) 0) (sym (a n (omega arith) o)) ∙ sym (mark-and (q (i + n)).accept m yes g.yes_low))
          (ap (λ (b : Bool). bit_and m noes + cond (b && not (q (i + n)).accept) (2 ^ end_at q i n) 0) (sym (a n (omega arith) o)) ∙ sym (mark-and (not (q (i + n)).accept) m noes g.no_low)))

      pub group_more : (size : ℕ) → size ≡ length (q (i + n)).path → Grouped number mine q b i (suc n) deep' every' own' (bit_or start (2 ^ used))
          (cond (q (i + n)).accept (bit_or yes (2 ^ (used + size))) yes) (cond (not (q (i + n)).accept) (bit_or noes (2 ^ (used + size))) noes) (used + size + 1) rows'
      group_more size es =
          let u = g.used_is in
          let f : used + size ≡ end_at q i n = ap₂ ◌+◌ u es in
          record {
            packed = rw (cat_on q i ruling_steps n o, ← append_assoc) (packed_end number mine (laid q i n ++ (q (i + n)).path) deep' every' own' rows' k);
            used_is = omega (arith, f, laid_more q i n o);
            start_is = ap (λ (z : ℕ). bit_or start (2 ^ z)) u ∙ start-more;
            yes_low = rw f (mark-low (q (i + n)).accept yes g.yes_low);
            no_low = rw f (mark-low (not (q (i + n)).accept) noes g.no_low);
            says = rw f says-more;
          }

-- How long the steps of some rules are

module _ (q : ℕ → Ruling) (i : ℕ) where
  size_step : (n : ℕ) → length (laid q i (suc n)) ≡ length (laid q i n) + cond (q (i + n)).on (suc (length (q (i + n)).path)) 0
  size_step n =
      by_case (q (i + n)).on
      (λ o. rw o (omega (arith, laid_more q i n o)))
      (λ o. rw o (ap length (cat_off q i ruling_steps n o) ∙ sym (add-zero (length (laid q i n)))))

  size_mono : (n k : ℕ) → length (laid q i n) ≤ length (laid q i (n + k))
  size_mono n zero = rw (add-zero n) (omega arith)
  size_mono n (suc k) = let z : n + suc k ≡ suc (n + k) = omega arith in rw z (omega (arith, size_mono n k, size_step (n + k)))

  pub size_more : (k m : ℕ) → i ≤ k → length (q k).path ≡ m → length (laid q i (k + 1 - i)) ≡ length (laid q i (k - i)) + cond (q k).on (suc m) 0
  size_more k m h e =
      let z : k + 1 - i ≡ suc (k - i) = omega arith in
      let y : i + (k - i) ≡ k = omega arith in
      rw (z, ← e) (size_step (k - i) ∙ ap (λ (j : ℕ). length (laid q i (k - i)) + cond (q j).on (suc (length (q j).path)) 0) y)

  pub size_within : (k t : ℕ) → i ≤ k → k ≤ t → length (laid q i (k - i)) ≤ length (laid q i (t - i))
  size_within k t h l = let z : (k - i) + (t - k) ≡ t - i = omega arith in rw z at (size_mono (k - i) (t - k))

  pub size_none : (k : ℕ) → k ≤ i → length (laid q i (k - i)) ≡ 0
  unfolding cat
  size_none k h = let z : k - i ≡ 0 = omega arith in rw z

  -- rules that take no bits do nothing
  pub ruled-none : (b : ℕ) (c : List (List ℕ)) (n x : ℕ) → length (laid q i n) ≡ 0 → x ≡ ruled q b c i n x
  unfolding ruled
  ruled-none b c zero x e = refl
  ruled-none b c (suc n) x e =
      by_case (q (i + n)).on
      (λ o. absurd (omega (arith, laid_more q i n o)))
      (λ o. rw o (ruled-none b c n x (sym (ap length (cat_off q i ruling_steps n o)) ∙ e)))

  pub some_rule : (k used : ℕ) → used ≡ length (laid q i (k - i)) → 0 < used → i < k
  some_rule k used e h = by_case (ltb i k) (λ z. ltb-true i k z) (λ z. absurd (omega (arith, size_none k (ltb-false i k z))))

-- One rule of a policy more

module _ (number : List ℕ → ℕ) (p own roles : List ℕ) (b : ℕ) (fair : bit_ok b ≡ true) where
  abbrev mine : List ℕ → Bool
  mine = name_among p own

  abbrev ruling : ℕ → Ruling
  ruling = ruling_at p own roles b

  pub ruling_added : (i n k : ℕ) → i + n ≡ k → (ruling k).on ≡ true
      → (deep every own_bits start yes noes used deep' every' own-bits' start' yes' noes' used' : ℕ) (rows rows' : List ℕ)
      → Grouped number mine ruling b i n deep every own_bits start yes noes used rows
      → ((ss : List Step) → length ss ≡ used → Packed number mine ss deep every own_bits rows → Packed number mine (ss ++ rule_path p own k) deep' every' own-bits' rows')
      → start' ≡ bit_or start (2 ^ used)
      → yes' ≡ cond (accepts p k) (bit_or yes (2 ^ (used + step_count p k))) yes
      → noes' ≡ cond (not (accepts p k)) (bit_or noes (2 ^ (used + step_count p k))) noes
      → used' ≡ used + step_count p k + 1
      → Grouped number mine ruling b i (suc n) deep' every' own-bits' start' yes' noes' used' rows'
  ruling_added i n k z o deep every o0 start y0 noes used deep' every' o1 start' y1 noes' used' rows rows' g f es ey en eu =
      let kp : Packed number mine (laid ruling i n ++ rule_path p own (i + n)) deep' every' o1 rows' =
      subst (λ (m : ℕ). Packed number mine (laid ruling i n ++ rule_path p own m) deep' every' o1 rows') (sym z) (f (laid ruling i n) (sym g.used_is) g.packed) in
      rw (es, ey, en, eu, ← z)
      (group_more number mine ruling b i n deep every o0 start y0 noes used rows g fair (ap (λ (m : ℕ). (ruling m).on) z ∙ o) deep' every' o1 rows' kp
      (step_count p (i + n)) (sym (length-steps mine p (steps_at (i + n)) (step_count p (i + n)) 0)))

pub not-not : (b : Bool) → not (not b) ≡ b
not-not true = refl
not-not false = refl

-- Rules for all nodes

module _ (b : ℕ) (fair : bit_ok b ≡ true) where
  low : (d : Right) → bit_of d < 256
  low position = lit< tt
  low read = lit< tt
  low insert = lit< tt
  low update = lit< tt
  low delete = lit< tt

  rule_low : (x : ℕ) (a : Bool) → x < 256 → ruled_set x b a < 256
  rule_low x true h = let d = right_of b fair in rw d.1 (or_lt 8 x (bit_of d.0) h (low d.0))
  rule_low x false h = lt_of_le_of_lt (and_le_l x _) h

  rule_over : (x : ℕ) (a e : Bool) → x < 256 → ruled_set (ruled_set x b a) b e ≡ ruled_set x b e
  rule_over x a e h = let d = right_of b fair in rw d.1 (ruled_over x h d.0 a e)

  module _ (q : ℕ → Ruling) (c : List (List ℕ)) (x : ℕ) (h : x < 256) (e : Bool) where
    -- the set stays one, and what the rules of a right did before one of them does not matter
    ruled-last : (i n : ℕ) → (ruled q b c i n x < 256) × (ruled_set (ruled q b c i n x) b e ≡ ruled_set x b e)
    unfolding ruled
    ruled-last i zero = (h, refl)
    ruled-last i (suc n) = go (q (i + n)).on (reaches (q (i + n)).path c) (ruled q b c i n x) (ruled-last i n)
      where
        go : (o f : Bool) (y : ℕ) → (y < 256) × (ruled_set y b e ≡ ruled_set x b e)
            → (cond o (cond f (ruled_set y b (q (i + n)).accept) y) y < 256) × (ruled_set (cond o (cond f (ruled_set y b (q (i + n)).accept) y) y) b e ≡ ruled_set x b e)
        go true true y w = (rule_low y (q (i + n)).accept w.0, rule_over y (q (i + n)).accept e w.0 ∙ w.1)
        go true false y w = w
        go false f y w = w

  -- a rule for all nodes decides alone over those before it
  pub general_decides : (q : ℕ → Ruling) (c : List (List ℕ)) (w : List ℕ) (k x : ℕ) → x < 256 → General (q k) → ruled_set x b (q k).accept ≡ ruled q b (c ++ (w ∷ [])) 0 (k + 1) x
  unfolding ruled
  general_decides q c w k x h g =
      let z : 0 + k ≡ k = omega arith in
      rw (add-one k, z, g.on, g.all c w) (sym (ruled-last q (c ++ (w ∷ [])) x h (q k).accept 0 k).1)

  pub general_at : (q : ℕ → Ruling) (t : List ℕ) (i k x : ℕ) → x < 256 → 0 < k → General (q (k - 1)) → ruled_set x b (q (k - 1)).accept ≡ ruled q b (chain_of t i) 0 k x
  unfolding chain_to
  general_at q t i k x h pos g =
      let z : k - 1 + 1 ≡ k = omega arith in
      general_decides q (take (level (record_at t i)) (chain_to t i)) (label (record_at t i)) (k - 1) x h g ∙ ap (λ (m : ℕ). ruled q b (take (level (record_at t i)) (chain_to t i) ++ (label (record_at t i) ∷ [])) 0 m x) z

-- `//*` finds every node
pub all_found : (s : Step) → s.deep ≡ true → ((x : List ℕ) → s.passed x ≡ true) → (c : List (List ℕ)) (x : List ℕ) → reaches (s ∷ []) (c ++ (x ∷ [])) ≡ true
unfolding reaches
all_found s d p [] x = rw (p x)
all_found s d p (y ∷ c) x = rw (d, all_found s d p c x) (or-true (s.passed y && reaches [] (c ++ (x ∷ []))))

-- a path of one step, and that of a rule whose only step is `//*`
one_step : (mine : List ℕ → Bool) (p : List ℕ) (b n : ℕ) → n ≡ 1 → steps_for mine p b n 0 ≡ step_for mine (step_of (rec_at p b)) ∷ []
unfolding steps_for
one_step mine p b n e = let z : b + 0 * 32 ≡ b = omega arith in rw (e, z)

pub general_path : (p own : List ℕ) (k : ℕ) → step_count p k ≡ 1 → is_descendant (axis_of (get_or p (steps_at k) 0)) ≡ true → get_or (label (rec_at p (steps_at k))) 0 0 ≡ 42
    → (c : List (List ℕ)) (x : List ℕ) → reaches (rule_path p own k) (c ++ (x ∷ [])) ≡ true
general_path p own k one far-off any c x =
    let mine = name_among p own in
    let s = step_for mine (step_of (rec_at p (steps_at k))) in
    rw (one_step mine p (steps_at k) (step_count p k) one)
    (all_found s (sym (step_deep mine p (steps_at k) true (sym far-off))) (step-every mine p (steps_at k) any) c x)

pub above_zero : (k : ℕ) → (k ≡ 0 → ⊥) → 0 < k
above_zero zero h = absurd (h refl)
above_zero (suc k) h = omega arith
