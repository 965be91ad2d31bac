-- The masks of a level array that follows the records, from any first states; and one move in numbers. Assumes nothing.
use Prim.Native.Nat.{ℕ, suc, zero, ◌+◌, ◌*◌, ◌%◌, ◌^◌, ◌≤◌}
use mathlib.Core.Bool.{Bool, ◌&&◌, ◌||◌}
use mathlib.Core.Path.{◌≡◌, sym, ap, ap₂, ◌∙◌}
use mathlib.Core.Logic.{⊎_elim}
use mathlib.Core.List.{List, [], ◌∷◌, ◌++◌}
use native.Mathlib.Nat.{not-suc-le-zero, eq-or-lt_of_le}
use native.Mathlib.Omega.{arith}
use lib.Bits.{bit_and, bit_or}
use lib.ListN.{length, take, get_or, set, length-append, replicate}
use lib.Seq.{length-take-le, take-append-le, take-take, take_all, get_or-set_same, get_or-set_other}
use Rattle.rights.specs.Table.{level, label, record_at}
use Rattle.rights.specs.Rights.{Step}
use Rattle.rights.specs.How.Automaton.{value, meet, deeps, passed_by, moved, states, chain_to}
use Rattle.rights.specs.How.Groups.{bit_at, Packed}
use Rattle.rights.proofs.TextLaws.{first_at}
use Rattle.rights.proofs.StateMaskLaws.{bit_test, moved_mask}
use Rattle.rights.proofs.ChainLaws.{states_more}
use Rattle.rights.proofs.BitLaws.{get_meet, bit_at_and, bit_at_or, bit_at_value}
use Rattle.rights.proofs.PackedLaws.{packed_row}

-- the masks of the levels are those of the chain, level by level, from the states s on
abbrev pub Levels : List Step → List Bool → List ℕ → List (List ℕ) → Type 0
Levels ss s st c = (l : ℕ) → l ≤ length c → get_or st l 0 ≡ value (states ss s (take l c))

module _ (ss : List Step) (s : List Bool) (st : List ℕ) (c : List (List ℕ)) where
  levels_more : (l m : ℕ) (x : List ℕ) → length st ≡ 13 → l ≤ 11 → l ≤ length c → Levels ss s st c → m ≡ value (moved ss (states ss s (take l c)) x)
      → Levels ss s (set st (l + 1) m) (take l c ++ (x ∷ []))
  levels_more l m x long low h lv e q k =
      ⊎_elim
      (λ z. ap (λ (j : ℕ). get_or (set st (l + 1) m) j 0) (z ∙ n)
      ∙ get_or-set_same st (l + 1) m 0 (omega (arith, n))
      ∙ e
      ∙ sym (ap value (states_more ss s (take l c) x))
      ∙ ap (λ (y : List (List ℕ)). value (states ss s y)) (sym (take_all q (take l c ++ (x ∷ [])) (omega (arith, n)))))
      (λ z. get_or-set_other st (l + 1) q m 0 (λ w. absurd (omega (arith, n)))
      ∙ lv q (omega (arith, n))
      ∙ ap (λ (y : List (List ℕ)). value (states ss s y))
      (sym (take-take q l c (omega (arith, n))) ∙ sym (take-append-le q (take l c) (x ∷ []) (omega (arith, n, length-take-le l c h)))))
      (eq-or-lt_of_le k)
    where
      n : length (take l c ++ (x ∷ [])) ≡ l + 1
      n = omega (arith, length-append (take l c) (x ∷ []), length-take-le l c h)

-- one record more
module _ (ss : List Step) (s : List Bool) (t : List ℕ) (i l m : ℕ) (st : List ℕ) where
  pub chain_step : l ≡ get_or t (4 + i * 32) 0 → level (record_at t i) ≤ length (chain_to t i) → level (record_at t i) ≤ 11 → length st ≡ 13 → Levels ss s st (chain_to t i)
      → ((b : List Bool) → get_or st l 0 ≡ value b → m ≡ value (moved ss b (label (record_at t i))))
      → (m ≡ value (states ss s (chain_to t (suc i)))) × Levels ss s (set st (l + 1) m) (chain_to t (suc i))
  unfolding chain_to
  chain_step el h low long lv f =
      let z : l ≡ level (record_at t i) = el ∙ sym (first_at t (4 + i * 32)) in
      let c = chain_to t i in
      let e : m ≡ value (moved ss (states ss s (take (level (record_at t i)) c)) (label (record_at t i))) =
      f (states ss s (take (level (record_at t i)) c)) (ap (λ (j : ℕ). get_or st j 0) z ∙ lv (level (record_at t i)) h) in (
        e ∙ sym (ap value (states_more ss s (take (level (record_at t i)) c) (label (record_at t i)))),
        rw z (levels_more ss s st c (level (record_at t i)) m (label (record_at t i)) long low h lv e),
      )

pub levels-start : (ss : List Step) (s : List Bool) (m : ℕ) (t : List ℕ) → m ≡ value s → Levels ss s (set (replicate 13 0) 0 m) (chain_to t 0)
unfolding chain_to states
levels-start ss s m t e zero h = e
levels-start ss s m t e (suc l) h = absurd (not-suc-le-zero h)

-- the states after a node whose label has this row
pub next_mask : (number : List ℕ → ℕ) (mine : List ℕ → Bool) (ss : List Step) (st : List Bool) (deep every row m : ℕ) (rows x : List ℕ)
    → Packed number mine ss deep every 0 rows → length ss ≤ 63 → row ≡ get_or rows (number x) 0 → m ≡ value st → bit_or (bit_and m deep) (bit_and m (bit_or every row) * 2 ^ 1 % 2 ^ 64) ≡ value (moved ss st x)
next_mask number mine ss st deep every row m rows x k few er em =
    moved_mask ss st x m deep (bit_and m (bit_or every row)) few em (bit_at_value deep (deeps ss) k.deep_bits)
    (bit_at_value (bit_and m (bit_or every row)) (meet st (passed_by ss x))
    (λ j. bit_at_and m (bit_or every row) j
    ∙ ap₂ ◌&&◌ (ap (λ (n : ℕ). bit_at n j) em ∙ bit_test st j) (bit_at_or every row j ∙ ap (λ (n : ℕ). bit_at every j || bit_at n j) er ∙ sym (packed_row k x j))
    ∙ sym (get_meet st (passed_by ss x) j)))
