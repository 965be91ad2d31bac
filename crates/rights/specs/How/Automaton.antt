-- How the rights are worked out: one automaton a rule, its states as a list of Bools and as a mask of bits (Groups: several rules in one mask). proofs/ChainLaws.antt shows that it finds what
-- `reaches` says.
use Rattle.std.specs.Prelude.{ℕ, zero, suc, ◌+◌, ◌*◌, ◌≤◌, ◌<◌, Bool, false, cond, ◌&&◌, ◌||◌, ◌≡◌, List, [], ◌∷◌, ◌++◌, length, get_or, take, drop}
use Rattle.rights.specs.Limits.{policy_size}
use Rattle.rights.specs.Marks.{bit}
use Rattle.rights.specs.Isa.{is}
use Rattle.rights.specs.PolicyBytes.{step_of, policy_of, isa_count, isa_n, isa_r, subject_count, subject_at, rule_count, step_count, steps_at, whose, accepts, right_bit}
use Rattle.rights.specs.How.Places.{Text}
use Rattle.rights.specs.How.Roles.{name_among}
use Rattle.rights.specs.Rights.{Step, step_for, reaches, tried}
use Rattle.rights.specs.Table.{rec_at, record_at, level, label}

-- a set of states as a number, the first state in the lowest bit
unfoldable pub value : List Bool → ℕ
value [] = 0
value (b ∷ bs) = value bs * 2 + bit b

-- element by element
unfoldable pub meet : List Bool → List Bool → List Bool
meet [] ys = []
meet (x ∷ xs) [] = []
meet (x ∷ xs) (y ∷ ys) = (x && y) ∷ meet xs ys

unfoldable pub union : List Bool → List Bool → List Bool
union [] ys = ys
union (x ∷ xs) [] = x ∷ xs
union (x ∷ xs) (y ∷ ys) = (x || y) ∷ union xs ys

-- the deep steps, and the steps that a label passes
unfoldable pub deeps : List Step → List Bool
deeps [] = []
deeps (s ∷ ss) = s.deep ∷ deeps ss

unfoldable pub passed_by : List Step → List ℕ → List Bool
passed_by [] x = []
passed_by (s ∷ ss) x = s.passed x ∷ passed_by ss x

-- the states after a node with the label x
abbrev pub moved : List Step → List Bool → List ℕ → List Bool
moved ss st x = union (meet st (deeps ss)) (false ∷ meet st (passed_by ss x))

-- some state of the set finds the rest of the chain
unfoldable pub some_state : List Step → List Bool → List (List ℕ) → Bool
some_state ss [] xs = false
some_state [] (b ∷ bs) xs = b && reaches [] xs
some_state (s ∷ ss) (b ∷ bs) xs = (b && reaches (s ∷ ss) xs) || some_state ss bs xs

-- the states after a chain of labels
unfoldable pub states : List Step → List Bool → List (List ℕ) → List Bool
states ss st [] = st
states ss st (x ∷ xs) = states ss (moved ss st x) xs

-- n steps from step j on, of those that stand at byte b, where mine are the labels that pass `$`
unfoldable pub steps_for : (List ℕ → Bool) → List ℕ → ℕ → ℕ → ℕ → List Step
steps_for mine p b zero j = []
steps_for mine p b (suc n) j = step_for mine (step_of (rec_at p (b + j * 32))) ∷ steps_for mine p b n (suc j)

-- the path of rule k, where `$` stands for the subjects own
abbrev pub rule_path : List ℕ → List ℕ → ℕ → List Step
rule_path p own k = steps_for (name_among p own) p (steps_at k) (step_count p k) 0

-- the labels from the root down to record i - 1, and the chain of record i
unfoldable pub chain_to : List ℕ → ℕ → List (List ℕ)
chain_to t zero = []
chain_to t (suc i) = take (level (record_at t i)) (chain_to t i) ++ (label (record_at t i) ∷ [])

abbrev pub chain_of : List ℕ → ℕ → List (List ℕ)
chain_of t i = chain_to t (suc i)

-- the rights that u has by the first k rules, in order, on a node with the chain c
unfoldable pub by_rules : List ℕ → List ℕ → ℕ → ℕ → List (List ℕ) → ℕ
by_rules p own u zero c = 0
by_rules p own u (suc k) c =
    cond (is (policy_of p) u (whose p k))
    (tried (rule_path p own k) c (right_bit p k) (accepts p k) (by_rules p own u k c))
    (by_rules p own u k c)

abbrev pub rights_at : List ℕ → List ℕ → ℕ → List (List ℕ) → ℕ
rights_at p own u c = by_rules p own u (rule_count p) c

-- the first n elements of ys are those of xs under f, and the others are as they were
pub record Each (n : ℕ) (xs ys : List ℕ) (f : ℕ → ℕ → ℕ) : Type 0 where
  pub long : length ys ≡ length xs
  pub at : (i : ℕ) → i < n → get_or ys i 0 ≡ f i (get_or xs i 0)
  pub rest : drop n ys ≡ drop n xs

-- What the check of a policy gives

-- n steps at byte at
pub record Steps (p : List ℕ) (at n : ℕ) : Type 0 where
  pub few : n ≤ 16
  pub texts : (j : ℕ) → j < n → Text p (at + j * 32)

pub record Sound (p : List ℕ) : Type 0 where
  pub size : policy_size ≤ length p
  pub subjects : subject_count p ≤ 64
  pub names : (k : ℕ) → k < subject_count p → Text p (subject_at k)
  pub lines : isa_count p ≤ 128
  pub rules : rule_count p ≤ 128
  pub down : (k : ℕ) → k < isa_count p → (isa_r p k < isa_n p k) × (isa_n p k < 64)
  pub whos : (k : ℕ) → k < rule_count p → whose p k < 64
  pub paths : (k : ℕ) → k < rule_count p → Steps p (steps_at k) (step_count p k)
