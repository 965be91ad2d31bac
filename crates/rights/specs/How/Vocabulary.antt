-- How a label is found among the words of a policy: the words sorted, each once, and a label's number its word's place among them. proofs/VocabularyLaws.antt shows that
-- a label has a word's number exactly if it is that word.
use Rattle.std.specs.Prelude.{ℕ, zero, suc, ◌+◌, ◌≤◌, ◌<◌, Bool, true, false, cond, ◌||◌, ◌≡◌, List, [], ◌∷◌, ltb, length, get_or, Result, Ok, Err}
use Rattle.rights.specs.Labels.{same_label, folded_label}
use Rattle.rights.specs.Table.{rec_at, label}
use Rattle.rights.specs.Policy.{Rule, some, uses, policy_word}
use Rattle.rights.specs.PolicyBytes.{policy_of, rule_count, rules_from}
use Rattle.rights.specs.How.Places.{Text}
use Rattle.rights.specs.How.Roles.{name_among}

-- Which of two lists stands first, by the first place where they differ: 0 for the first list, 2 for the second, 1 where they are equal.
unfoldable pub byte_order : List ℕ → List ℕ → ℕ
byte_order [] [] = 1
byte_order [] (y ∷ ys) = 0
byte_order (x ∷ xs) [] = 2
byte_order (x ∷ xs) (y ∷ ys) = cond (ltb x y) 0 (cond (ltb y x) 2 (byte_order xs ys))

-- Labels are sorted by their length, and those of one length by what their bytes are compared by.
abbrev pub label_order : List ℕ → List ℕ → ℕ
label_order x y = byte_order (length x ∷ folded_label x) (length y ∷ folded_label y)

-- word i, where ws are the places of the words' records in the policy
abbrev pub listed_word : List ℕ → List ℕ → ℕ → List ℕ
listed_word p ws i = label (rec_at p (get_or ws i 0))

-- the number of a label among n words, from 1 on, and 0 for one that is no word
unfoldable pub word_number : (ℕ → List ℕ) → ℕ → List ℕ → ℕ
word_number f zero x = 0
word_number f (suc n) x = cond (same_label (f n) x) (suc n) (word_number f n x)

abbrev pub listed_number : List ℕ → List ℕ → ℕ → List ℕ → ℕ
listed_number p ws n x = word_number (listed_word p ws) n x

-- n words, sorted and each once
pub record Words (p ws : List ℕ) (n : ℕ) : Type 0 where
  pub long : length ws ≡ 2112
  pub few : n ≤ 2112
  pub texts : (i : ℕ) → i < n → Text p (get_or ws i 0)
  pub sorted : (i j : ℕ) → i < j → j < n → label_order (listed_word p ws i) (listed_word p ws j) ≡ 0

-- where a label stands among n sorted words: at one that it is, or between those before it and those behind it
abbrev pub Stands : (ℕ → List ℕ) → ℕ → List ℕ → Result ℕ ℕ → Type 0
Stands f n x (Ok i) = (i < n) × (label_order (f i) x ≡ 1)
Stands f n x (Err i) =
    (i ≤ n) × ((j : ℕ) → j < i → label_order (f j) x ≡ 0) × ((j : ℕ) → i ≤ j → j < n → label_order (f j) x ≡ 2)

-- one place more among n, at place i; those behind it move up
pub record Inserted (ws ws' : List ℕ) (n i at : ℕ) : Type 0 where
  pub same : length ws' ≡ length ws
  pub low : (j : ℕ) → j < i → get_or ws' j 0 ≡ get_or ws j 0
  pub here : get_or ws' i 0 ≡ at
  pub high : (j : ℕ) → i ≤ j → j < n → get_or ws' (j + 1) 0 ≡ get_or ws j 0

-- a label is among n words
abbrev pub is_listed : List ℕ → List ℕ → ℕ → List ℕ → Bool
is_listed p ws n x = ltb 0 (listed_number p ws n x)

-- the label is named by some rule's path
abbrev pub named : List ℕ → List ℕ → Bool
named p x = some (λ (r : Rule). some (uses false x) r.path) (rules_from p (rule_count p) 0)

-- a rule uses `$`
abbrev pub uses_own : List ℕ → Bool
uses_own p = some (λ (r : Rule). some (uses true []) r.path) (rules_from p (rule_count p) 0)

-- The words for a subject's rights: the names of the subjects for which `$` stands, and the labels that the rules name.
pub record Sorted (p own ws : List ℕ) (n : ℕ) : Type 0 where
  pub words : Words p ws n
  pub holds : (x : List ℕ) → is_listed p ws n x ≡ name_among p own x || named p x

-- The policy words, sorted (document 01, "Rights").
pub record PolicyWords (p ws : List ℕ) (n : ℕ) : Type 0 where
  pub words : Words p ws n
  pub holds : (x : List ℕ) → is_listed p ws n x ≡ policy_word (policy_of p) x
