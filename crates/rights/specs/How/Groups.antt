-- How the rules of one right are worked out together: their automata side by side in one number, and the steps that a label passes by its number. proofs/GroupLaws.antt
-- shows that each rule's last state is there where its path finds the node, proofs/FiveRights.antt that the five rights make the set that `by_rules` says.
use Rattle.std.specs.Prelude.{ℕ, zero, suc, ◌+◌, ◌*◌, ◌/◌, ◌%◌, ◌^◌, ◌≤◌, ◌<◌, Bool, true, false, cond, not, ◌&&◌, ◌||◌, ◌≡◌, List, [], ◌∷◌, ◌++◌, map, eqb, ltb, length, get_or, replicate}
use Rattle.std.specs.Int.Bits.{bit_and}
use Rattle.rights.specs.Limits.{records_max}
use Rattle.rights.specs.PolicyBytes.{rule_count, step_count, steps_at, right_bit, whose, accepts}
use Rattle.rights.specs.How.Roles.{Subjects}
use Rattle.rights.specs.Policy.{Right, position, read, insert, update, delete, bit_of, Policy}
use Rattle.rights.specs.Rights.{Step, ruled_set, tried, reaches, holds, rights_by, chains}
use Rattle.rights.specs.How.Automaton.{value, deeps, passed_by, rule_path, Sound}
use Rattle.rights.specs.Table.{rec_at, record_at, records_from, records_ok, label}
use Rattle.rights.specs.How.Vocabulary.{listed_number, Words, Sorted}

-- bit j of a number
abbrev pub bit_at : ℕ → ℕ → Bool
bit_at m j = eqb (m / 2 ^ j % 2) 1

-- these bits are set in the rows of the labels that f passes; nothing else is changed
pub record Noted (number : List ℕ → ℕ) (rows rows' : List ℕ) (bits : ℕ) (f : List ℕ → Bool) : Type 0 where
  pub long : length rows' ≡ length rows
  pub row : (x : List ℕ) (i : ℕ) → bit_at (get_or rows' (number x) 0) i ≡ bit_at (get_or rows (number x) 0) i || (f x && bit_at bits i)

-- a rule: whether it counts, its path, and what it says
pub record Ruling : Type 0 where
  pub on : Bool
  pub path : List Step
  pub accept : Bool

-- rule k counts for the right with bit b and a subject with these roles
abbrev pub counts : List ℕ → List ℕ → ℕ → ℕ → Bool
counts p roles b k = eqb (right_bit p k) b && not (eqb (get_or roles (whose p k) 0) 0)

-- rule k, for a subject with these roles, where `$` stands for the subjects own, and the right with bit b
abbrev pub ruling_at : List ℕ → List ℕ → List ℕ → ℕ → ℕ → Ruling
ruling_at p own roles b k = record {
  on = counts p roles b k;
  path = rule_path p own k;
  accept = accepts p k;
}

-- no label goes on from the end of a path
abbrev pub never : Step
never = record { deep = false; passed = λ x. false }

-- what n rules from rule i on take, one after the other
unfoldable pub cat : {A : Type 0} → (Ruling → List A) → (ℕ → Ruling) → ℕ → ℕ → List A
cat f q i zero = []
cat f q i (suc n) = cond (q (i + n)).on (cat f q i n ++ f (q (i + n))) (cat f q i n)

-- their steps, and their first states
abbrev pub ruling_steps : Ruling → List Step
ruling_steps l = l.path ++ (never ∷ [])

abbrev pub ruling_starts : Ruling → List Bool
ruling_starts l = true ∷ replicate (length l.path) false

abbrev pub laid : (ℕ → Ruling) → ℕ → ℕ → List Step
laid q i n = cat ruling_steps q i n

abbrev pub firsts : (ℕ → Ruling) → ℕ → ℕ → List Bool
firsts q i n = cat ruling_starts q i n

-- the bit of rule i + k that says that its path finds the node
abbrev pub end_at : (ℕ → Ruling) → ℕ → ℕ → ℕ
end_at q i k = length (laid q i k) + length (q (i + k)).path

-- the states m say of each rule whether its path finds the end of the chain c
abbrev pub Agrees : (ℕ → Ruling) → ℕ → ℕ → List (List ℕ) → ℕ → Type 0
Agrees q i n c m = (k : ℕ) → k < n → (q (i + k)).on ≡ true → bit_at m (end_at q i k) ≡ reaches (q (i + k)).path c

-- the set after n rules from rule i on, on a node with the chain c
unfoldable pub ruled : (ℕ → Ruling) → ℕ → List (List ℕ) → ℕ → ℕ → ℕ → ℕ
ruled q b c i zero x = x
ruled q b c i (suc n) x = cond (q (i + n)).on (tried (q (i + n)).path c b (q (i + n)).accept (ruled q b c i n x)) (ruled q b c i n x)

-- a rule that counts and finds every node
pub record General (l : Ruling) : Type 0 where
  pub on : l.on ≡ true
  pub all : (c : List (List ℕ)) (x : List ℕ) → reaches l.path (c ++ (x ∷ [])) ≡ true

-- all rules of one right, if it is asked, and of the five rights in turn
abbrev pub by_right : List ℕ → List ℕ → List ℕ → List (List ℕ) → ℕ → ℕ → ℕ
by_right p own roles c b x = ruled (ruling_at p own roles b) b c 0 (rule_count p) x

abbrev pub by_asked : List ℕ → List ℕ → List ℕ → List (List ℕ) → ℕ → Right → ℕ → ℕ
by_asked p own roles c asked w x = cond (holds w asked) (by_right p own roles c (bit_of w) x) x

abbrev pub by_five : List ℕ → List ℕ → List ℕ → List (List ℕ) → ℕ → ℕ → ℕ
by_five p own roles c asked x =
    let by = by_asked p own roles c asked in by delete (by update (by insert (by read (by position x))))

-- all rules of the first k rights: right j has the bit 2 ^ j
unfoldable pub by_first : List ℕ → List ℕ → List ℕ → List (List ℕ) → ℕ → ℕ → ℕ → ℕ
by_first p own roles c asked zero x = x
by_first p own roles c asked (suc k) x =
    let y = by_first p own roles c asked k x in cond (eqb (asked / 2 ^ k % 2) 1) (by_right p own roles c (2 ^ k) y) y

-- the later rule has the higher bit: the higher of the two numbers wins
abbrev pub settled : ℕ → ℕ → ℕ → ℕ → ℕ
settled b y n x = cond (ltb n y) (ruled_set x b true) (cond (ltb y n) (ruled_set x b false) x)

-- The steps ss in numbers: the deep ones, those that all labels pass, those that are `$` and not yet in the rows, and a row for each number of a label, with the other
-- steps that such a label passes; mine are the labels that pass `$`.
pub record Packed (number : List ℕ → ℕ) (mine : List ℕ → Bool) (ss : List Step) (deep every own : ℕ) (rows : List ℕ) : Type 0 where
  pub long : length rows ≡ 2113
  pub deep_bits : (j : ℕ) → bit_at deep j ≡ get_or (deeps ss) j false
  pub row : (x : List ℕ) (j : ℕ) → get_or (passed_by ss x) j false ≡ bit_at every j || (bit_at (get_or rows (number x) 0) j || (mine x && bit_at own j))

-- n rules from rule i on in numbers
pub record Grouped (number : List ℕ → ℕ) (mine : List ℕ → Bool) (q : ℕ → Ruling) (b i n : ℕ) (deep every own start yes noes used : ℕ) (rows : List ℕ) : Type 0 where
  pub packed : Packed number mine (laid q i n) deep every own rows
  pub used_is : used ≡ length (laid q i n)
  pub start_is : start ≡ value (firsts q i n)
  pub yes_low : yes < 2 ^ length (laid q i n)
  pub no_low : noes < 2 ^ length (laid q i n)
  pub says : (m x : ℕ) (c : List (List ℕ)) → x < 256 → Agrees q i n c m → ruled q b c i n x ≡ settled b (bit_and m yes) (bit_and m noes) x

-- the text of a step at a place is among the words, if it is a label
abbrev pub Known : List ℕ → List ℕ → ℕ → ℕ → Type 0
Known p ws n at =
    (get_or (label (rec_at p at)) 0 0 ≡ 42 → ⊥) → (get_or (label (rec_at p at)) 0 0 ≡ 36 → ⊥) → 0 < listed_number p ws n (label (rec_at p at))

-- what a rule asks: a sound policy, and words that have the label of each step that names one
pub record Listed (p ws : List ℕ) (n : ℕ) : Type 0 where
  pub sound : Sound p
  pub words : Words p ws n
  pub known : (r j : ℕ) → r < rule_count p → j < step_count p r → Known p ws n (steps_at r + j * 32)

-- what the work on a policy's groups asks: a sound policy, the subjects of it for which `$` stands, and the words
pub record Ready (p own ws : List ℕ) (n : ℕ) : Type 0 where
  pub sound : Sound p
  pub subjects : Subjects p own
  pub sorted : Sorted p own ws n

-- the first n records of the table t with the numbers of their labels
pub record Numbered (p ws : List ℕ) (count : ℕ) (t : List ℕ) (n : ℕ) (numbers : List ℕ) : Type 0 where
  pub few : n ≤ records_max
  pub room : 4 + n * 32 ≤ length t
  pub records : records_ok 0 0 (records_from t n 0) ≡ true
  pub long : n ≤ length numbers
  pub at : (i : ℕ) → i < n → get_or numbers i 0 ≡ listed_number p ws count (label (record_at t i))

-- Of those rights the ones that are asked, by a set of rights.
abbrev pub asked_on : ℕ → Policy → ℕ → List (List ℕ) → List ℕ
asked_on asked P u rs = map (λ c. bit_and (rights_by P u c) asked) (chains [] rs)
