-- The list of a policy's words: what it holds, and what adding to it does.
use Rattle.std.specs.Prelude.{ℕ, ◌+◌, ◌≤◌, Bool, ◌||◌, ◌≡◌, List}
use Rattle.rights.specs.declared.vocabulary.WordList.{WordList}
use Rattle.rights.specs.How.Vocabulary.{listed_word, listed_number, is_listed}

-- word i, and the number of a label
abbrev pub word_in : WordList → ℕ → List ℕ
word_in w i = listed_word w.policy.now w.places i

abbrev pub number_in : WordList → List ℕ → ℕ
number_in w x = listed_number w.policy.now w.places w.count x

abbrev pub in_list : WordList → List ℕ → Bool
in_list w x = is_listed w.policy.now w.places w.count x

-- at most k words more of the same policy: those that f passes
pub record Adds (w w' : WordList) (k : ℕ) (f : List ℕ → Bool) : Type 0 where
  pub policy : w'.policy.now ≡ w.policy.now
  pub few : w'.count ≤ w.count + k
  pub holds : (x : List ℕ) → in_list w' x ≡ in_list w x || f x
