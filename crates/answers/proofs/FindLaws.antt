-- `find`: "the first selected node in document order", "the same one the printed list starts with". Assumes nothing.
use Prim.Native.Nat.{ℕ, zero, suc, ◌<◌}
use mathlib.Core.Path.{◌≡◌, refl}
use mathlib.Core.Bool.{Bool, true, false, false≢true}
use mathlib.Core.List.{List, [], ◌∷◌, ◌++◌, append_assoc}
use mathlib.Core.Logic.{◌⊎◌, inl, inr}
use native.Mathlib.Omega.{arith}
use lib.ListN.{length, get_or}
use Rattle.rights.specs.Marks.{keep}
use Rattle.rights.specs.Nodes.{Node, node, level_at, label_at}
use Rattle.answers.specs.Answer.{none_line, hit_line, hit_lines, query_text, find_text, end_line}

-- mark k is set, and none before it; no mark is set
abbrev pub FirstSet : List Bool → ℕ → Type 0
FirstSet ms k = (get_or ms k false ≡ true) × ((j : ℕ) → j < k → get_or ms j false ≡ false)

abbrev pub NoneSet : List Bool → Type 0
NoneSet ms = (j : ℕ) → get_or ms j false ≡ false

-- One of both is the case.
pub first_or_none : (ms : List Bool) → ((k : ℕ) × FirstSet ms k) ⊎ NoneSet ms
first_or_none [] = inr (λ j. refl)
first_or_none (true ∷ ms) = inl (0, (refl, λ j h. absurd (omega arith)))
first_or_none (false ∷ ms) = go (first_or_none ms)
  where
    later : (k : ℕ) → FirstSet ms k → (j : ℕ) → j < suc k → get_or (false ∷ ms) j false ≡ false
    later k f zero h = refl
    later k f (suc j) h = f.1 j (omega arith)

    never : NoneSet ms → NoneSet (false ∷ ms)
    never none zero = refl
    never none (suc j) = none j

    go : ((k : ℕ) × FirstSet ms k) ⊎ NoneSet ms → ((k : ℕ) × FirstSet (false ∷ ms) k) ⊎ NoneSet (false ∷ ms)
    go (inl (k, f)) = inl (suc k, (f.0, later k f))
    go (inr none) = inr (never none)

-- The answer where a mark stands for each node
pub first_found : (ms : List Bool) (ns : List Node) (k : ℕ) → length ms ≡ length ns → FirstSet ms k
    → find_text (keep ms ns) ≡ hit_line (node (level_at ns k) (label_at ns k))
unfolding keep level_at label_at
first_found [] ns k h f = absurd (false≢true f.0)
first_found (b ∷ bs) [] k h f = absurd (omega arith)
first_found (b ∷ bs) (node l x ∷ ns) zero h f = rw f.0
first_found (b ∷ bs) (n ∷ ns) (suc k) h f = rw (f.1 0 (omega arith)) (first_found bs ns k (omega arith) (f.0, λ j i. f.1 (suc j) (omega arith)))

pub none_found : (ms : List Bool) (ns : List Node) → NoneSet ms → find_text (keep ms ns) ≡ none_line
unfolding keep
none_found [] ns none = refl
none_found (b ∷ bs) [] none = refl
none_found (b ∷ bs) (n ∷ ns) none = rw (none 0) (none_found bs ns (λ j. none (suc j)))

-- Where there is a hit, the answer to `query` begins with the answer to `find`.
pub find_begins_query : (n : Node) (ns : List Node) → query_text (n ∷ ns) ≡ find_text (n ∷ ns) ++ (hit_lines ns ++ end_line (suc (length ns)))
unfolding hit_lines
find_begins_query n ns = append_assoc (hit_line n) (hit_lines ns) (end_line (suc (length ns)))
