-- One pass over the tokens of a document: whether they nest, what its nodes are like, and whether the closing tags of a window of levels match.
use Rattle.std.specs.Prelude.{Option, Some, None, ℕ, zero, suc, ◌+◌, ◌-◌, ◌≤◌, ◌<◌, max, ◌≡◌, Bool, true, false, cond, ◌&&◌, ◌||◌, List, [], ◌∷◌, map, eqb, leb, ltb, length, get_or, set, take, drop}
use Rattle.rights.specs.Labels.{label_byte}
use Rattle.rights.specs.Nodes.{Node, node, level_of}
use Rattle.rights.specs.PathReader.{run_at}
use Rattle.xml.specs.How.Tokens.{Token, opens, closes, empty, text, Tokens, got, bad, tokens_from, tokens, nested, same_bytes, token_nodes}
use Rattle.xml.specs.How.Loading.{deepest, is_restricted}
use Rattle.xml.specs.declared.document.Tally.{Tally}
use Rattle.xml.specs.declared.document.Pass.{Pass}
use Rattle.std.specs.declared.ops.ControlFlow.{ControlFlow}
use Rattle.std.specs.declared.ops.ControlFlow.TheVariants.{Continue, Break}

-- The nodes are told one by one.
abbrev pub tallied : Tally → Node → Tally
tallied t x = record { nodes = t.nodes + 1; deepest = max t.deepest (level_of x); restricted = t.restricted || is_restricted x }

unfoldable pub tally_all : Tally → List Node → Tally
tally_all t [] = t
tally_all t (x ∷ xs) = tally_all (tallied t x) xs

abbrev pub no_nodes : Tally
no_nodes = record { nodes = 0; deepest = 0; restricted = false }

-- A window of w levels from low on
abbrev pub in_window : ℕ → ℕ → ℕ → Bool
in_window low w l = leb low l && ltb (l - low) w

-- "a closing tag .. must .. match exactly", of the elements whose levels are in the window; ns are the names of the open elements, the innermost first
unfoldable pub matched_within : ℕ → ℕ → List (List ℕ) → List Token → Bool
matched_within low w ns [] = true
matched_within low w ns (opens n ∷ xs) = matched_within low w (n ∷ ns) xs
matched_within low w [] (closes n ∷ xs) = true
matched_within low w (m ∷ ns) (closes n ∷ xs) = cond (in_window low w (length ns)) (same_bytes m n) true && matched_within low w ns xs
matched_within low w ns (empty n ∷ xs) = matched_within low w ns xs
matched_within low w ns (text l ∷ xs) = matched_within low w ns xs

-- as many levels as one pass compares
abbrev pub window : ℕ
window = 16384

-- what a pass tells that compares the closing tags of a window
abbrev pub kind_within : ℕ → ℕ → Tokens → Option Tally
kind_within low w (got xs) = cond (nested xs && matched_within low w [] xs) (Some (tally_all no_nodes (token_nodes 0 xs))) None
kind_within low w bad = None

-- The names of the open elements of the window, by their levels: an element of level l opens, and a tag closes one of level l.
abbrev pub opened : ℕ → List (List ℕ) → ℕ → List ℕ → List (List ℕ)
opened low names l n = cond (in_window low (length names) l) (set names (l - low) n) names

abbrev pub closes_it : ℕ → List (List ℕ) → ℕ → List ℕ → Bool
closes_it low names l n = cond (in_window low (length names) l) (same_bytes (get_or names (l - low) []) n) true

-- what is told in the end, where d elements are open
unfoldable pub told : ℕ → List (List ℕ) → ℕ → Tally → List Token → Option Tally
told low names d t [] = cond (eqb d 0) (Some t) None
told low names zero t (x ∷ xs) = None
told low names (suc d) t (opens n ∷ xs) = told low (opened low names (suc d) n) (suc (suc d)) (tallied t (node (suc d) n)) xs
told low names (suc d) t (closes n ∷ xs) = cond (closes_it low names d n) (told low names d t xs) None
told low names (suc d) t (empty n ∷ xs) = told low names (suc d) (tallied t (node (suc d) n)) xs
told low names (suc d) t (text l ∷ xs) = told low names (suc d) (tallied t (node (suc d) l)) xs

abbrev pub told_by : ℕ → List (List ℕ) → ℕ → Tally → Tokens → Option Tally
told_by low names d t (got xs) = told low names d t xs
told_by low names d t bad = None

-- the label at a place
abbrev pub name_at : List ℕ → ℕ → List ℕ
name_at s p = take (run_at label_byte s p) (drop p s)

-- the places, likewise: an element of level l opens, whose name stands at p
abbrev pub placed : ℕ → List ℕ → ℕ → ℕ → List ℕ
placed low places l p = cond (in_window low (length places) l) (set places (l - low) p) places

-- The same by the code's state: the window's names by their places. At most f tokens are read.
abbrev pub told_at : List ℕ → ℕ → List ℕ → ℕ → Pass → Option Tally
told_at s low places f p = told_by low (map (name_at s) places) p.depth p.tally (tokens_from f (drop p.at s))

abbrev pub told_after : List ℕ → ℕ → List ℕ → ℕ → ControlFlow (Option Tally) Pass → Option Tally
told_after s low places f (Continue p) = told_at s low places f p
told_after s low places f (Break k) = k

-- a pass that has come to a place: what was counted lies before it
pub record Ready (s : List ℕ) (places : List ℕ) (p : Pass) : Type 0 where
  pub within : p.at ≤ length s
  pub depth : p.depth ≤ p.at
  pub nodes : p.tally.nodes ≤ p.at
  pub before : (k : ℕ) → get_or places k 0 < p.at

abbrev pub Onwards : List ℕ → List ℕ → Pass → ControlFlow (Option Tally) Pass → Type 0
Onwards s places p (Continue q) = (p.at < q.at) × Ready s places q
Onwards s places p (Break k) = Unit {0}

-- what one step of a pass promises
pub record Steps (s : List ℕ) (low : ℕ) (before after : List ℕ) (p : Pass) (r : ControlFlow (Option Tally) Pass) : Type 0 where
  pub is : (f : ℕ) → told_at s low before (suc f) p ≡ told_after s low after f r
  pub on : Onwards s after p r

-- a document's tokens, of which the first window matches
pub record FirstWindow (s : List ℕ) (deep : ℕ) (xs : List Token) : Type 0 where
  pub read : tokens s ≡ got xs
  pub nests : nested xs ≡ true
  pub matches : matched_within 0 window [] xs ≡ true
  pub deep_is : deepest (token_nodes 0 xs) ≡ deep
