-- Reading a line "from a place that only moves on" (document 01, "Lines").
use Rattle.std.specs.Prelude.{Option, Some, None, ℕ, suc, ◌+◌, ◌-◌, ◌≤◌, ◌*◌, ◌^◌, ◌<◌, ◌≡◌, cond, leb, eqb, List, [], ◌∷◌, ◌++◌, length, get_or, set, take, drop}
use Rattle.rights.specs.Bytes.{byte_at}
use Rattle.rights.specs.Labels.{label_byte}
use Rattle.rights.specs.How.Reading.{Onward}
use Rattle.rights.specs.Record.{pasted}
use Rattle.forms.specs.declared.part.Part.{Part}
use Rattle.forms.specs.declared.reader.Progress.{Progress}
use Rattle.forms.specs.declared.reader.LineReader.{LineReader}
use Rattle.forms.specs.declared.form.Form.{Form}
use Rattle.forms.specs.Part.{run_end}
use Rattle.forms.specs.Kind.{Kind, code_of, part_end}
use Rattle.forms.specs.Layout.{stage_of, shape_of, word_at}
use Rattle.forms.specs.Tree.{◌and_then◌, tree_end, tree_nodes, tail_end, tail_nodes, records_of}
use Rattle.forms.specs.Form.{Places, place_in, are, none, ◌onTo◌, parts_of, closes_line, ends_in, form_at, read_form}
use Rattle.forms.specs.How.Codes.{LaidOut, codes_of, stage_number, end_by, says_by, area_by}

-- the place that reading came to, if it moved on
abbrev pub moved_to : ℕ → ℕ → Option ℕ
moved_to from to = cond (leb to from) None (Some to)

-- the place after a word that a table has as n; 0 says that it has none
abbrev pub known_to : ℕ → ℕ → ℕ → Option ℕ
known_to n from to = cond (eqb n 0) None (moved_to from to)

-- a part that ends at a place and says a number, if there is the place
abbrev pub part_at : Option ℕ → ℕ → Option Part
part_at None v = None
part_at (Some e) v = Some (record { end = e; says = v })

-- a word that a table has, or has not
abbrev pub known_part : Option ℕ → ℕ → ℕ → Option Part
known_part None from to = None
known_part (Some v) from to = part_at (moved_to from to) v

-- the place after a part
abbrev pub end_of : Option Part → Option ℕ
end_of None = None
end_of (Some p) = Some p.end

-- what a part says, if there is one
abbrev pub Says : Option Part → ℕ → Type 0
Says r v = (p : Part) → r ≡ Some p → p.says ≡ v

-- What the reader of a tail promises, where n records stand already: what the definitions give at any number of parts that is enough
pub record TailEnd (s : List ℕ) (at depth : ℕ) (r : Option ℕ) : Type 0 where
  pub is : (f : ℕ) → length s ≤ f → r ≡ tail_end f depth at s
  pub on : (i : ℕ) → r ≡ Some i → (at + 1 ≤ i) × (i ≤ at + length s)

pub record TailPut (s : List ℕ) (depth n : ℕ) (before after : List ℕ) (r : ℕ) : Type 0 where
  pub is : (f : ℕ) → length s ≤ f → r ≡ n + length (tail_nodes f depth s)
  pub out : (f : ℕ) → length s ≤ f → after ≡ pasted before (32 * n) (records_of (tail_nodes f depth s))

pub record TailRead (s : List ℕ) (at depth n : ℕ) (before after : List ℕ) (r : Option Part) : Type 0 where
  pub end : TailEnd s at depth (end_of r)
  pub nodes : ℕ
  pub put : TailPut s depth n before after nodes
  pub says : Says r nodes

-- What the reader of a tree promises: the place after it, how many nodes were passed, and their records
pub record TreeRead (s : List ℕ) (at : ℕ) (before after : List ℕ) (r : Option Part) : Type 0 where
  pub end : Onward (tree_end s at) (end_of r) (at + 1) (length s)
  pub says : Says r (length (tree_nodes s at))
  pub out : after ≡ pasted before 0 (records_of (tree_nodes s at))

-- What the reader of a part promises, the kind by its number
pub record PartPassed (k : ℕ) (s : List ℕ) (at : ℕ) (r : Option Part) : Type 0 where
  pub end : Onward (end_by k s at) (end_of r) (at + 1) (length s)
  pub says : Says r (says_by k s at)

-- How a reader's progress changes: part i was passed up to e; the line is over

abbrev pub held_to : Progress → ℕ → ℕ → ℕ → Progress
held_to p i e v = record { at = e; layout = p.layout; ends = set p.ends (i + 1) e; says = set p.says i v }

abbrev pub shut_at : List ℕ → Progress → Option Progress
shut_at s p = cond (closes_line s p.at) (Some (record { at = length s; layout = p.layout; ends = p.ends; says = p.says })) None

-- What the form's parts say, so far as they were passed: what stands in says is what the part of that number says
abbrev pub Said : List ℕ → ℕ → Progress → Type 0
Said s i p = (j : ℕ) → j < i → get_or p.says j 0 ≡ says_by (get_or (codes_of (shape_of (word_at s 1))) j 0) s (place_in p.ends j + 1)

-- The word and i parts were passed, or all parts if there are fewer. The reader stands after them; before are the places at which it stood, after the word
-- and after each part, and what is to be read of the line is what stands from the reader's place on.
pub record Reading (s : List ℕ) (i : ℕ) (p : Progress) : Type 0 where
  pub laid : LaidOut (word_at s 1) p.layout
  pub within : p.at ≤ length s
  pub before : List ℕ
  pub read : ends_in s ≡ before onTo parts_of (drop i (shape_of (word_at s 1))) s p.at
  pub count : i ≤ length (shape_of (word_at s 1)) → length before ≡ i
  pub places : (j : ℕ) → place_in (before ++ (p.at ∷ [])) j ≡ place_in p.ends j
  pub under : (j : ℕ) → place_in p.ends j ≤ p.at
  pub said : Said s i p
  pub unsaid : (j : ℕ) → i ≤ j → get_or p.says j 0 ≡ 0
  pub five : length p.ends ≡ 5
  pub four : length p.says ≡ 4

-- The whole line was passed: the reader stands at its end, and the places at which it stood are those of the definition.
pub record Whole (s : List ℕ) (p : Progress) : Type 0 where
  pub laid : LaidOut (word_at s 1) p.layout
  pub over : p.at ≡ length s
  pub places : List ℕ
  pub read : ends_in s ≡ are places
  pub same : (j : ℕ) → place_in places j ≡ place_in p.ends j
  pub inside : (j : ℕ) → place_in p.ends j < length s
  pub said : Said s 4 p
  pub five : length p.ends ≡ 5
  pub four : length p.says ≡ 4

-- so far as all was there; once something is missing, the line is no form
abbrev pub Came : List ℕ → ℕ → Option Progress → Type 0
Came s i None = ends_in s ≡ none
Came s i (Some p) = Reading s i p

-- What the reader of a line promises: its last place is the line's end
abbrev pub Walks : List ℕ → Option Progress → Type 0
Walks s None = ends_in s ≡ none
Walks s (Some p) = Whole s p

-- how far a reader came, if there is one
abbrev pub taken : Option LineReader → Option Progress
taken None = None
taken (Some r) = Some r.progress

-- the area once the parts of a shape were read from a place on: a tree's records are put while it is passed, also if what follows is missing
unfoldable pub area_after : List Kind → List ℕ → ℕ → List ℕ → List ℕ
area_after [] s at a = a
area_after (k ∷ ks) s at a =
    cond (eqb (byte_at s at) 32)
    (part_end k s (at + 1) and_then (area_by (code_of k) s (at + 1) a, λ e. area_after ks s e (area_by (code_of k) s (at + 1) a)))
    a

-- the area once a line was read
unfoldable pub area_in : List ℕ → List ℕ → List ℕ
area_in s a = cond (eqb (byte_at s 0) 40) (run_end label_byte s 1 and_then (a, λ e. area_after (shape_of (word_at s 1)) s e a)) a

-- what the area is in the end, where i parts were passed and the area is a now
abbrev pub area_from : List ℕ → ℕ → Option Progress → List ℕ → List ℕ
area_from s i None a = a
area_from s i (Some p) a = area_after (drop i (shape_of p.layout.word)) s p.at a

-- `(` and the word were passed, or one of them is missing
pub record Begun (s : List ℕ) (r : Option Progress) : Type 0 where
  pub came : Came s 0 r
  pub area : (a : List ℕ) → area_in s a ≡ area_from s 0 r a

-- What a reader promises that takes part i: its place never falls, and what the area is in the end stays the same
pub record Moves (s : List ℕ) (i : ℕ) (p : Progress) (a : List ℕ) (r : Option Progress) (b : List ℕ) : Type 0 where
  pub on : (q : Progress) → r ≡ Some q → p.at ≤ q.at
  pub area : area_from s i (Some p) a ≡ area_from s (suc i) r b

-- the places of a line's parts; none if it is no form
abbrev pub listed : Places → List ℕ
listed (are es) = es
listed none = []

-- five places, each with room for a step
abbrev pub Ends : List ℕ → Type 0
Ends es = (length es ≡ 5) × ((i : ℕ) → place_in es i + 1 < 2 ^ 64)

-- What the reader of a line hands on: the form's word and stage, the places of its parts, and what each of them says
pub record FormRead (s : List ℕ) (f : Form) : Type 0 where
  pub form : read_form s ≡ form_at f.word s (place_in f.ends)
  pub stage : stage_number f.stage ≡ stage_of f.word
  pub places : (j : ℕ) → place_in f.ends j ≡ place_in (listed (ends_in s)) j
  pub says : (j : ℕ) → j < 4 → get_or f.says j 0 ≡ says_by (get_or (codes_of (shape_of f.word)) j 0) s (place_in f.ends j + 1)
  pub ends : Ends f.ends
  pub four : length f.says ≡ 4

-- Each place lies behind the one before it
unfoldable pub Rises : ℕ → List ℕ → Type 0
Rises a [] = Unit {0}
Rises a (b ∷ bs) = (a < b) × Rises b bs

-- the bytes between each place and the next, one stretch after the other
unfoldable pub between : List ℕ → ℕ → List ℕ → List ℕ
between s a [] = []
between s a (b ∷ bs) = take (b - a) (drop a s) ++ between s b bs

-- The places at which the reader of a whole line stood: before the first byte, after the word and each part, after the last byte. Each lies behind the one
-- before it, and what was passed between them, put together, is the line: no byte was left out, and none was passed twice.
pub record Once (s : List ℕ) (es : List ℕ) : Type 0 where
  pub rises : Rises 0 (es ++ (length s ∷ []))
  pub bytes : between s 0 (es ++ (length s ∷ [])) ≡ s
