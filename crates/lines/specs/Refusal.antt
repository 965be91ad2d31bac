-- The refusals (document 01, "Who can be turned down, and for what", and what the cards of document 02 add): their numbers, their order, and a line's tests.
use Rattle.std.specs.Prelude.{Result, Ok, Err, ℕ, suc, Bool, true, false, cond, ◌&&◌, ◌≡◌, List, [], ◌∷◌, eqb, leb, ltb}
use Rattle.lines.specs.Outcome.{Answer, Accepted, Refused, Outcome, refusal}
use Rattle.lines.specs.declared.refusals.Refusal.{Refusal}
use Rattle.lines.specs.declared.refusals.Refusal.TheVariants.{BadLine, NoForm, WrongStage, BadPath, BadName, RuleBracket, PolicyFull, NoUserYet, BannedLabel, LevelTooDeep, TableFull, AreaShort, BadStore, NoDocument, BadDay}

-- "1 too long or a byte outside 32 to 126"
abbrev pub bad_line : ℕ
bad_line = 1

-- "2 no form listed above"
abbrev pub no_form : ℕ
no_form = 2

-- "3 wrong stage"
abbrev pub wrong_stage : ℕ
wrong_stage = 3

-- "4 path not well formed"
abbrev pub bad_path : ℕ
bad_path = 4

-- "5 a name unknown, declared twice, an isa line repeated, or R not before N"
abbrev pub bad_name : ℕ
bad_name = 5

-- "6 a bracket in a rule's path"
abbrev pub rule_bracket : ℕ
rule_bracket = 6

-- "7 more than the policy's maximum"
abbrev pub policy_full : ℕ
policy_full = 7

-- "8 no user yet"
abbrev pub no_user_yet : ℕ
no_user_yet = 8

-- "9 RESTRICTED as a label of root, child, inserted tree, subject, rule's path or new label, or a policy word as new label of rename or update"
abbrev pub banned_label : ℕ
banned_label = 9

-- "10 a level above 11 in a child line or at a place that would be done"
abbrev pub level_too_deep : ℕ
level_too_deep = 10

-- "11 fewer free records than the whole line needs"
abbrev pub table_full : ℕ
table_full = 11

-- "12 answer area shorter than the answer"
abbrev pub area_short : ℕ
area_short = 12

-- "13 a table .. against "Tree and table"; a state against the limits, names, paths or stages above; a root in the table without the root line taken, or the
-- reverse"; "13 takes in bad windows and a state's day outside 1 to 366" (document 02, card 7)
abbrev pub bad_store : ℕ
bad_store = 13

-- "14 .. for attributes, comments, declarations, entities, CDATA, mismatched tags or anything else outside this kind" (document 02, card 2); no line is refused
-- with it
abbrev pub no_document : ℕ
no_document = 14

-- "15, after 10, for a day outside 1 to 366 or F after T" (document 02, card 7)
abbrev pub bad_day : ℕ
bad_day = 15

-- the number of a refusal
abbrev pub number_of : Refusal → ℕ
number_of BadLine = bad_line
number_of NoForm = no_form
number_of WrongStage = wrong_stage
number_of BadPath = bad_path
number_of BadName = bad_name
number_of RuleBracket = rule_bracket
number_of PolicyFull = policy_full
number_of NoUserYet = no_user_yet
number_of BannedLabel = banned_label
number_of LevelTooDeep = level_too_deep
number_of TableFull = table_full
number_of AreaShort = area_short
number_of BadStore = bad_store
number_of NoDocument = no_document
number_of BadDay = bad_day

-- the number of what a test refuses with, and 0 if it refuses nothing
abbrev pub refusal_number : {A : Type 0} → Result A Refusal → ℕ
refusal_number (Ok v) = 0
refusal_number (Err r) = number_of r

-- what a call returns, by the numbers
abbrev pub numbered : Result ℕ Refusal → Answer
numbered (Ok n) = Accepted n
numbered (Err r) = Refused (number_of r)

-- "13 is tested first, then 1 to 12 rising."; "14, after 4"; "15, after 10"
abbrev pub order : List ℕ
order =
    bad_store
    ∷ bad_line
    ∷ no_form
    ∷ wrong_stage
    ∷ bad_path
    ∷ no_document
    ∷ bad_name
    ∷ rule_bracket
    ∷ policy_full
    ∷ no_user_yet
    ∷ banned_label
    ∷ level_too_deep
    ∷ bad_day
    ∷ table_full
    ∷ area_short
    ∷ []

-- the place of a number in that order
unfoldable pub index_in : List ℕ → ℕ → ℕ
index_in [] n = 0
index_in (m ∷ ms) n = cond (eqb n m) 0 (suc (index_in ms n))

abbrev pub rank : ℕ → ℕ
rank n = index_in order n

-- A test of a line: where it fails, the line is refused with the number.
pub record Check : Type 0 where
  pub number : ℕ
  pub fails : Bool

abbrev pub check : ℕ → Bool → Check
check n b = record { number = n; fails = b }

-- the last test of every line: an answer of n bytes, in an area of `room`
abbrev pub area_check : ℕ → ℕ → Check
area_check room n = check area_short (ltb room n)

-- Refused by the first check that fails, else what follows
unfoldable pub checked : List Check → List ℕ → List ℕ → Outcome → Outcome
checked [] s t o = o
checked (c ∷ cs) s t o = cond c.fails (refusal c.number s t) (checked cs s t o)

-- the number of that check, and 0 if none fails
abbrev pub first_refusal : List Check → ℕ
first_refusal [] = 0
first_refusal (c ∷ cs) = cond c.fails c.number (first_refusal cs)

-- none of the checks fails
abbrev pub Passed : List Check → Type 0
Passed [] = Unit {0}
Passed (c ∷ cs) = (c.fails ≡ false) × Passed cs

-- every check has a number that says a refusal
abbrev pub all_numbered : List Check → Bool
all_numbered [] = true
all_numbered (c ∷ cs) = ltb 0 c.number && all_numbered cs

-- no check has a number before that of the one in front of it; the first is of rank k at least
unfoldable pub rising : ℕ → List Check → Bool
rising k [] = true
rising k (c ∷ cs) = leb k (rank c.number) && rising (rank c.number) cs

abbrev pub Ordered : List Check → Type 0
Ordered cs = rising 0 cs ≡ true
