-- The starred cases of document 01 ("Cases (★ proved)") as one table, and the cases of document 02's cards. Each row is a run from a new store: lines as they are typed, each with what it must be answered.
-- The rows go through `step` on the lines' bytes. The theorems stand in proofs/Cases.antt; they assume nothing.
use Rattle.std.specs.Prelude.{ℕ, ◌+◌, ◌*◌, ◌≡◌, List, [], ◌∷◌, ◌++◌, map, replicate}
use Prim.Native.String.{String}
use Rattle.rights.specs.Bytes.{bytes}
use Rattle.rights.specs.Limits.{state_size}
use Rattle.views.specs.Nodes.{All}
use Rattle.lines.specs.Outcome.{Reply, says, refuses}
use Rattle.guarantee.specs.Alike.{Input, outcome}

-- the replies to lines, each on the state and the table that the one before it left
unfoldable pub replies : List ℕ → List ℕ → List Input → List Reply
replies s t [] = []
replies s t (i ∷ is) = (outcome s t i).reply ∷ replies (outcome s t i).state (outcome s t i).table is

-- the state, and a table of n records, before the first line
abbrev pub new_state : List ℕ
new_state = replicate state_size 0

abbrev pub new_table : ℕ → List ℕ
new_table n = replicate (4 + n * 32) 0

-- a line as it is typed, and its reply: an answer, in which each line ends with a line feed, or the number of a refusal
pub record Turn : Type 0 where
  pub line : String
  pub reply : Reply

abbrev pub ◌gives◌ : String → String → Turn
◌gives◌ l b = record { line = l; reply = says (bytes b) }

-- an answer by its rows
abbrev pub rows_of : List String → List ℕ
rows_of [] = []
rows_of (r ∷ rs) = bytes r ++ (bytes "\n" ++ rows_of rs)

abbrev pub ◌prints◌ : String → List String → Turn
◌prints◌ l rs = record { line = l; reply = says (rows_of rs) }

abbrev pub ◌refused◌ : String → ℕ → Turn
◌refused◌ l n = record { line = l; reply = refuses n }

infix 80 ◌gives◌
infix 80 ◌prints◌
infix 80 ◌refused◌
abbrev pub ok : String → Turn
ok l = l gives "(ok)\n"

-- the program's area has 65,536 bytes
abbrev pub input : Turn → Input
input x = record { line = bytes x.line; room = 65536 }

-- a row: how many records the table has, and the turns
pub record Case : Type 0 where
  pub capacity : ℕ
  pub turns : List Turn

-- the lines of a row give exactly the replies that stand beside them
abbrev pub CaseAnswered : Case → Type 0
CaseAnswered c = replies new_state (new_table c.capacity) (map input c.turns) ≡ map (λ x. x.reply) c.turns

-- the example's first ten lines
abbrev pub example : List Turn
example =
    ok "(subject staff)"
    ∷ ok "(subject SHA)"
    ∷ ok "(isa SHA staff)"
    ∷ ok "(rule accept read //* staff)"
    ∷ ok "(rule deny read //note/* staff)"
    ∷ ok "(rule accept position //note/* staff)"
    ∷ ok "(rule accept update //room/* staff)"
    ∷ ok "(root school)"
    ∷ ok "(child (mon (lesson (class (10B)) (room (R12)) (note (ill)))))"
    ∷ ok "(user SHA)"
    ∷ []

-- "★ The first view above. ★ Its update. ★ Its last rename." A second view shows what the update did.
abbrev pub example_answered : Case
example_answered =
    record {
      capacity = 1024;
      turns =
          example
          ++ ("(view)" gives "(root school)\n(child (mon (lesson (class (10B)) (room (R12)) (note (RESTRICTED)))))\n(end 9)\n"
          ∷ "(update //room R14)" gives "(done 1 1)\n"
          ∷ "(view)" gives "(root school)\n(child (mon (lesson (class (10B)) (room (R14)) (note (RESTRICTED)))))\n(end 9)\n"
          ∷ "(query //lesson/*)" gives "(hit 3 class)\n(hit 3 room)\n(hit 3 note)\n(end 3)\n"
          ∷ "(rename //note/* cold)" gives "(done 1 0)\n"
          ∷ []);
    }

-- "★ In the example `(rename //class note)`: 9. ★ `(rename //room hall)`: done 1 0."
abbrev pub example_renamed : Case
example_renamed =
    record { capacity = 1024; turns = example ++ ("(rename //class note)" refused 9 ∷ "(rename //room hall)" gives "(done 1 0)\n" ∷ []) }

-- "★ Root `a`, child `(c (a (b)))`: `//a[b]` selects only the `a` at level 2."
abbrev pub bracket_holds : Case
bracket_holds =
    record {
      capacity = 1024;
      turns =
          ok "(subject s)"
          ∷ ok "(rule accept read //* s)"
          ∷ ok "(root a)"
          ∷ ok "(child (c (a (b))))"
          ∷ ok "(user s)"
          ∷ "(query //a[b])" gives "(hit 2 a)\n(end 1)\n"
          ∷ [];
    }

-- "★ Root `r`, children `(a)`, `(b)`: `//*[1]` selects `r` and `a`."
abbrev pub bracket_counts : Case
bracket_counts =
    record {
      capacity = 1024;
      turns =
          ok "(subject s)"
          ∷ ok "(rule accept read //* s)"
          ∷ ok "(root r)"
          ∷ ok "(child (a))"
          ∷ ok "(child (b))"
          ∷ ok "(user s)"
          ∷ "(query //*[1])" gives "(hit 0 r)\n(hit 1 a)\n(end 2)\n"
          ∷ [];
    }

-- "★ A subject with no rules: `(end 0)` for view and for `//*`."
abbrev pub no_rules : Case
no_rules =
    record {
      capacity = 1024;
      turns =
          ok "(subject s)"
          ∷ ok "(subject other)"
          ∷ ok "(rule accept read //* other)"
          ∷ ok "(root r)"
          ∷ ok "(child (a))"
          ∷ ok "(user s)"
          ∷ "(view)" gives "(end 0)\n"
          ∷ "(query //*)" gives "(end 0)\n"
          ∷ [];
    }

-- the example's tree, where staff may delete the root and the lesson and does not see `ill`, and the subject all reads every node
abbrev pub removers : List Turn
removers =
    ok "(subject staff)"
    ∷ ok "(subject all)"
    ∷ ok "(rule accept read //* staff)"
    ∷ ok "(rule deny read //note/* staff)"
    ∷ ok "(rule accept delete /school staff)"
    ∷ ok "(rule accept delete //lesson staff)"
    ∷ ok "(rule accept read //* all)"
    ∷ ok "(root school)"
    ∷ ok "(child (mon (lesson (class (10B)) (room (R12)) (note (ill)))))"
    ∷ ok "(user staff)"
    ∷ []

-- "★ `(remove /school)` with delete on it: done 1 0."
abbrev pub root_removed : Case
root_removed =
    record {
      capacity = 1024;
      turns =
          removers
          ++ ("(remove /school)" gives "(done 1 0)\n"
          ∷ "(view)" gives "(root school)\n(child (mon (lesson (class (10B)) (room (R12)) (note))))\n(end 8)\n"
          ∷ []);
    }

-- "★ Remove of `lesson` with delete: done 1 1, `ill` gone too."
abbrev pub lesson_removed : Case
lesson_removed =
    record {
      capacity = 1024;
      turns =
          removers
          ++ ("(remove //lesson)" gives "(done 1 1)\n"
          ∷ ok "(user all)"
          ∷ "(query //ill)" gives "(end 0)\n"
          ∷ "(view)" gives "(root school)\n(child (mon))\n(end 2)\n"
          ∷ []);
    }

-- "★ One node appended below level 10 fits; below level 11: 10."
abbrev pub levels : Case
levels =
    record {
      capacity = 1024;
      turns =
          ok "(subject s)"
          ∷ ok "(rule accept read //* s)"
          ∷ ok "(rule accept insert //* s)"
          ∷ ok "(root a)"
          ∷ ok "(child (b (c (d (e (f))))))"
          ∷ ok "(user s)"
          ∷ "(append //f (g (h (i (j (k))))))" gives "(done 1 1)\n"
          ∷ "(query //k)" gives "(hit 10 k)\n(end 1)\n"
          ∷ "(append //k (l))" gives "(done 1 1)\n"
          ∷ "(query //l)" gives "(hit 11 l)\n(end 1)\n"
          ∷ "(append //l (m))" refused 10
          ∷ "(query //m)" gives "(end 0)\n"
          ∷ [];
    }

-- "★ 10 records, 9 used, a tree of one node: one place is done; two places: 11, none inserted."
abbrev pub few_records : Case
few_records =
    record {
      capacity = 10;
      turns =
          ok "(subject s)"
          ∷ ok "(rule accept read //* s)"
          ∷ ok "(rule accept insert //* s)"
          ∷ ok "(root r)"
          ∷ ok "(child (a (b) (b) (c) (d) (e) (f) (g)))"
          ∷ ok "(user s)"
          ∷ "(append //b (x))" refused 11
          ∷ "(view)" gives "(root r)\n(child (a (b) (b) (c) (d) (e) (f) (g)))\n(end 9)\n"
          ∷ "(append //c (x))" gives "(done 1 1)\n"
          ∷ "(view)" gives "(root r)\n(child (a (b) (b) (c (x)) (d) (e) (f) (g)))\n(end 10)\n"
          ∷ [];
    }

-- The table, and what is claimed of it: every row is answered so.
abbrev pub cases : List Case
cases = example_answered ∷ example_renamed ∷ bracket_holds ∷ bracket_counts ∷ no_rules ∷ root_removed ∷ lesson_removed ∷ levels ∷ few_records ∷ []

abbrev pub Starred : Type 0
Starred = All CaseAnswered cases

-- Each reading that makes demand 3 false answers a line of these rows otherwise, or of `few_records`: 11 decided place by place.

-- The note's child is not shown to staff, who has update on it.
abbrev pub hidden_child : Case
hidden_child =
    record {
      capacity = 10;
      turns =
          ok "(subject staff)"
          ∷ ok "(rule accept read //* staff)"
          ∷ ok "(rule accept update //* staff)"
          ∷ ok "(rule accept delete //note staff)"
          ∷ ok "(rule deny read //note/* staff)"
          ∷ ok "(root school)"
          ∷ ok "(child (note (ill)))"
          ∷ ok "(user staff)"
          -- update of children that are not shown
          ∷ "(update //note memo)" gives "(done 1 0)\n"
          -- rename of a policy word
          ∷ "(rename //note memo)" gives "(done 1 0)\n"
          -- remove sparing nodes with hidden descendants; done counting freed records
          ∷ "(remove //note)" gives "(done 1 1)\n"
          ∷ [];
    }

-- Staff sees places alone, and has update everywhere; `mark` is a policy word by a rule of another subject, and the names are by its `$`.
abbrev pub words_of_others : Case
words_of_others =
    record {
      capacity = 10;
      turns =
          ok "(subject staff)"
          ∷ ok "(subject all)"
          ∷ ok "(rule accept position //* staff)"
          ∷ ok "(rule accept update //* staff)"
          ∷ ok "(rule accept read //mark/$ all)"
          ∷ ok "(root school)"
          ∷ ok "(user staff)"
          -- command paths run on the stored labels
          ∷ "(query /school)" gives "(end 0)\n"
          -- rename without read: 000's axiom 19 forgets it
          ∷ "(rename //* hall)" gives "(done 1 0)\n"
          -- policy words of the reader's rules alone; rename into a policy word
          ∷ "(rename //* mark)" refused 9
          -- `$` without the subjects' names
          ∷ "(rename //* all)" refused 9
          ∷ [];
    }

abbrev pub ReadRight : Type 0
ReadRight = All CaseAnswered (hidden_child ∷ words_of_others ∷ few_records ∷ [])

-- The cases of document 02's cards, one row a card

-- Card 1: "With two rooms for a split class it showed either, and receptionists want the same one the printed list starts with." The first room is hidden.
abbrev pub first_room : Case
first_room =
    record {
      capacity = 10;
      turns =
          ok "(subject reception)"
          ∷ ok "(rule accept read //* reception)"
          ∷ ok "(rule deny read //private reception)"
          ∷ ok "(root school)"
          ∷ ok "(child (10B (private (room (R9))) (room (R12)) (room (R14))))"
          ∷ ok "(user reception)"
          ∷ "(query //10B//room/*)" gives "(hit 3 R12)\n(hit 3 R14)\n(end 2)\n"
          ∷ "(find //10B//room/*)" gives "(hit 3 R12)\n"
          ∷ "(find //R9)" gives "(none)\n"
          ∷ [];
    }

-- Card 3: Tuesday is hidden, and Wednesday stands in its place. The first child labelled R12 alone decides; labels are those that the view carries, cut at 13 bytes.
abbrev pub door_sheet : Case
door_sheet =
    record {
      capacity = 1024;
      turns =
          ok "(subject door)"
          ∷ ok "(rule accept read //* door)"
          ∷ ok "(rule deny read /school/Tue door)"
          ∷ ok "(rule deny read //private door)"
          ∷ ok "(rule accept position //private door)"
          ∷ ok "(root school)"
          ∷ ok "(child (Mon (p1 (R9 (art)) (R12 (maths) (set-1)))))"
          ∷ ok "(child (Tue (p1 (R12 (music)))))"
          ∷ ok "(child (Wed (p1 (R12) (R12 (art))) (p2 (R12 (assembly-of-all)))))"
          ∷ ok "(child (Thu (p1 (R12 (private)))))"
          ∷ ok "(user door)"
          ∷ "(sheet R12)" prints (
          "  Mon          |Wed          |Thu          |             |             |"
          ∷ "1 maths        |             |RESTRICTED   |             |             |"
          ∷ "2              |assembly-of-a|             |             |             |"
          ∷ "3              |             |             |             |             |"
          ∷ "4              |             |             |             |             |"
          ∷ "5              |             |             |             |             |"
          ∷ "6              |             |             |             |             |"
          ∷ "7              |             |             |             |             |"
          ∷ "8              |             |             |             |             |"
          ∷ []
          )
          ∷ "(sheet $)" refused 2
          ∷ [];
    }

-- Card 5: "a tutor sees what lies under the form's name as under their own". SHA is 10B, which is year10, and not 10C; the rule is for staff, which 10B is not.
abbrev pub form_tutor : Case
form_tutor =
    record {
      capacity = 10;
      turns =
          ok "(subject staff)"
          ∷ ok "(subject year10)"
          ∷ ok "(subject 10B)"
          ∷ ok "(subject 10C)"
          ∷ ok "(subject SHA)"
          ∷ ok "(isa 10B year10)"
          ∷ ok "(isa SHA staff)"
          ∷ ok "(isa SHA 10B)"
          ∷ ok "(rule accept read /* staff)"
          ∷ ok "(rule accept read /*/* staff)"
          ∷ ok "(rule accept read //$/* staff)"
          ∷ ok "(root school)"
          ∷ ok "(child (year10 (trip)))"
          ∷ ok "(child (10B (Kim)))"
          ∷ ok "(child (10C (Pat)))"
          ∷ ok "(child (SHA (key)))"
          ∷ ok "(user SHA)"
          ∷ "(view)" prints (
          "(root school)"
          ∷ "(child (year10 (trip)))"
          ∷ "(child (10B (Kim)))"
          ∷ "(child (10C))"
          ∷ "(child (SHA (key)))"
          ∷ "(end 8)"
          ∷ []
          )
          ∷ "(query /school/$[2]/*)" gives "(hit 2 Kim)\n(end 1)\n"
          ∷ ok "(user 10B)"
          ∷ "(view)" gives "(end 0)\n"
          ∷ [];
    }

-- Card 6: "R12 and r12 are one room." SHA is staff in any case; the rules say r12 and key, the tree R12 and Key. Views show labels as stored.
abbrev pub either_case : Case
either_case =
    record {
      capacity = 10;
      turns =
          ok "(subject staff)"
          ∷ ok "(subject SHA)"
          -- "Two subjects whose names differ only in case count as declared twice."
          ∷ "(subject sha)" refused 5
          ∷ "(subject Restricted)" refused 9
          ∷ ok "(isa sha Staff)"
          ∷ "(isa SHA staff)" refused 5
          ∷ ok "(rule accept read //* STAFF)"
          ∷ ok "(rule accept position //* staff)"
          ∷ ok "(rule accept update //* staff)"
          ∷ ok "(rule deny read //r12/key Staff)"
          ∷ "(rule accept read //restricted staff)" refused 9
          ∷ ok "(root School)"
          ∷ ok "(child (Mon (R12 (Key))))"
          ∷ ok "(user Sha)"
          ∷ "(view)" prints (
          "(root School)"
          ∷ "(child (Mon (R12 (RESTRICTED))))"
          ∷ "(end 4)"
          ∷ []
          )
          ∷ "(query //r12/*)" gives "(hit 3 RESTRICTED)\n(end 1)\n"
          ∷ "(find //restricted)" gives "(hit 3 RESTRICTED)\n"
          -- a policy word in any case is no new label; another case of the label itself is one
          ∷ "(rename //mon KEY)" refused 9
          ∷ "(rename //mon restricted)" refused 9
          ∷ "(rename //mon MON)" gives "(done 1 1)\n"
          ∷ "(find //mon)" gives "(hit 1 MON)\n"
          ∷ [];
    }

-- Card 7: a lesson for one term, from day 1 to day 100, and a room for an exam week. The room, in its window, is not shown below the lesson outside its own.
abbrev pub one_term : Case
one_term =
    record {
      capacity = 10;
      turns =
          ok "(subject SHA)"
          ∷ ok "(rule accept read //* SHA)"
          ∷ ok "(rule accept update //* SHA)"
          ∷ ok "(rule accept insert //lesson SHA)"
          ∷ "(day 2)" refused 3
          ∷ ok "(root school)"
          ∷ ok "(child (lesson (room)))"
          -- "needs no user"
          ∷ ok "(day 007)"
          ∷ "(child (note))" refused 3
          ∷ "(window //lesson 1 100)" refused 8
          ∷ ok "(user SHA)"
          ∷ "(window //lesson 0 100)" refused 15
          ∷ "(window //none 101 100)" refused 15
          ∷ "(day 367)" refused 15
          ∷ "(day 0007)" refused 2
          -- "the root is not done"
          ∷ "(window //* 1 100)" gives "(done 3 2)\n"
          ∷ "(window //room 90 200)" gives "(done 1 1)\n"
          ∷ "(view)" gives "(root school)\n(child (lesson))\n(end 2)\n"
          -- "both days included"
          ∷ ok "(day 100)"
          ∷ "(append //lesson (exam))" gives "(done 1 1)\n"
          ∷ "(view)" gives "(root school)\n(child (lesson (room) (exam)))\n(end 4)\n"
          -- "nor is anything below it"
          ∷ ok "(day 101)"
          ∷ "(view)" gives "(root school)\n(end 1)\n"
          ∷ "(query //room)" gives "(end 0)\n"
          ∷ [];
    }

-- "the assurance lasts until the day is changed": two schools that differ in a window alone look the same to SHA on the first day, and are told apart on day 200.
abbrev pub note_until : String → List String → Case
note_until window later =
    record {
      capacity = 10;
      turns =
          ok "(subject SHA)"
          ∷ ok "(rule accept read //* SHA)"
          ∷ ok "(rule accept update //* SHA)"
          ∷ ok "(root school)"
          ∷ ok "(child (note))"
          ∷ ok "(user SHA)"
          ∷ window gives "(done 1 1)\n"
          ∷ "(view)" prints ("(root school)" ∷ "(child (note))" ∷ "(end 2)" ∷ [])
          ∷ ok "(day 200)"
          ∷ "(view)" prints later
          ∷ [];
    }

abbrev pub until_first_of_may : Case
until_first_of_may = note_until "(window //note 1 121)" ("(root school)" ∷ "(end 1)" ∷ [])

abbrev pub until_years_end : Case
until_years_end = note_until "(window //note 1 366)" ("(root school)" ∷ "(child (note))" ∷ "(end 2)" ∷ [])

abbrev pub DayTold : Type 0
DayTold = All CaseAnswered (until_first_of_may ∷ until_years_end ∷ [])

abbrev pub CardsAnswered : Type 0
CardsAnswered = All CaseAnswered (first_room ∷ door_sheet ∷ form_tutor ∷ either_case ∷ one_term ∷ [])
