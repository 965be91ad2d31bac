-- Examples of the sheet for a room's door (document 02, card 3): weeks as they are shown, and what is computed from them. Assumes nothing.
use Prim.Native.Nat.{ℕ}
use mathlib.Core.Path.{◌≡◌, refl}
use mathlib.Core.List.{List, [], ◌∷◌, ◌++◌}
use Rattle.rights.specs.Bytes.{bytes}
use Rattle.rights.specs.Labels.{same_label, folded}
use Rattle.rights.specs.Nodes.{Nodes, node, level_at, label_at}
use Rattle.rights.specs.XPath.{filter, each, stretch}
use Rattle.answers.specs.Sheet.{cell, days, labelled, lesson, row_text, head_row, row, sheet_text}

-- rows without a lesson
abbrev blank_from_3 : List ℕ
blank_from_3 =
    bytes "3              |             |             |             |             |\n"
    ++ (bytes "4              |             |             |             |             |\n"
    ++ (bytes "5              |             |             |             |             |\n"
    ++ (bytes "6              |             |             |             |             |\n"
    ++ (bytes "7              |             |             |             |             |\n"
    ++ bytes "8              |             |             |             |             |\n"))))

-- "What is missing leaves a blank cell." With the root hidden all are.
abbrev blank : List ℕ
blank =
    bytes "               |             |             |             |             |\n"
    ++ (bytes "1              |             |             |             |             |\n"
    ++ (bytes "2              |             |             |             |             |\n"
    ++ blank_from_3))

-- "ROOM may be RESTRICTED": it finds a node that is shown as RESTRICTED.
abbrev restricted_room : Nodes
restricted_room =
    node 0 (bytes "r") ∷ node 1 (bytes "mon") ∷ node 2 (bytes "p") ∷ node 3 (bytes "RESTRICTED") ∷ node 4 (bytes "art")
    ∷ node 3 (bytes "y") ∷ node 4 (bytes "PE") ∷ []

abbrev restricted_room_sheet : List ℕ
restricted_room_sheet =
    bytes "  mon          |             |             |             |             |\n"
    ++ (bytes "1 art          |             |             |             |             |\n"
    ++ (bytes "2              |             |             |             |             |\n"
    ++ blank_from_3))

-- The first child labelled ROOM decides, though a later one has a child.
abbrev two_alike : Nodes
two_alike =
    node 0 (bytes "r") ∷ node 1 (bytes "mon") ∷ node 2 (bytes "p") ∷ node 3 (bytes "x") ∷ node 3 (bytes "x")
    ∷ node 4 (bytes "art") ∷ node 2 (bytes "p") ∷ node 3 (bytes "y") ∷ node 3 (bytes "x") ∷ node 4 (bytes "PE")
    ∷ node 4 (bytes "art") ∷ node 1 (bytes "tue") ∷ node 2 (bytes "p") ∷ node 3 (bytes "x") ∷ node 3 (bytes "x")
    ∷ node 4 (bytes "art") ∷ node 2 (bytes "p") ∷ node 3 (bytes "x") ∷ node 4 (bytes "PE") ∷ node 3 (bytes "x")
    ∷ node 4 (bytes "no") ∷ []

abbrev two_alike_sheet : List ℕ
two_alike_sheet =
    bytes "  mon          |tue          |             |             |             |\n"
    ++ (bytes "1              |             |             |             |             |\n"
    ++ (bytes "2 PE           |PE           |             |             |             |\n"
    ++ blank_from_3))

-- Labels of 13 bytes are whole and longer ones cut, a sixth day and a ninth period are left out, and a period is the n-th shown child, whatever its label.
abbrev cut_and_counted : Nodes
cut_and_counted =
    node 0 (bytes "r") ∷ node 1 (bytes "mon") ∷ node 2 (bytes "note") ∷ node 2 (bytes "p") ∷ node 3 (bytes "x")
    ∷ node 4 (bytes "art") ∷ node 2 (bytes "q") ∷ node 3 (bytes "x") ∷ node 4 (bytes "PE") ∷ node 1 (bytes "tue")
    ∷ node 2 (bytes "a") ∷ node 2 (bytes "a") ∷ node 2 (bytes "a") ∷ node 2 (bytes "a") ∷ node 2 (bytes "a") ∷ node 2 (bytes "a")
    ∷ node 2 (bytes "a") ∷ node 2 (bytes "p") ∷ node 3 (bytes "x") ∷ node 4 (bytes "late") ∷ node 2 (bytes "p")
    ∷ node 3 (bytes "x") ∷ node 4 (bytes "no") ∷ node 1 (bytes "wed") ∷ node 1 (bytes "thirteen-byte") ∷ node 2 (bytes "p")
    ∷ node 3 (bytes "x") ∷ node 4 (bytes "thirteen-byte") ∷ node 1 (bytes "fourteen-bytes") ∷ node 2 (bytes "p")
    ∷ node 3 (bytes "x") ∷ node 4 (bytes "fourteen-bytes") ∷ node 2 (bytes "p") ∷ node 3 (bytes "x")
    ∷ node 4 (bytes "a-label-of-twenty-4-byte") ∷ node 1 (bytes "sat") ∷ node 2 (bytes "p") ∷ node 3 (bytes "x")
    ∷ node 4 (bytes "no") ∷ []

abbrev cut_and_counted_sheet : List ℕ
cut_and_counted_sheet =
    bytes "  mon          |tue          |wed          |thirteen-byte|fourteen-byte|\n"
    ++ (bytes "1              |             |             |thirteen-byte|fourteen-byte|\n"
    ++ (bytes "2 art          |             |             |             |a-label-of-tw|\n"
    ++ (bytes "3 PE           |             |             |             |             |\n"
    ++ (bytes "4              |             |             |             |             |\n"
    ++ (bytes "5              |             |             |             |             |\n"
    ++ (bytes "6              |             |             |             |             |\n"
    ++ (bytes "7              |             |             |             |             |\n"
    ++ bytes "8              |late         |             |             |             |\n")))))))

pub sheet_weeks :
    ((room : List ℕ) → sheet_text room [] ≡ blank)
    × (sheet_text (bytes "RESTRICTED") restricted_room ≡ restricted_room_sheet)
    × (sheet_text (bytes "x") two_alike ≡ two_alike_sheet)
    × (sheet_text (bytes "x") cut_and_counted ≡ cut_and_counted_sheet)
unfolding sheet_text head_row row row_text lesson labelled days cell each filter stretch level_at label_at same_label folded
sheet_weeks = (λ room. refl, refl, refl, refl)
