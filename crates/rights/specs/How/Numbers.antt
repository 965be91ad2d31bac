-- Nodes of a table by numbers: how a view is given to the passes of a selection and to the writers of an answer.
use Rattle.std.specs.Prelude.{ℕ, ◌+◌, ◌*◌, ◌%◌, ◌≤◌, ◌<◌, cond, List, map, leb, length, get_or}
use Rattle.rights.specs.Limits.{records_max}
use Rattle.rights.specs.Labels.{restricted}
use Rattle.rights.specs.Table.{rec_at, level, label}
use Rattle.rights.specs.How.Places.{Text}
use Rattle.rights.specs.Nodes.{Node, Nodes, node}

-- A number is that of a record, and 16384 more where the label stays hidden. The place of its record:
unfoldable pub record_place : ℕ → ℕ
record_place x = 4 + x % records_max * 32

-- "With read it carries its label, otherwise RESTRICTED"
unfoldable pub seen : List ℕ → ℕ → Node
seen table x = node (level (rec_at table (record_place x))) (cond (leb records_max x) restricted (label (rec_at table (record_place x))))

unfoldable pub view_of : List ℕ → List ℕ → Nodes
view_of table shown = map (seen table) shown

-- Each number is that of a record with a level and a label. A table that passes its check gives this for every list of numbers of its records.
pub record Fits (table shown : List ℕ) : Type 0 where
  pub few : length shown ≤ records_max
  pub stands : (i : ℕ) → i < length shown → Text table (record_place (get_or shown i 0))
  pub low : (i : ℕ) → i < length shown → get_or table (record_place (get_or shown i 0)) 0 < 12
