-- What a document is turned away for, by what its check tells of it: how many nodes it has, how deep they are, whether one is RESTRICTED.
use Rattle.std.specs.Prelude.{ℕ, List, [], ◌∷◌, ltb}
use Rattle.rights.specs.Table.{capacity}
use Rattle.xml.specs.declared.document.Tally.{Tally}
use Rattle.lines.specs.Refusal.{Check, check, banned_label, level_too_deep, table_full}

-- 9, 10 and 11, for a table of `size` bytes
abbrev pub tally_checks : ℕ → Tally → List Check
tally_checks size n =
    check banned_label n.restricted
    ∷ check level_too_deep (ltb 11 n.deepest)
    ∷ check table_full (ltb (capacity size) n.nodes)
    ∷ []
