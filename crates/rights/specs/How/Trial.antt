-- What a subject's rights are worked out from: its rules, and what of them stands in numbers.
use Rattle.std.specs.Prelude.{ℕ, Bool, List}
use Rattle.rights.specs.declared.groups.Marks.{Marks}
use Rattle.rights.specs.declared.groups.Group.{Group}
use Rattle.rights.specs.declared.groups.Trial.{Trial}
use Rattle.rights.specs.Rights.{Step}
use Rattle.rights.specs.How.Roles.{name_among}
use Rattle.rights.specs.How.Groups.{Ruling, ruling_at, Packed, Grouped}
use Rattle.rights.specs.How.WordList.{number_in}

abbrev pub policy_in : Trial → List ℕ
policy_in t = t.words.now.policy.now

-- the labels that `$` passes
abbrev pub mine_in : Trial → List ℕ → Bool
mine_in t = name_among (policy_in t) t.own.now

-- the rules for the right with bit b
abbrev pub rules_in : Trial → ℕ → ℕ → Ruling
rules_in t b = ruling_at (policy_in t) t.own.now t.roles.now b

abbrev pub PackedIn : Trial → List Step → Marks → List ℕ → Type 0
PackedIn t ss m rows = Packed (number_in t.words.now) (mine_in t) ss m.deep m.every m.own rows

abbrev pub GroupedIn : Trial → ℕ → ℕ → ℕ → Group → List ℕ → Type 0
GroupedIn t b i n g rows =
    Grouped (number_in t.words.now) (mine_in t) (rules_in t b) b i n
    g.marks.deep g.marks.every g.marks.own g.start g.yes g.noes g.used rows
