-- The rows of the names of the subjects so far have the bits, and nothing else has changed.
use lib.ListN.{take}
use Rattle.rights.specs.How.Roles.{name_among}
use Rattle.rights.specs.How.WordList.{number_in}
use Rattle.rights.specs.How.Trial.{policy_in}
use Rattle.rights.specs.How.Groups.{Noted}
use Rattle.rights.proofs.groups.Trial.note_names.Given as goal

abbrev pub invariant-loop-u : goal.invariant-loop-u
invariant-loop-u l = Noted (number_in l.self.words.now) l.initial.rows l.rows l.bits (name_among (policy_in l.self) (take l.u-index l.self.own.now))
