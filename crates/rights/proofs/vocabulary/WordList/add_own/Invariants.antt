-- The words hold the names of the subjects so far; each adds one word at most.
use lib.ListN.{take}
use Rattle.rights.specs.How.Roles.{name_among}
use Rattle.rights.specs.How.WordList.{Adds}
use Rattle.rights.proofs.vocabulary.WordList.add_own.Given as goal

abbrev pub invariant-loop-u : goal.invariant-loop-u
invariant-loop-u l = Adds l.fn.self l.self l.u-index (name_among l.fn.self.policy.now (take l.u-index l.own))
