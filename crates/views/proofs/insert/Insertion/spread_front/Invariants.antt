-- What is written and what is still to be taken make the whole insertion: each turn puts a tree, if its place is marked, and takes a record.
use mathlib.Core.Path.{◌≡◌}
use lib.ListN.{length, drop}
use Rattle.rights.specs.Marks.{marks_of}
use Rattle.rights.specs.Table.{level}
use Rattle.views.specs.How.Pass.{AtDone, Shallow, in_front, rest, passing_front}
use Rattle.views.proofs.insert.Insertion.spread_front.Given as goal

abbrev pub invariant-loop-i : goal.invariant-loop-i
invariant-loop-i l = (AtDone (λ r. Shallow 0 l.self.m l.self.tree.now (level r)) (marks_of (drop l.i l.self.marks.now)) (rest l.self.n l.self.gap l.i l.t)) × (length l.t ≡ length l.initial.t)
    × (passing_front l.self.n l.self.gap l.self.m l.self.tree.now l.self.marks.now l.i l.w l.t ≡ in_front l.self.m l.self.tree.now l.self.marks.now (rest l.self.n l.self.gap 0 l.initial.t))
