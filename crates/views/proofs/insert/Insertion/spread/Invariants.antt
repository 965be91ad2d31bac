-- What is written, what waits and what is still to be taken make the whole insertion: each turn flushes a tree that is due or takes a record.
use Prim.Native.Nat.{◌-◌, ◌+◌}
use mathlib.Core.Path.{◌≡◌}
use lib.ListN.{length}
use Rattle.views.specs.How.Pass.{behind, rest, passing, Between}
use Rattle.views.proofs.insert.Insertion.spread.Given as goal

abbrev pub invariant-loop-at : goal.invariant-loop-at
invariant-loop-at l =
    Between l.self.n l.self.gap l.up l.self.m l.at.i l.at.d l.self.tree.now l.self.marks.now l.t l.at.levels
    × (length l.t ≡ length l.initial.t)
    × (passing l.self.n l.self.gap l.up l.self.m l.self.tree.now l.self.marks.now l.at.i l.at.w l.at.d l.t l.at.levels
    ≡ behind l.up l.self.m l.self.tree.now l.self.marks.now (rest l.self.n l.self.gap 0 l.initial.t))

abbrev pub decreases-loop-at : goal.decreases-loop-at
decreases-loop-at l = l.self.n - l.at.i + (l.self.n - l.at.i) + l.at.d
