use mathlib.Core.Path.{refl, sym, ◌∙◌}
use native.Mathlib.Omega.{arith}
use lib.ListN.{length}
use Rattle.rights.specs.How.Seen.{nodes_in}
use Rattle.rights.proofs.PassLaws.{view-length}
use Rattle.answers.proofs.SheetParts.{siblings_end, siblings-under, siblings-deeper, first_none, first_here}
use Rattle.answers.proofs.sheet.child_from.Goals as goal

pub loop-j-init : goal.loop-j-init
loop-j-init c = refl

pub returns-then-level-l-clause-first : goal.returns-then-level-l-clause-first
returns-then-level-l-clause-first c =
    let a = c.args in
    let l = c.loop-j in
    let t = nodes_in a.shown.now in
    let n = view-length a.shown.now.table.now a.shown.now.numbers.now in
    first_none t a.l a.i (length t) (l.invariant ∙ siblings-under t a.l l.j (omega arith) (omega (arith, c.level-level.ensures.0, c.if-level-l.true))) refl

pub returns-then-level-l-2 : goal.returns-then-level-l-2
returns-then-level-l-2 c =
    let a = c.args in
    let l = c.loop-j in
    let t = nodes_in a.shown.now in
    let n = view-length a.shown.now.table.now a.shown.now.numbers.now in
    record {
      first = first_here t a.l a.i l.j (omega arith) l.invariant (omega arith) (sym c.level-level.ensures.0 ∙ c.if-level-l-2.true);
      inside = omega arith;
    }

pub loop-j-preserved : goal.loop-j-preserved
loop-j-preserved c =
    let a = c.args in
    let l = c.loop-j in
    let t = nodes_in a.shown.now in
    let n = view-length a.shown.now.table.now a.shown.now.numbers.now in
    l.invariant ∙ siblings-deeper t a.l l.j (omega arith) (omega (arith, c.level-level.ensures.0, c.if-level-l-2.false, c.if-level-l.false))

pub returns-clause-first : goal.returns-clause-first
returns-clause-first c =
    let a = c.args in
    let l = c.loop-j in
    let t = nodes_in a.shown.now in
    let n = view-length a.shown.now.table.now a.shown.now.numbers.now in
    first_none t a.l a.i (length t) (l.invariant ∙ siblings_end t a.l l.j (omega arith)) refl
