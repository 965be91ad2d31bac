use Prim.Native.Nat.{◌+◌}
use mathlib.Core.Path.{refl, ap, ◌∙◌}
use mathlib.Core.List.{map}
use native.Mathlib.Omega.{arith}
use borrow.Author.Rules.{rules}
use Rattle.rights.specs.XPath.{each}
use Rattle.rights.specs.How.Seen.{nodes_in}
use Rattle.answers.specs.Sheet.{lesson, row, periods}
use Rattle.answers.proofs.AnswerLaws.{toward_start, toward_more, toward_end}
use Rattle.answers.proofs.SheetParts.{numbered-row, rows_step, rows_end}
use Rattle.answers.proofs.sheet.put_rows.Goals as goal

pub loop-i-init : goal.loop-i-init
loop-i-init c =
    let a = c.args in
    record { end = search rules; same = refl; put = toward_start (each (row a.room.now (nodes_in a.shown.now)) periods) a.at a.area.now }

pub loop-i-preserved : goal.loop-i-preserved
loop-i-preserved c =
    let a = c.args in
    let t = nodes_in a.shown.now in
    let l = c.loop-i in
    let p = c.put_row-next.ensures in
    let q = c.find_lessons-lessons.ensures.found ∙ ap (map (lesson a.room.now t (l.i + 1))) c.requires.0 in
    let e = numbered-row a.room.now t (l.i + 1) _ _ q (omega arith) c.digit.ensures in
    record {
      end = omega (arith, p.1);
      same = search rules;
      put = toward_more l.invariant.put (rw e at p.0) (rows_step (row a.room.now t) l.i (omega arith));
    }

pub returns : goal.returns
returns c =
    let a = c.args in
    let l = c.loop-i in
    (toward_end l.invariant.put (rows_end (row a.room.now (nodes_in a.shown.now)) l.i (omega arith)), omega arith)
