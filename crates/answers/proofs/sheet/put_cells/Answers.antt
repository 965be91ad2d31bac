use mathlib.Core.Path.{refl}
use mathlib.Core.List.{map}
use native.Mathlib.Omega.{arith}
use borrow.Author.Rules.{rules}
use lib.ListN.{length, get_or-map}
use Rattle.std.proofs.Common.{None}
use Rattle.std.proofs.lemmas.List.{length-map}
use Rattle.rights.specs.XPath.{each}
use Rattle.rights.specs.How.Seen.{nodes_in}
use Rattle.answers.specs.How.SheetParts.{place}
use Rattle.answers.proofs.AnswerLaws.{toward_start, toward_more, toward_end}
use Rattle.answers.proofs.SheetParts.{each_step, each_end}
use Rattle.answers.proofs.sheet.put_cells.Invariants.{texts}
use Rattle.answers.proofs.sheet.put_cells.Goals as goal

pub loop-node-init : goal.loop-node-init
loop-node-init c =
    let a = c.args in
    let t = nodes_in a.shown.now in
    record { end = search rules; same = refl; put = toward_start (each (texts t) (map (place t) a.nodes.now)) a.at a.area.now }

pub loop-node-preserved : goal.loop-node-preserved
loop-node-preserved c =
    let a = c.args in
    let t = nodes_in a.shown.now in
    let l = c.loop-node in
    let p = c.put_cell-next.ensures in
    let n = length-map a.nodes.now (place t) in
    let e = get_or-map (place t) a.nodes.now l.node-index None in
    record {
      end = omega (arith, p.1);
      same = search rules;
      put = toward_more l.invariant.put p.0 (rw (← e) (each_step (texts t) (map (place t) a.nodes.now) (length t) l.node-index (omega arith)));
    }

pub returns : goal.returns
returns c =
    let a = c.args in
    let t = nodes_in a.shown.now in
    let l = c.loop-node in
    let n = length-map a.nodes.now (place t) in
    (toward_end l.invariant.put (each_end (texts t) (map (place t) a.nodes.now) l.node-index (omega arith)), omega arith)
