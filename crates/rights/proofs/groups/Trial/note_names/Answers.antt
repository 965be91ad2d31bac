use mathlib.Core.Path.{◌∙◌}
use Rattle.rights.specs.How.WordList.{number_in}
use Rattle.rights.proofs.OwnNames.{names_more, names_none}
use Rattle.rights.proofs.PackedLaws.{sorted_name, noted_none, noted_then}
use Rattle.rights.proofs.groups.Trial.note_names.Goals as goal

pub loop-u-init : goal.loop-u-init
loop-u-init c =
    let a = c.args in
    let t = a.self.now in
    noted_none (number_in t.words.now) a.rows.now a.bits _ (names_none t.words.now.policy.now t.own.now)

pub note_label-requires : goal.note_label-requires
note_label-requires c =
    let t = c.args.self.now in
    let w = t.words.now in
    let l = c.loop-u in
    let h = c.loop-u-test.true in
    rw c.from.ensures ((t.ready.subjects.at l.u-index h).name, sorted_name w.policy.now t.own.now w.places w.count t.ready.sorted l.u-index h, l.invariant.long ∙ c.requires)

pub loop-u-preserved : goal.loop-u-preserved
loop-u-preserved c =
    let a = c.args in
    let t = a.self.now in
    let l = c.loop-u in
    noted_then (number_in t.words.now) a.rows.now a.bits l.rows _ _ _ _ (λ x. names_more t.words.now.policy.now t.own.now l.u-index x c.loop-u-test.true) l.invariant (rw c.from.ensures at c.note_label.ensures)
