use mathlib.Core.Path.{refl, ◌∙◌}
use lib.ListN.{replicate}
use Rattle.rights.specs.Table.{records}
use Rattle.rights.specs.Marks.{marks_of}
use Rattle.views.proofs.RelabelLaws.{label-bytes, renamed_over}
use Rattle.views.proofs.TableKept.{records-kept}
use Rattle.views.proofs.rename.rename_marked.Goals as goal

pub returns : goal.returns
returns c =
    let a = c.args in
    let short = c.requires.2 in
    let b = label-bytes (replicate 32 0) c.put_label.new.out a.label.now refl short c.put_label.ensures in
    c.overwrite_marked.ensures
    ∙ rw (b, renamed_over a.label.now short (marks_of a.marks.now) (records a.t.now) (records-kept a.t.now c.requires.0).1)
