use mathlib.Core.Path.{◌∙◌, sym}
use native.Mathlib.Omega.{arith}
use Rattle.xml.proofs.NameLaws.{names_same}
use Rattle.xml.proofs.document.same_name.Goals as goal

pub returns-then-eq : goal.returns-then-eq
returns-then-eq c =
    let same = names_same c.args.xml.now c.args.p c.args.name.start c.args.name.end (omega arith) (omega arith) (omega arith) in
    sym (same ∙ rw (← c.eq.ensures, c.if-eq.true, ← c.label_byte.ensures))

pub returns-else-eq : goal.returns-else-eq
returns-else-eq c =
    let same = names_same c.args.xml.now c.args.p c.args.name.start c.args.name.end (omega arith) (omega arith) (omega arith) in
    sym (same ∙ rw (← c.eq.ensures, c.if-eq.false))
