use native.Mathlib.Omega.{arith}
use Rattle.rights.proofs.TextLaws.{text_from}
use Rattle.rights.proofs.labels.label_in.Goals as goal

pub returns : goal.returns
returns c =
    let a = c.args in text_from a.s.now a.at c.requires _ _ (omega arith) (omega (arith, c.from.ensures))
