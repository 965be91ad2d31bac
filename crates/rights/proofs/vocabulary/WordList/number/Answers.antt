-- A label that is found has its word's place; one that is missing stands between two words and is none of them.
use mathlib.Core.Path.{◌∙◌, sym}
use native.Mathlib.Numerals.{add-one}
use native.Mathlib.Omega.{arith}
use Rattle.rights.specs.How.WordList.{word_in}
use Rattle.rights.specs.Table.{rec_at, label}
use Rattle.rights.proofs.VocabularyLaws.{number_found, number_missing}
use Rattle.rights.proofs.vocabulary.WordList.number.Goals as goal

pub returns-in-Ok : goal.returns-in-Ok
returns-in-Ok c =
    let w = c.args.self.now in
    let s = c.in-Ok.ensures in
    (add-one _ ∙ sym (number_found (word_in w) w.count w.sorted.sorted (label (rec_at c.args.s.now c.args.at)) _ s.0 s.1), omega (arith, s.0))

pub returns-in-Err : goal.returns-in-Err
returns-in-Err c =
    let w = c.args.self.now in
    let s = c.in-Err.ensures in
    (sym (number_missing (word_in w) w.count w.sorted.sorted (label (rec_at c.args.s.now c.args.at)) _ s.1 s.2), omega arith)
