use native.Mathlib.Omega.{arith}
use mathlib.Core.Path.{refl}
use Rattle.rights.specs.Table.{rec_at, label}
use Rattle.rights.proofs.LabelLaws.{order_same}
use Rattle.rights.proofs.VocabularyLaws.{holds_old, words_more, holds_more}
use Rattle.rights.proofs.vocabulary.WordList.add.Goals as goal

pub returns-in_default : goal.returns-in_default
returns-in_default c =
    let w = c.args.self.now in
    let p = w.policy.now in
    let x = label (rec_at p c.args.at) in
    let s = c.in_default.ensures in
    record { policy = refl; few = omega arith; holds = holds_old p w.places w.count c.in_default.field-0 x s.0 (order_same _ x s.1) }

pub invariant_of-self : goal.invariant_of-self
invariant_of-self c =
    let w = c.args.self.now in
    let g = c.requires in
    let s = c.in-Err.ensures in
    record { sorted = words_more w.policy.now w.places c.insert_word.new.words w.count c.in-Err.i c.args.at w.sorted g.0 g.1 c.insert_word.ensures s.0 s.1 s.2 }

pub returns : goal.returns
returns c =
    let w = c.args.self.now in
    let g = c.requires in
    let s = c.in-Err.ensures in
    record { policy = refl; few = omega arith; holds = holds_more w.policy.now w.places c.insert_word.new.words w.count c.in-Err.i c.args.at w.sorted g.0 g.1 c.insert_word.ensures s.0 s.1 s.2 }
