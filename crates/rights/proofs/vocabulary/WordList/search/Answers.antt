use Prim.Native.Nat.{◌+◌, ◌-◌, ◌/◌}
use mathlib.Core.Path.{sym, ap, ◌∙◌}
use native.Mathlib.Omega.{arith}
use Rattle.std.specs.Ordering.{ordering_index}
use Rattle.rights.specs.Table.{rec_at, label}
use Rattle.rights.specs.How.WordList.{word_in}
use Rattle.rights.proofs.VocabularyLaws.{low_raised, high_lowered}
use Rattle.rights.proofs.vocabulary.WordList.search.Goals as goal

pub returns-in-Equal : goal.returns-in-Equal
returns-in-Equal c = (omega arith, sym c.compare_word.ensures ∙ ap ordering_index c.in-Equal.is)

pub loop-low-preserved-in-Less : goal.loop-low-preserved-in-Less
loop-low-preserved-in-Less c =
    let w = c.args.self.now in
    let l = c.loop-low in record {
      in_order = omega arith;
      within = omega arith;
      below = low_raised (word_in w) w.count w.sorted.sorted (label (rec_at c.args.s.now c.args.at)) (l.low + (l.high - l.low) / 2) (omega arith)
          (sym c.compare_word.ensures ∙ ap ordering_index c.in-Less.is);
      above = l.invariant.above;
    }

pub loop-low-preserved : goal.loop-low-preserved
loop-low-preserved c =
    let w = c.args.self.now in
    let l = c.loop-low in record {
      in_order = omega arith;
      within = omega arith;
      below = l.invariant.below;
      above = high_lowered (word_in w) w.count w.sorted.sorted (label (rec_at c.args.s.now c.args.at)) (l.low + (l.high - l.low) / 2)
          (sym c.compare_word.ensures ∙ ap ordering_index c.in-Greater.is);
    }
