use Prim.Native.Nat.{ℕ}
use native.Mathlib.Omega.{arith}
use lib.ListN.{length, length-set}
use Rattle.rights.specs.Table.{record_at, label}
use Rattle.rights.specs.How.WordList.{number_in}
use Rattle.rights.proofs.ChainLaws.{record_text}
use Rattle.rights.proofs.EachLaws.{done_more, drop_more}
use Rattle.rights.proofs.vocabulary.WordList.number_nodes.Goals as goal

pub number-requires : goal.number-requires
number-requires c =
    let a = c.args in
    record_text a.t.now (length a.numbers.now) c.loop-i.i c.requires.1 c.loop-i-test.true c.requires.0

pub loop-i-preserved : goal.loop-i-preserved
loop-i-preserved c =
    let a = c.args in
    let l = c.loop-i in (
      simp length-set l.invariant.0,
      drop_more a.numbers.now l.numbers l.i l.invariant.1 _,
      done_more a.numbers.now l.numbers l.i l.invariant.1 (λ (q x : ℕ). number_in a.self.now (label (record_at a.t.now q))) _ (omega arith) l.invariant.2 c.number.ensures.0,
    )
