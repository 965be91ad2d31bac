use Rattle.std.proofs.Common.{sym, ◌∙◌}
use native.Mathlib.Nat.{sub-zero}
use Rattle.rights.proofs.ListLaws.{part_of}
use Rattle.rights.proofs.RecordsOkLaws.{ok_step, ok_stop, ok_end}
use Rattle.rights.proofs.table.records_ok.Goals as goal

pub loop-i-init : goal.loop-i-init
loop-i-init c = simp sub-zero

pub returns-then-not-record_ok : goal.returns-then-not-record_ok
returns-then-not-record_ok c =
    sym (c.loop-i.invariant ∙ ok_stop _ _ _ _ _ c.loop-i-test.true (simp part_of at (sym c.record_ok.ensures ∙ c.if-not-record_ok.true)))

pub loop-i-preserved : goal.loop-i-preserved
loop-i-preserved c =
    simp (part_of, c.from-high.ensures)
    (c.loop-i.invariant
    ∙ ok_step _ _ _ _ _ c.loop-i-test.true
    (simp part_of at (sym c.record_ok.ensures ∙ c.if-not-record_ok.false)))

pub returns : goal.returns
returns c = sym (c.loop-i.invariant ∙ ok_end _ _ _ _ _ c.loop-i-test.false)
