use mathlib.Core.Path.{refl, sym}
use borrow.Author.Tests.{not-false}
use Rattle.rights.specs.Marks.{marks_of}
use Rattle.lines.specs.Work.{insert_checks}
use Rattle.lines.proofs.RefusalLaws.{passed_ok, performs_refused, performs_short, performs_done}
use Rattle.lines.proofs.StateLaws.{same-stage}
use Rattle.lines.proofs.changes.insert_done.Goals as goal

pub returns-in_err-insert_refusal : goal.returns-in_err-insert_refusal
returns-in_err-insert_refusal c = performs_refused _ _ _ c.insert_refusal.ensures c.in_err-insert_refusal.was c.from_residual.result c.from_residual.ensures.1

pub returns-in_err-area_refusal : goal.returns-in_err-area_refusal
returns-in_err-area_refusal c =
    let a = c.args in
    performs_short _ _ _ (passed_ok (insert_checks a.place (marks_of a.done.now) a.m a.tree.now a.table.now) refl c.insert_refusal.ensures c.in_ok-insert_refusal.was) c.answer_change-need.ensures c.area_refusal.ensures c.in_err-area_refusal.was c.from_residual-in_err-area_refusal.result c.from_residual-in_err-area_refusal.ensures.1

pub insert_marked-requires : goal.insert_marked-requires
insert_marked-requires c =
    let a = c.args in
    let g = c.requires in
    let p = passed_ok (insert_checks a.place (marks_of a.done.now) a.m a.tree.now a.table.now) refl c.insert_refusal.ensures c.in_ok-insert_refusal.was in
    record { t_value = (g.1, g.2, g.3); t_value_2 = (p.0, not-false _ p.1.0) }

pub returns : goal.returns
returns c =
    let a = c.args in
    performs_done _ _ _ (passed_ok (insert_checks a.place (marks_of a.done.now) a.m a.tree.now a.table.now) refl c.insert_refusal.ensures c.in_ok-insert_refusal.was) c.answer_change-need.ensures c.area_refusal.ensures c.in_ok-area_refusal.was (sym (same-stage a.state.now c.requires.0)) c.insert_marked.ensures
