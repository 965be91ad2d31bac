-- Two groups of checks come before the document is taken: 9, 10 and 11 by the tally, then 12.
use mathlib.Core.Path.{ap, ◌∙◌}
use native.Mathlib.Omega.{arith}
use Rattle.rights.proofs.TableLaws.{table_long}
use Rattle.lines.proofs.StateLaws.{store_held, stage-put}
use Rattle.lines.specs.State.{with_stage}
use Rattle.store.proofs.LoadCallLaws.{tally_refused, document_fits, area_refused, document_taken}
use Rattle.store.proofs.load.take_document.Goals as goal

pub tally_refusal-requires : goal.tally_refusal-requires
tally_refusal-requires c = table_long _ (store_held _ _ c.requires.0).table

pub returns-in_err-tally_refusal : goal.returns-in_err-tally_refusal
returns-in_err-tally_refusal c =
    let g = c.requires in
    tally_refused _ _ _ g.0 g.1 g.2 g.3 c.tally_refusal.ensures c.in_err-tally_refusal.was c.from_residual.result c.from_residual.ensures.1

pub returns-in_err-area_refusal : goal.returns-in_err-area_refusal
returns-in_err-area_refusal c =
    let g = c.requires in
    area_refused _ _ _ g.0 g.1 g.2 g.3 c.tally_refusal.ensures c.in_ok-tally_refusal.was
    c.answer_ok-need.ensures c.area_refusal.ensures c.in_err-area_refusal.was c.from_residual-in_err-area_refusal.result c.from_residual-in_err-area_refusal.ensures.1

pub write_document-requires : goal.write_document-requires
write_document-requires c =
    let g = c.requires in
    document_fits _ _ _ g.0 g.1 g.2 g.3 c.tally_refusal.ensures c.in_ok-tally_refusal.was

pub bounds-state-0 : goal.bounds-state-0
bounds-state-0 c =
    omega (arith, (store_held _ _ c.requires.0).size)

pub returns : goal.returns
returns c =
    let g = c.requires in
    let s = c.args.state.now in
    document_taken _ _ _ g.0 g.1 g.2 g.3 c.tally_refusal.ensures c.in_ok-tally_refusal.was
    c.answer_ok-need.ensures c.area_refusal.ensures c.in_ok-area_refusal.was
    (stage-put s _ (omega (arith, (store_held _ _ g.0).size)) ∙ ap (λ k. with_stage k s) (c.from.ensures ∙ c.nodes_stage.ensures)) c.write_document.ensures
