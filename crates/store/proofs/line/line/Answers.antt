-- The two groups of refusals stand in front of the form's own; where neither refuses, the form's work is the line's.
use native.Mathlib.Omega.{arith}
use lib.ListN.{replicate}
use Rattle.lines.proofs.StateLaws.{store_held}
use Rattle.store.proofs.LineLaws.{form_room, text_passed, text_refused, form_refused, run-asks, line_run}
use Rattle.store.proofs.line.line.Goals as goal

pub returns-in_err-text_refusal : goal.returns-in_err-text_refusal
returns-in_err-text_refusal c = text_refused _ _ _ c.text_refusal.ensures c.in_err-text_refusal.was c.from_residual.result c.from_residual.ensures.1

pub read_form-f-requires : goal.read_form-f-requires
read_form-f-requires c = form_room _ (text_passed _ _ _ c.text_refusal.ensures c.in_ok-text_refusal.was).1

pub bounds-state-0 : goal.bounds-state-0
bounds-state-0 c =
    omega (arith, (store_held _ _ (text_passed _ _ _ c.text_refusal.ensures c.in_ok-text_refusal.was).0).size)

pub returns-in_err-form_refusal : goal.returns-in_err-form_refusal
returns-in_err-form_refusal c =
    form_refused _ _ _ c.text_refusal.ensures c.in_ok-text_refusal.was
    c.read_form-f.ensures.0 c.form_refusal.ensures c.in_err-form_refusal.was c.from_residual-in_err-form_refusal.result c.from_residual-in_err-form_refusal.ensures.1

pub run-requires : goal.run-requires
run-requires c =
    run-asks _ _ _ c.text_refusal.ensures c.in_ok-text_refusal.was c.read_form-f.ensures.0
    c.form_refusal.ensures c.in_ok-form_refusal.was (replicate 16384 0) _ c.read_form-f.ensures.1

pub returns : goal.returns
returns c =
    line_run _ _ _ c.text_refusal.ensures c.in_ok-text_refusal.was c.read_form-f.ensures.0
    c.form_refusal.ensures c.in_ok-form_refusal.was c.run.ensures
