use mathlib.Core.Path.{refl, ap, ◌∙◌}
use native.Mathlib.Omega.{arith}
use borrow.Author.Tests.{leb-false}
use Rattle.rights.specs.PolicyBytes.{subject_count}
use Rattle.rights.proofs.ListLaws.{rest_of}
use Rattle.lines.specs.PolicyEdit.{with_subject}
use Rattle.lines.specs.Refusal.{first_refusal}
use Rattle.lines.specs.State.{policy_bytes}
use Rattle.lines.specs.Work.{subject_checks}
use Rattle.lines.proofs.PolicyLineLaws.{put-kept}
use Rattle.lines.proofs.RefusalLaws.{passed_ok, performs_refused, performs_short, performs_done}
use Rattle.lines.proofs.StateLaws.{store_held}
use Rattle.lines.proofs.policy_lines.declare.Goals as goal

pub slice_bounds-subject_refusal-count : goal.slice_bounds-subject_refusal-count
slice_bounds-subject_refusal-count c = omega (arith, (store_held _ _ c.requires.0).size)

pub slice_bounds-subject_refusal-start : goal.slice_bounds-subject_refusal-start
slice_bounds-subject_refusal-start c =
    omega (arith, (store_held _ _ c.requires.0).size)

pub subject_refusal-requires : goal.subject_refusal-requires
subject_refusal-requires c =
    rw (rest_of c.args.state.now 8) (store_held _ _ c.requires.0).policy

pub returns-in_err-subject_refusal : goal.returns-in_err-subject_refusal
returns-in_err-subject_refusal c =
    let a = c.args in
    performs_refused _ _ _ (c.subject_refusal.ensures ∙ ap (λ p. first_refusal (subject_checks p a.name.now)) (rest_of a.state.now 8)) c.in_err-subject_refusal.was c.from_residual.result c.from_residual.ensures.1

pub returns-in_err-area_refusal : goal.returns-in_err-area_refusal
returns-in_err-area_refusal c =
    let a = c.args in
    performs_short _ _ _ (passed_ok (subject_checks (policy_bytes a.state.now) a.name.now) refl (c.subject_refusal.ensures ∙ ap (λ p. first_refusal (subject_checks p a.name.now)) (rest_of a.state.now 8)) c.in_ok-subject_refusal.was) c.answer_ok-need.ensures c.area_refusal.ensures c.in_err-area_refusal.was c.from_residual-in_err-area_refusal.result c.from_residual-in_err-area_refusal.ensures.1

pub slice_bounds-add_subject-count : goal.slice_bounds-add_subject-count
slice_bounds-add_subject-count c =
    omega (arith, (store_held _ _ c.requires.0).size)

pub slice_bounds-add_subject-start : goal.slice_bounds-add_subject-start
slice_bounds-add_subject-start c =
    omega (arith, (store_held _ _ c.requires.0).size)

pub add_subject-requires : goal.add_subject-requires
add_subject-requires c =
    let a = c.args in
    let s = a.state.now in
    rw (rest_of s 8)
    ((store_held _ _ c.requires.0).policy, omega (arith, leb-false 64 (subject_count (policy_bytes s)) (passed_ok (subject_checks (policy_bytes s) a.name.now) refl (c.subject_refusal.ensures ∙ ap (λ p. first_refusal (subject_checks p a.name.now)) (rest_of s 8)) c.in_ok-subject_refusal.was).1.0), c.requires.1)

pub returns : goal.returns
returns c =
    let a = c.args in
    let s = a.state.now in
    let n = a.name.now in
    performs_done _ _ _ (passed_ok (subject_checks (policy_bytes s) n) refl (c.subject_refusal.ensures ∙ ap (λ p. first_refusal (subject_checks p n)) (rest_of s 8)) c.in_ok-subject_refusal.was) c.answer_ok-need.ensures c.area_refusal.ensures c.in_ok-area_refusal.was
    (put-kept s _ (λ x. with_subject x n) (omega (arith, (store_held s a.table.now c.requires.0).size)) c.add_subject.ensures) refl
