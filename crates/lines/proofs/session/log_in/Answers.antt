use Prim.Native.Nat.{◌+◌}
use mathlib.Core.Path.{refl, sym, ap, ◌∙◌}
use native.Mathlib.Omega.{arith}
use lib.ListN.{length-set}
use Rattle.rights.proofs.ListLaws.{rest_of}
use Rattle.lines.specs.PolicyEdit.{subject_named, number_in}
use Rattle.lines.specs.State.{policy_in, policy_bytes, with_session}
use Rattle.lines.specs.Work.{user_checks}
use Rattle.lines.proofs.PolicyLineLaws.{found_part, found_small, user_number}
use Rattle.lines.proofs.RefusalLaws.{passed_ok, performs_refused, performs_short, performs_done}
use Rattle.lines.proofs.StateLaws.{store_held, session_put}
use Rattle.lines.proofs.session.log_in.Goals as goal

pub slice_bounds-user_subject-count : goal.slice_bounds-user_subject-count
slice_bounds-user_subject-count c = omega (arith, (store_held _ _ c.requires).size)

pub slice_bounds-user_subject-start : goal.slice_bounds-user_subject-start
slice_bounds-user_subject-start c = omega (arith, (store_held _ _ c.requires).size)

pub user_subject-requires : goal.user_subject-requires
user_subject-requires c = rw (rest_of c.args.state.now 8) (store_held _ _ c.requires).policy

pub returns-in_err-who : goal.returns-in_err-who
returns-in_err-who c =
    performs_refused _ _ _ (user_number c.args.state.now c.args.name.now c.user_subject.ensures.refusal) c.in_err-who.was c.from_residual.result c.from_residual.ensures.1

pub returns-in_err-area_refusal : goal.returns-in_err-area_refusal
returns-in_err-area_refusal c =
    let a = c.args in
    performs_short _ _ _ (passed_ok (user_checks (subject_named (policy_in a.state.now) a.name.now)) refl (user_number a.state.now a.name.now c.user_subject.ensures.refusal) c.in_ok-who.was) c.answer_ok-need.ensures c.area_refusal.ensures c.in_err-area_refusal.was c.from_residual-in_err-area_refusal.result c.from_residual-in_err-area_refusal.ensures.1

pub bounds-state-0 : goal.bounds-state-0
bounds-state-0 c = omega (arith, (store_held _ _ c.requires).size)

pub overflow_add-state : goal.overflow_add-state
overflow_add-state c =
    let a = c.args in
    let s = a.state.now in
    omega (arith, found_small (policy_bytes s) a.name.now (store_held s a.table.now c.requires).policy (found_part s a.name.now c.in_ok-who.ensures.subject))

pub overflow_cast-state : goal.overflow_cast-state
overflow_cast-state c =
    let a = c.args in
    let s = a.state.now in
    omega (arith, found_small (policy_bytes s) a.name.now (store_held s a.table.now c.requires).policy (found_part s a.name.now c.in_ok-who.ensures.subject))

pub bounds-state-1 : goal.bounds-state-1
bounds-state-1 c = simp length-set (omega (arith, (store_held _ _ c.requires).size))

pub returns : goal.returns
returns c =
    let a = c.args in
    let s = a.state.now in
    performs_done _ _ _ (passed_ok (user_checks (subject_named (policy_in s) a.name.now)) refl (user_number s a.name.now c.user_subject.ensures.refusal) c.in_ok-who.was) c.answer_ok-need.ensures c.area_refusal.ensures c.in_ok-area_refusal.was
    (rw c.from.ensures (session_put s 4 _ (omega (arith, (store_held s a.table.now c.requires).size)) ∙ ap (λ u. with_session 4 (u + 1) s) (sym (ap number_in (found_part s a.name.now c.in_ok-who.ensures.subject))))) refl
