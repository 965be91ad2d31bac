use mathlib.Core.Path.{refl}
use native.Mathlib.Omega.{arith}
use borrow.Author.Tests.{leb-false}
use Rattle.rights.specs.PolicyBytes.{rule_count}
use Rattle.rights.proofs.ListLaws.{rest_of}
use Rattle.lines.specs.PolicyEdit.{subject_named, number_in, steps_in, with_rule}
use Rattle.lines.specs.State.{policy_bytes, policy_in}
use Rattle.lines.specs.Work.{rule_checks}
use Rattle.lines.proofs.PolicyLineLaws.{found_part, found_declared, rule_number, plain_rule, put_room, put_staged}
use Rattle.lines.proofs.RefusalLaws.{passed_ok, performs_refused, performs_short, performs_done}
use Rattle.lines.proofs.StateLaws.{store_held}
use Rattle.lines.proofs.policy_lines.rule.Goals as goal

pub slice_bounds-rule_subject-count : goal.slice_bounds-rule_subject-count
slice_bounds-rule_subject-count c = omega (arith, (store_held _ _ c.requires).size)

pub slice_bounds-rule_subject-start : goal.slice_bounds-rule_subject-start
slice_bounds-rule_subject-start c = omega (arith, (store_held _ _ c.requires).size)

pub rule_subject-requires : goal.rule_subject-requires
rule_subject-requires c = rw (rest_of c.args.state.now 8) (store_held _ _ c.requires).policy

pub returns-in_err-who : goal.returns-in_err-who
returns-in_err-who c =
    let a = c.args in
    performs_refused _ _ _ (rule_number a.state.now a.path.now a.name.now c.rule_subject.ensures.refusal) c.in_err-who.was c.from_residual.result c.from_residual.ensures.1

pub returns-in_err-area_refusal : goal.returns-in_err-area_refusal
returns-in_err-area_refusal c =
    let a = c.args in
    let s = a.state.now in
    performs_short _ _ _ (passed_ok (rule_checks (policy_bytes s) a.path.now (subject_named (policy_in s) a.name.now)) refl (rule_number s a.path.now a.name.now c.rule_subject.ensures.refusal) c.in_ok-who.was) c.answer_ok-need.ensures c.area_refusal.ensures c.in_err-area_refusal.was c.from_residual-in_err-area_refusal.result c.from_residual-in_err-area_refusal.ensures.1

pub slice_bounds-add_rule-count : goal.slice_bounds-add_rule-count
slice_bounds-add_rule-count c = omega (arith, (store_held _ _ c.requires).size)

pub slice_bounds-add_rule-start : goal.slice_bounds-add_rule-start
slice_bounds-add_rule-start c = omega (arith, (store_held _ _ c.requires).size)

pub add_rule-requires : goal.add_rule-requires
add_rule-requires c =
    let a = c.args in
    let s = a.state.now in
    let h = a.path.now in
    let n = a.name.now in
    let p = passed_ok (rule_checks (policy_bytes s) h (subject_named (policy_in s) n)) refl (rule_number s h n c.rule_subject.ensures.refusal) c.in_ok-who.was in
    let g = store_held s a.table.now c.requires in
    rw (rest_of s 8) (
      g.policy,
      omega (arith, leb-false 128 (rule_count (policy_bytes s)) p.1.1.1.0),
      found_declared (policy_bytes s) n g.policy (found_part s n c.in_ok-who.ensures.subject),
      plain_rule h p.0 p.1.1.0,
    )

pub bounds-state-0 : goal.bounds-state-0
bounds-state-0 c =
    put_room c.args.state.now c.add_rule.new.policy (omega (arith, (store_held _ _ c.requires).size))

pub returns : goal.returns
returns c =
    let a = c.args in
    let s = a.state.now in
    let h = a.path.now in
    let n = a.name.now in
    performs_done _ _ _ (passed_ok (rule_checks (policy_bytes s) h (subject_named (policy_in s) n)) refl (rule_number s h n c.rule_subject.ensures.refusal) c.in_ok-who.was) c.answer_ok-need.ensures c.area_refusal.ensures c.in_ok-area_refusal.was
    (rw c.from.ensures (put_staged s _ (λ x. with_rule x a.accept a.right (number_in (subject_named (policy_in s) n)) (steps_in h)) (omega (arith, (store_held s a.table.now c.requires).size))
    (rw (found_part s n c.in_ok-who.ensures.subject) c.add_rule.ensures) 1)) refl
