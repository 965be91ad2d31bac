use mathlib.Core.Path.{refl}
use native.Mathlib.Omega.{arith}
use borrow.Author.Tests.{leb-false}
use Rattle.rights.specs.PolicyBytes.{isa_count}
use Rattle.rights.proofs.ListLaws.{rest_of}
use Rattle.lines.specs.PolicyEdit.{subject_named, number_in, with_isa}
use Rattle.lines.specs.State.{policy_bytes, policy_in}
use Rattle.lines.specs.Work.{isa_checks}
use Rattle.lines.proofs.PolicyLineLaws.{found_part, found_declared, isa_number, put-kept}
use Rattle.lines.proofs.RefusalLaws.{passed_ok, performs_refused, performs_short, performs_done}
use Rattle.lines.proofs.StateLaws.{store_held}
use Rattle.lines.proofs.policy_lines.relate.Goals as goal

pub slice_bounds-isa_subjects-count : goal.slice_bounds-isa_subjects-count
slice_bounds-isa_subjects-count c = omega (arith, (store_held _ _ c.requires).size)

pub slice_bounds-isa_subjects-start : goal.slice_bounds-isa_subjects-start
slice_bounds-isa_subjects-start c = omega (arith, (store_held _ _ c.requires).size)

pub isa_subjects-requires : goal.isa_subjects-requires
isa_subjects-requires c = rw (rest_of c.args.state.now 8) (store_held _ _ c.requires).policy

pub returns-in_err-n : goal.returns-in_err-n
returns-in_err-n c =
    let a = c.args in
    performs_refused _ _ _ (isa_number a.state.now a.member.now a.role.now c.isa_subjects.ensures.refusal) c.in_err-n.was c.from_residual.result c.from_residual.ensures.1

pub returns-in_err-area_refusal : goal.returns-in_err-area_refusal
returns-in_err-area_refusal c =
    let a = c.args in
    let s = a.state.now in
    performs_short _ _ _ (passed_ok (isa_checks (policy_bytes s) (subject_named (policy_in s) a.member.now) (subject_named (policy_in s) a.role.now)) refl (isa_number s a.member.now a.role.now c.isa_subjects.ensures.refusal) c.in_ok-n.was) c.answer_ok-need.ensures c.area_refusal.ensures c.in_err-area_refusal.was c.from_residual-in_err-area_refusal.result c.from_residual-in_err-area_refusal.ensures.1

pub slice_bounds-add_isa-count : goal.slice_bounds-add_isa-count
slice_bounds-add_isa-count c = omega (arith, (store_held _ _ c.requires).size)

pub slice_bounds-add_isa-start : goal.slice_bounds-add_isa-start
slice_bounds-add_isa-start c = omega (arith, (store_held _ _ c.requires).size)

pub add_isa-requires : goal.add_isa-requires
add_isa-requires c =
    let a = c.args in
    let s = a.state.now in
    let m = a.member.now in
    let r = a.role.now in
    let p = passed_ok (isa_checks (policy_bytes s) (subject_named (policy_in s) m) (subject_named (policy_in s) r)) refl (isa_number s m r c.isa_subjects.ensures.refusal) c.in_ok-n.was in
    let h = store_held s a.table.now c.requires in
    let f = c.in_ok-n.ensures.subjects in
    rw (rest_of s 8) (
      h.policy,
      omega (arith, leb-false 128 (isa_count (policy_bytes s)) p.1.1.1.1.0),
      found_declared (policy_bytes s) m h.policy (found_part s m f.0),
      found_declared (policy_bytes s) r h.policy (found_part s r f.1),
    )

pub returns : goal.returns
returns c =
    let a = c.args in
    let s = a.state.now in
    let m = a.member.now in
    let r = a.role.now in
    let f = c.in_ok-n.ensures.subjects in
    performs_done _ _ _ (passed_ok (isa_checks (policy_bytes s) (subject_named (policy_in s) m) (subject_named (policy_in s) r)) refl (isa_number s m r c.isa_subjects.ensures.refusal) c.in_ok-n.was) c.answer_ok-need.ensures c.area_refusal.ensures c.in_ok-area_refusal.was
    (put-kept s _ (λ x. with_isa x (number_in (subject_named (policy_in s) m)) (number_in (subject_named (policy_in s) r))) (omega (arith, (store_held s a.table.now c.requires).size))
    (rw (found_part s m f.0, found_part s r f.1) c.add_isa.ensures)) refl
