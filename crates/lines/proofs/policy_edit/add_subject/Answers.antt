-- The record is put, then the count is raised.
use native.Mathlib.Omega.{arith}
use Rattle.lines.proofs.EditBytes.{subject_written}
use Rattle.rights.proofs.SoundLaws.{policy_sound}
use Rattle.lines.proofs.policy_edit.add_subject.Goals as goal

pub bounds-policy-0 : goal.bounds-policy-0
bounds-policy-0 c =
    omega (arith, (policy_sound c.args.policy.now c.requires.0).size)

pub put_name-requires : goal.put_name-requires
put_name-requires c =
    let g = policy_sound c.args.policy.now c.requires.0 in
    (omega (arith, g.size, c.from.ensures), c.requires.2)

pub bounds-policy-0-2 : goal.bounds-policy-0-2
bounds-policy-0-2 c =
    omega (arith, (policy_sound c.args.policy.now c.requires.0).size)

pub returns : goal.returns
returns c =
    let a = c.args in
    let r = c.put_name in
    subject_written a.policy.now r.new.out a.name.now c.from.result c.from.ensures r.ensures
