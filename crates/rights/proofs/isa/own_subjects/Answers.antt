use mathlib.Core.Path.{◌≡◌, refl, ◌∙◌, ap}
use native.Mathlib.Numerals.{add-one}
use native.Mathlib.Omega.{arith}
use lib.ListN.{length}
use Rattle.rights.specs.Isa.{stands_for, subjects_where}
use Rattle.rights.specs.PolicyBytes.{policy_of}
use Rattle.rights.proofs.PolicyBytesLaws.{names_length}
use Rattle.rights.proofs.SoundLaws.{policy_sound}
use Rattle.rights.proofs.isa.own_subjects.Goals as goal

pub bounds-policy-0 : goal.bounds-policy-0
bounds-policy-0 c = omega (arith, (policy_sound _ c.requires.0).size)

pub loop-k-init : goal.loop-k-init
loop-k-init c = (omega arith, (unfold subjects_where in refl), c.requires.2, refl)

pub stands_for-requires : goal.stands_for-requires
stands_for-requires c = omega (arith, (policy_sound _ c.requires.0).subjects)

pub put_subject-m-requires : goal.put_subject-m-requires
put_subject-m-requires c = (omega (arith, (policy_sound _ c.requires.0).subjects), c.loop-k.invariant.0, c.loop-k.invariant.2)

pub loop-k-preserved : goal.loop-k-preserved
unfolding subjects_where
loop-k-preserved c =
    let l = c.loop-k in
    let r = c.put_subject-m.ensures in
    (omega (arith, r.1), r.0 ∙ rw (c.stands_for.ensures _ c.requires.1, add-one, l.invariant.1), r.2, r.3 _ l.invariant.3)

pub returns : goal.returns
returns c =
    let l = c.loop-k in
    let a = c.args in
    let e : l.k ≡ length (policy_of a.policy.now).names = omega (arith, names_length a.policy.now) in (
      record {
        few = omega (arith, l.invariant.2, (policy_sound _ c.requires.0).subjects);
        own = record { are = l.invariant.1 ∙ ap (subjects_where (stands_for (policy_of a.policy.now) a.u)) e };
      },
      l.invariant.3,
    )
