use mathlib.Core.Path.{◌≡◌, ◌∙◌}
use native.Mathlib.Omega.{arith}
use Rattle.rights.specs.How.Roles.{sweep}
use Rattle.rights.proofs.SoundLaws.{policy_sound}
use Rattle.rights.proofs.RolesLaws.{sweep-step, roles_are}
use Rattle.rights.proofs.isa.roles_of.Goals as goal

pub bounds-out-u : goal.bounds-out-u
bounds-out-u c = omega (arith, (policy_sound _ c.requires.0).subjects)

pub add_roles-requires : goal.add_roles-requires
add_roles-requires c =
    let s = policy_sound _ c.requires.0 in
    (s, omega (arith, s.subjects))

pub loop-k-preserved : goal.loop-k-preserved
loop-k-preserved c =
    let l = c.loop-k in
    sweep-step c.args.policy.now l.k l.out _ (omega (arith, c.loop-k-test.true)) c.add_roles.ensures ∙ l.invariant

pub returns : goal.returns
unfolding sweep
returns c =
    let a = c.args in
    let s = policy_sound _ c.requires.0 in
    let e : c.loop-k.k ≡ 0 = omega arith in
    rw (rw e at c.loop-k.invariant) (roles_are a.policy.now s a.u (omega (arith, c.requires.1, s.subjects)))
