use Rattle.std.proofs.Common.{rules, tests}
use Rattle.std.proofs.lemmas.Iterator.{YieldsList-from_range, serves_from_Range}
use Rattle.std.proofs.lemmas.Iterator.Search.{any_from_yields_List}
use Prim.Native.Nat.{◌≤◌, ◌<◌}
use mathlib.Core.Path.{refl, ◌∙◌}
use native.Mathlib.Omega.{arith}
use lib.ListN.{length}
use Rattle.rights.specs.Limits.{policy_size}
use Rattle.rights.specs.PolicyBytes.{isa_count, isa_n, isa_r}
use Rattle.rights.proofs.SoundLaws.{policy_sound}
use Rattle.lines.specs.PolicyEdit.{is_line}
use Rattle.lines.proofs.EditTests.{held_any}
use Rattle.lines.proofs.policy_edit.isa_held.Goals as goal

pub bounds-policy-1 : goal.bounds-policy-1
bounds-policy-1 c = omega (arith, (policy_sound c.args.policy.now c.requires).size)

pub any-requires-clause-callable : goal.any-requires-clause-callable
any-requires-clause-callable c =
    let p = c.args.policy.now in
    let g = policy_sound p c.requires in
    serves_from_Range (λ x q k. search (rules, tests)) (λ x low high. let h : x < 128 = omega (arith, high, c.from.ensures, g.lines) in let s : policy_size ≤ length p = g.size in search rules)

pub returns : goal.returns
returns c =
    let p = c.args.policy.now in
    any_from_yields_List (λ k. is_line c.args.n c.args.r (isa_n p k, isa_r p k)) _ _ _ c.any.ensures.ran (YieldsList-from_range 0 _ (isa_count p) refl (omega (arith, c.from.ensures))) (λ x b q k. search (rules, tests))
    ∙ held_any p c.args.n c.args.r
