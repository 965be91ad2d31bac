use mathlib.Core.Path.{sym, ◌∙◌}
use native.Mathlib.Omega.{arith}
use Rattle.rights.proofs.SoundLaws.{policy_sound}
use Rattle.lines.proofs.StoredPaths.{plain}
use Rattle.lines.proofs.policy_lines.rule_subject.Goals as goal

pub bounds-policy-2 : goal.bounds-policy-2
bounds-policy-2 c = omega (arith, (policy_sound c.args.policy.now c.requires).size)

pub path_restricted-requires : goal.path_restricted-requires
path_restricted-requires c =
    plain c.args.path.now _ (sym c.check_path.ensures ∙ c.in-Some.is) (sym c.has_bracket.ensures ∙ c.if-has_bracket.false)
