use mathlib.Core.Path.{refl, sym, ◌∙◌}
use Rattle.rights.specs.PathReader.{path_of}
use Rattle.rights.proofs.OwnNames.{own_sound, own_part}
use Rattle.rights.proofs.PathLaws.{is_path}
use Rattle.rights.proofs.SoundLaws.{policy_sound}
use Rattle.trials.proofs.TrialLaws.{nodes_gives, nodes_fit, asks_subject, nodes_done, nodes_bad, nodes_refused}
use Rattle.trials.proofs.trial_select.Goals as goal

pub returns-in_default-clause-tried : goal.returns-in_default-clause-tried
returns-in_default-clause-tried c =
    nodes_bad _ _ _ _ _ _ (sym c.may_select.ensures ∙ c.if-not-may_select.false) (sym c.check_path.ensures ∙ c.in_default.is)

pub roles_of-roles-requires : goal.roles_of-roles-requires
roles_of-roles-requires c =
    let g = nodes_gives _ _ _ _ _ (sym c.may_select.ensures ∙ c.if-not-may_select.false) in
    let user = asks_subject _ _ _ g.0 in
    (user.policy, user.subject)

pub own_subjects-m-requires : goal.own_subjects-m-requires
own_subjects-m-requires c =
    let g = nodes_gives _ _ _ _ _ (sym c.may_select.ensures ∙ c.if-not-may_select.false) in
    ((asks_subject _ _ _ g.0).policy, c.roles_of-roles.ensures, refl)

pub invariant_of-nodes : goal.invariant_of-nodes
invariant_of-nodes c = record { fits = nodes_fit _ _ _ _ _ (sym c.may_select.ensures ∙ c.if-not-may_select.false) }

pub select-requires : goal.select-requires
select-requires c =
    let e = sym c.may_select.ensures ∙ c.if-not-may_select.false in
    let g = nodes_gives _ _ _ _ _ e in (
      (asks_subject _ _ _ g.0).policy,
      own_sound (own_part c.own_subjects-m.ensures.0) (policy_sound _ (asks_subject _ _ _ g.0).policy),
      is_path (path_of c.args.path.now) _ (sym c.check_path.ensures ∙ c.in-Some.is),
      g.2,
    )

pub returns-then-not-may_select-clause-tried : goal.returns-then-not-may_select-clause-tried
returns-then-not-may_select-clause-tried c = nodes_refused _ _ _ _ _ _ (sym c.may_select.ensures ∙ c.if-not-may_select.true)

pub returns : goal.returns
returns c =
    let e = sym c.may_select.ensures ∙ c.if-not-may_select.false in
    record {
      tried = nodes_done _ _ _ _ _ _ e _ (sym c.check_path.ensures ∙ c.in-Some.is) _ _ (own_part c.own_subjects-m.ensures.0) c.select.ensures;
      few = (nodes_gives _ _ _ _ _ e).1;
    }
