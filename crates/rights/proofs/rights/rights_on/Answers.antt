use Prim.Native.Nat.{ℕ}
use mathlib.Core.Path.{◌∙◌, ap}
use mathlib.Core.List.{List, [], ◌++◌}
use lib.ListN.{drop}
use Rattle.rights.specs.Table.{records, count}
use Rattle.rights.specs.Rights.{chains}
use Rattle.rights.proofs.RightsLaws.{rule_bit}
use Rattle.rights.proofs.FiveRights.{asked-all}
use Rattle.rights.proofs.rights.rights_on.Goals as goal

pub asked_on-requires : goal.asked_on-requires
asked_on-requires c =
    let g = c.requires in
    (g.0, c.roles_of-roles.ensures, c.own_subjects-m.ensures.0.own, g.2, g.3)

pub returns : goal.returns
returns c =
    let a = c.args in
    let g = c.requires in
    c.asked_on.ensures ∙ ap (λ (l : List ℕ). l ++ drop (count a.table.now) a.out.now) (asked-all a.policy.now a.u (rule_bit _ g.0) (chains [] (records a.table.now)))
