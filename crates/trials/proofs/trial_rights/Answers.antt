use mathlib.Core.Path.{sym, ◌∙◌}
use Rattle.trials.proofs.TrialLaws.{rights_gives, asks_gives, rights_done, rights-refused}
use Rattle.rights.proofs.TableLaws.{table_long, table_few}
use Rattle.trials.proofs.trial_rights.Goals as goal

pub rights_on-requires : goal.rights_on-requires
rights_on-requires c =
    let g = rights_gives _ _ _ _ (sym c.may_ask_rights.ensures ∙ c.if-not-may_ask_rights.false) in
    let a = asks_gives _ _ _ g.0 in
    (a.0, a.1, a.2, g.1)

pub count_of-requires : goal.count_of-requires
count_of-requires c =
    let g = rights_gives _ _ _ _ (sym c.may_ask_rights.ensures ∙ c.if-not-may_ask_rights.false) in
    table_long _ (asks_gives _ _ _ g.0).2

pub returns-then-not-may_ask_rights-clause-tried : goal.returns-then-not-may_ask_rights-clause-tried
returns-then-not-may_ask_rights-clause-tried c = rights-refused _ _ _ _ (sym c.may_ask_rights.ensures ∙ c.if-not-may_ask_rights.true)

pub returns : goal.returns
returns c =
    let e = sym c.may_ask_rights.ensures ∙ c.if-not-may_ask_rights.false in
    let g = rights_gives _ _ _ _ e in
    record {
      tried = rights_done _ _ _ _ e _ c.count_of.ensures _ c.rights_on.ensures;
      few = rw c.count_of.ensures (table_few _ (asks_gives _ _ _ g.0).2);
    }
