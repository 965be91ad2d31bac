use mathlib.Core.Path.{sym, ◌∙◌}
use borrow.Author.Tests.{le-ltb}
use Rattle.trials.proofs.TrialLaws.{policy_long, asks_no_policy, asks_no_subject, asks_table}
use Rattle.trials.proofs.may_ask.Goals as goal

pub bounds-policy-0 : goal.bounds-policy-0
bounds-policy-0 c = policy_long _ (sym c.policy_ok.ensures ∙ c.if-policy_ok.true)

pub returns-then-u-from : goal.returns-then-u-from
returns-then-u-from c =
    let h = c.if-u-from.true in
    let e = c.from.ensures in
    c.table_ok.ensures ∙ sym (asks_table _ _ _ (sym c.policy_ok.ensures ∙ c.if-policy_ok.true) (rw e at h))

pub returns-else-u-from : goal.returns-else-u-from
returns-else-u-from c =
    let h = c.if-u-from.false in
    let e = c.from.ensures in
    le-ltb _ _ c.if-u-from.false ∙ sym (asks_no_subject _ _ _ (sym c.policy_ok.ensures ∙ c.if-policy_ok.true) (rw e at h))

pub returns-else-policy_ok : goal.returns-else-policy_ok
returns-else-policy_ok c = c.if-policy_ok.false ∙ sym (asks_no_policy _ _ _ (sym c.policy_ok.ensures ∙ c.if-policy_ok.false))
