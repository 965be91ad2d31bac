use mathlib.Core.Path.{sym, ◌∙◌}
use borrow.Author.Tests.{lt-leb}
use Rattle.trials.proofs.TrialLaws.{asks_gives, nodes_below, nodes_crowded, nodes_many, nodes_none}
use Rattle.rights.proofs.TableLaws.{table_long}
use Rattle.trials.proofs.may_select.Goals as goal

pub count_of-requires : goal.count_of-requires
count_of-requires c =
    table_long _ (asks_gives _ _ _ (sym c.may_ask.ensures ∙ c.if-may_ask.true)).2

pub returns-then-shown-room : goal.returns-then-shown-room
returns-then-shown-room c =
    c.all_below.ensures ∙ rw c.count_of.ensures (sym (nodes_below _ _ _ _ _ (sym c.may_ask.ensures ∙ c.if-may_ask.true) c.if-shown-le-RECORDS_MAX.true c.if-shown-room.true))

pub returns-else-shown-room : goal.returns-else-shown-room
returns-else-shown-room c =
    lt-leb _ _ c.if-shown-room.false ∙ sym (nodes_crowded _ _ _ _ _ (sym c.may_ask.ensures ∙ c.if-may_ask.true) c.if-shown-le-RECORDS_MAX.true c.if-shown-room.false)

pub returns-else-shown-le-RECORDS_MAX : goal.returns-else-shown-le-RECORDS_MAX
returns-else-shown-le-RECORDS_MAX c = lt-leb _ _ c.if-shown-le-RECORDS_MAX.false ∙ sym (nodes_many _ _ _ _ _ (sym c.may_ask.ensures ∙ c.if-may_ask.true) c.if-shown-le-RECORDS_MAX.false)

pub returns-else-may_ask : goal.returns-else-may_ask
returns-else-may_ask c = c.if-may_ask.false ∙ sym (nodes_none _ _ _ _ _ (sym c.may_ask.ensures ∙ c.if-may_ask.false))
