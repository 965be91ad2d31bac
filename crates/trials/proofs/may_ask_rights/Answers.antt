use mathlib.Core.Path.{sym, ◌∙◌}
use Rattle.trials.proofs.TrialLaws.{asks_gives, asked_room, asked-none}
use Rattle.rights.proofs.TableLaws.{table_long}
use Rattle.trials.proofs.may_ask_rights.Goals as goal

pub count_of-requires : goal.count_of-requires
count_of-requires c = table_long _ (asks_gives _ _ _ (sym c.may_ask.ensures ∙ c.if-may_ask.true)).2

pub returns-then-may_ask : goal.returns-then-may_ask
returns-then-may_ask c = rw c.count_of.ensures (sym (asked_room _ _ _ _ (sym c.may_ask.ensures ∙ c.if-may_ask.true)))

pub returns-else-may_ask : goal.returns-else-may_ask
returns-else-may_ask c = c.if-may_ask.false ∙ sym (asked-none _ _ _ _ (sym c.may_ask.ensures ∙ c.if-may_ask.false))
