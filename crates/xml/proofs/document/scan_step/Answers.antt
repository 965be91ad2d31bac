use Rattle.xml.proofs.ScanLaws.{steps_end, steps_outside, steps_opens, steps-closes, steps_unclosed, steps_unended, steps_leaf}
use mathlib.Core.Path.{sym, ◌∙◌}
use Rattle.xml.proofs.document.scan_step.Goals as goal

pub returns-in-End : goal.returns-in-End
returns-in-End c = steps_end c.args.low c.requires c.in-End.ensures c.if-d-eq0.true

pub returns-in_default : goal.returns-in_default
returns-in_default c = steps_outside c.args.low c.requires _ c.next_token-seen.ensures c.if-d-eq0.true c.in_default.not-End

pub returns-in-Opens : goal.returns-in-Opens
returns-in-Opens c = steps_opens c.args.low c.requires _ c.in-Opens.ensures c.if-d-eq0.false _ c.put_place.ensures _ c.counted.ensures

pub returns-then-not-closes_open : goal.returns-then-not-closes_open
returns-then-not-closes_open c = steps_unclosed c.args.low c.requires _ c.in-Closes.ensures c.if-d-eq0.false (sym c.closes_open.ensures ∙ c.if-not-closes_open.true)

pub returns-else-not-closes_open : goal.returns-else-not-closes_open
returns-else-not-closes_open c = steps-closes c.args.low c.requires _ c.in-Closes.ensures c.if-d-eq0.false (sym c.closes_open.ensures ∙ c.if-not-closes_open.false)

pub returns-in-Empty : goal.returns-in-Empty
returns-in-Empty c = steps_leaf c.args.low c.requires _ c.next_token-seen.ensures c.if-d-eq0.false _ c.in-Empty.is _ c.counted-in-Empty.ensures

pub returns-in-End-seen : goal.returns-in-End-seen
returns-in-End-seen c = steps_unended c.args.low c.requires _ c.next_token-seen.ensures c.if-d-eq0.false c.in-End-seen.is
