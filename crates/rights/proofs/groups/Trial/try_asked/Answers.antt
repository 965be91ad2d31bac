use mathlib.Core.Path.{refl, ◌∙◌}
use Rattle.rights.proofs.FiveRights.{holds-bit}
use Rattle.rights.proofs.groups.Trial.try_asked.Goals as goal

pub returns-then-holds_right : goal.returns-then-holds_right
returns-then-holds_right c =
    let r = c.try_right.ensures in
    let e = (holds-bit c.args.right c.args.asked _ c.requires.0 c.holds_right.ensures) ∙ c.if-holds_right.true in
    record { long = r.long; at = λ i h. rw e (r.at i h); rest = r.rest }

pub returns-else-holds_right : goal.returns-else-holds_right
returns-else-holds_right c =
    let e = (holds-bit c.args.right c.args.asked _ c.requires.0 c.holds_right.ensures) ∙ c.if-holds_right.false in
    record { long = refl; at = λ i h. rw e refl; rest = refl }
