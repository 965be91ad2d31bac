use mathlib.Core.List.{[], ◌∷◌}
use borrow.Author.Rules.{rules}
use Rattle.std.proofs.Common.{None}
use Rattle.rights.specs.XPath.{at, children}
use Rattle.rights.specs.How.Seen.{nodes_in}
use Rattle.answers.specs.Sheet.{nth, days}
use Rattle.answers.specs.How.SheetParts.{place}
use Rattle.answers.proofs.SheetParts.{map_alike}
use Rattle.answers.proofs.sheet.find_days.Goals as goal

pub returns-clause-found : goal.returns-clause-found
unfolding days
returns-clause-found c =
    let t = nodes_in c.args.shown.now in
    map_alike (place t) (nth t (children t (at 0))) c.map.result (0 ∷ 1 ∷ 2 ∷ 3 ∷ 4 ∷ []) None 0 c.map.ensures.items.long
    (λ i h. let q = c.map.ensures.items.at i 0 None h in search rules)
