use borrow.Author.Rules.{rules}
use Rattle.std.proofs.Common.{None}
use Rattle.std.proofs.lemmas.Simd.{map-map}
use Rattle.rights.specs.How.Seen.{nodes_in}
use Rattle.answers.specs.Sheet.{lesson}
use Rattle.answers.specs.How.SheetParts.{place}
use Rattle.answers.proofs.SheetParts.{map_alike}
use Rattle.answers.proofs.sheet.find_lessons.Goals as goal

pub returns-clause-found : goal.returns-clause-found
returns-clause-found c =
    let a = c.args in
    let t = nodes_in a.shown.now in
    rw (map-map (lesson a.room.now t a.n) (place t) a.days)
    (map_alike (place t) (λ o. lesson a.room.now t a.n (place t o)) c.map.result a.days None None (search rules)
    (λ i h. let q = c.map.ensures.items.at i None None (search rules) in search rules))
