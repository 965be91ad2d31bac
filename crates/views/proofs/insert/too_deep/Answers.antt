use mathlib.Core.Path.{◌∙◌}
use native.Mathlib.Omega.{arith}
use Rattle.views.proofs.TableLaws.{facts}
use Rattle.views.proofs.ChunkLaws.{all-chunks}
use Rattle.views.proofs.insert.too_deep.Goals as goal

pub count_of-n-requires : goal.count_of-n-requires
count_of-n-requires c =
    omega (arith, (facts c.args.t.now c.requires.0).head)

pub some_too_deep-requires : goal.some_too_deep-requires
some_too_deep-requires c =
    let f = facts c.args.t.now c.requires.0 in
    let n = c.count_of-n.ensures in
    (omega (arith, n, f.size), omega (arith, n, c.requires.1), omega (arith, c.levels_down.ensures.1, c.deepest_level.ensures.1))

pub returns : goal.returns
returns c =
    let a = c.args in
    c.some_too_deep.ensures ∙ rw (c.count_of-n.ensures, ← all-chunks a.t.now, c.levels_down.ensures.0, c.deepest_level.ensures.0)
