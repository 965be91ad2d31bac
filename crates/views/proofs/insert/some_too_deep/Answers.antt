use Rattle.std.proofs.Common.{rules}
use Rattle.std.proofs.iter.runs.Sources.{ranges}
use Rattle.views.proofs.DepthLaws.{any_deep}
use Rattle.views.proofs.insert.some_too_deep.Goals as goal

pub returns : goal.returns
returns c =
    let a = c.args in
    any_deep a.deep a.n a.t.now a.marks.now c.requires.1 c.any.result (λ k h e. search (rules, ranges)) (λ e. search (rules, ranges))
