use Rattle.std.proofs.Common.{rules, tests}
use Rattle.std.proofs.lemmas.Iterator.{YieldsList-from_range}
use Rattle.std.proofs.lemmas.Iterator.Search.{any_from_yields_List}
use Prim.Native.Nat.{◌*◌}
use mathlib.Core.Path.{refl, ◌∙◌}
use native.Mathlib.Omega.{arith}
use lib.ListN.{take, drop}
use Rattle.rights.specs.Labels.{same_label, restricted}
use Rattle.rights.specs.Table.{label}
use Rattle.lines.proofs.TreeLineLaws.{restricted_any}
use Rattle.lines.proofs.tree_lines.tree_restricted.Goals as goal

pub returns : goal.returns
returns c =
    let t = c.args.tree.now in
    any_from_yields_List (λ j. same_label (label (take 32 (drop (j * 32) t))) restricted) _ _ _ c.any.ensures.ran (YieldsList-from_range 0 _ c.args.m refl (omega arith)) (λ x b q k. search (rules, tests))
    ∙ restricted_any t c.args.m 0
