-- `*` is passed by every label, `$` by those that are marked for it, and a label by its own.
use mathlib.Core.Bool.{true}
use mathlib.Core.Path.{refl}
use native.Mathlib.Omega.{arith}
use Rattle.rights.specs.Nodes.{label_at}
use Rattle.rights.specs.How.Seen.{nodes_in}
use Rattle.rights.proofs.PassLaws.{passed_any, passed-own, passed-label, mark_on}
use Rattle.rights.proofs.passes.passes_test.Goals as goal

pub returns-in-42 : goal.returns-in-42
returns-in-42 c =
    let a = c.args in
    λ mine told. passed_any a.s.now a.at a.end mine (label_at (nodes_in a.shown.now) a.i) true c.in-42.is refl

pub returns-in-36 : goal.returns-in-36
returns-in-36 c =
    let a = c.args in
    λ mine told. passed-own a.s.now a.at a.end mine (label_at (nodes_in a.shown.now) a.i) _ c.in-36.is
    (mark_on a.own.now _ _ a.i _ (told a.at c.in-36.is) c.requires.1 refl)

pub returns-in_default : goal.returns-in_default
returns-in_default c =
    let a = c.args in
    λ mine told. passed-label a.s.now a.at a.end mine (label_at (nodes_in a.shown.now) a.i) _ (λ z. omega (arith, z)) (λ z. omega (arith, z)) c.label_is.ensures
