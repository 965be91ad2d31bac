use Prim.Native.Nat.{ℕ}
use mathlib.Core.Path.{sym, ap, ◌∙◌}
use mathlib.Core.List.{List}
use native.Mathlib.Omega.{arith}
use lib.ListN.{get_or}
use Rattle.rights.proofs.PassLaws as laws
use Rattle.rights.proofs.nodes.Shown.level.Goals as goal

pub bounds-self-place : goal.bounds-self-place
bounds-self-place c =
    let h = c.args.self.now.fits.stands c.args.i c.requires in omega arith

pub returns : goal.returns
returns c =
    let table : List ℕ = c.args.self.now.table.now in
    let numbers : List ℕ = c.args.self.now.numbers.now in
    let i : ℕ = c.args.i in
    let e = ap (λ (k : ℕ). get_or table k 0) c.record_place-place.ensures in
    let l = c.args.self.now.fits.low i c.requires in
    (c.from.ensures ∙ e ∙ sym (laws.level-seen table numbers i c.requires), omega arith)
