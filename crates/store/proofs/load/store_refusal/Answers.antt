use mathlib.Core.Path.{sym, ◌∙◌}
use native.Mathlib.Omega.{arith}
use Rattle.lines.proofs.StateLaws.{store_held}
use Rattle.store.proofs.load.store_refusal.Goals as goal

pub bounds-state-0 : goal.bounds-state-0
bounds-state-0 c = omega (arith, (store_held _ _ (sym c.store_ok.ensures ∙ c.if-not-store_ok.false)).size)
