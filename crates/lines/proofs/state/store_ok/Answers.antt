use mathlib.Core.Bool.{false≢true}
use mathlib.Core.Path.{sym, ◌∙◌}
use native.Mathlib.Omega.{arith}
use Rattle.lines.proofs.StateLaws.{state_size_lem}
use Rattle.lines.proofs.state.store_ok.Goals.{then-table_ok, else-table_ok}
use Rattle.lines.proofs.state.store_ok.Goals as goal

pub agree-requires : goal.agree-requires
agree-requires c =
    elim c.if-table_ok.branch [
      | then-table_ok w ↦ (omega (arith, state_size_lem _ (sym w.state_ok.ensures ∙ sym w.value-is ∙ c.if-state_ok.true)), sym c.table_ok.ensures ∙ w.if-table_ok.true)
      | else-table_ok w ↦ absurd (false≢true (sym w.if-table_ok.false ∙ sym w.value-is ∙ c.if-state_ok.true))
    ]
