use mathlib.Core.List.{◌∷◌}
use mathlib.Core.Path.{refl, ap, ◌∙◌}
use native.Mathlib.Omega.{arith}
use borrow.Author.Tests.{not-false}
use Rattle.rights.proofs.TableLaws.{table_few}
use Rattle.views.specs.Change.{changed}
use Rattle.views.specs.declared.insert.Place.TheVariants.{Append}
use Rattle.lines.specs.Refusal.{first_refusal}
use Rattle.lines.specs.Work.{label_check, insert_checks, root_alone}
use Rattle.lines.proofs.RefusalLaws.{passed_ok, performs_refused, performs_short, performs_done}
use Rattle.lines.proofs.StateLaws.{store_held, stage-put}
use Rattle.lines.proofs.TreeLineLaws.{root_placed, root_deep, root_fits, root_checks_lem}
use Rattle.lines.proofs.tree_lines.child.Goals as goal

pub child_refusal-requires : goal.child_refusal-requires
child_refusal-requires c =
    let g = c.requires in
    let h = (store_held _ _ g.0).table in
    (h, table_few _ h, g.1, g.2)

pub returns-in_err-child_refusal : goal.returns-in_err-child_refusal
returns-in_err-child_refusal c =
    let a = c.args in
    performs_refused _ _ _ (c.child_refusal.ensures ∙ ap (λ cs. first_refusal (label_check a.m a.tree.now ∷ cs)) (root_checks_lem a.m a.tree.now a.table.now)) c.in_err-child_refusal.was c.from_residual.result c.from_residual.ensures.1

pub returns-in_err-area_refusal : goal.returns-in_err-area_refusal
returns-in_err-area_refusal c =
    let a = c.args in
    let x = a.tree.now in
    performs_short _ _ _ (passed_ok (label_check a.m x ∷ insert_checks Append root_alone a.m x a.table.now) refl (c.child_refusal.ensures ∙ ap (λ cs. first_refusal (label_check a.m x ∷ cs)) (root_checks_lem a.m x a.table.now)) c.in_ok-child_refusal.was) c.answer_ok-need.ensures c.area_refusal.ensures c.in_err-area_refusal.was c.from_residual-in_err-area_refusal.result c.from_residual-in_err-area_refusal.ensures.1

pub insert_marked-requires : goal.insert_marked-requires
insert_marked-requires c =
    let a = c.args in
    let g = c.requires in
    let t = a.table.now in
    let x = a.tree.now in
    let p = passed_ok (label_check a.m x ∷ insert_checks Append root_alone a.m x t) refl (c.child_refusal.ensures ∙ ap (λ cs. first_refusal (label_check a.m x ∷ cs)) (root_checks_lem a.m x t)) c.in_ok-child_refusal.was in
    let h = (store_held a.state.now t g.0).table in record {
      t_value = (h, table_few t h, g.1);
      t_value_2 = (
        root_deep a.m x t ∙ p.1.0,
        root_fits a.m x t ∙ not-false _ p.1.1.0,
      );
    }

pub bounds-state-0 : goal.bounds-state-0
bounds-state-0 c =
    omega (arith, (store_held _ _ c.requires.0).size)

pub returns : goal.returns
returns c =
    let a = c.args in
    let t = a.table.now in
    let x = a.tree.now in
    performs_done _ _ _ (passed_ok (label_check a.m x ∷ insert_checks Append root_alone a.m x t) refl (c.child_refusal.ensures ∙ ap (λ cs. first_refusal (label_check a.m x ∷ cs)) (root_checks_lem a.m x t)) c.in_ok-child_refusal.was) c.answer_ok-need.ensures c.area_refusal.ensures c.in_ok-area_refusal.was
    (rw c.from.ensures (stage-put a.state.now 3 (omega (arith, (store_held a.state.now t c.requires.0).size))))
    (c.insert_marked.ensures ∙ ap (changed t) (root_placed a.m x t))
