-- The store is checked, then the document; what is left to check and to do is `take_document`'s.
use mathlib.Core.Path.{sym, ◌∙◌}
use Rattle.xml.proofs.WindowLaws.{told_document, told_no_document}
use Rattle.store.proofs.LoadCallLaws.{store_refused, store_passed, document_refused}
use Rattle.store.proofs.load.load_xml.Goals as goal

pub returns-in_err-store_refusal : goal.returns-in_err-store_refusal
returns-in_err-store_refusal c = store_refused _ _ _ c.store_refusal.ensures c.in_err-store_refusal.was c.from_residual.result c.from_residual.ensures.1

pub returns-in_default : goal.returns-in_default
returns-in_default c =
    let p = store_passed _ _ c.store_refusal.ensures c.in_ok-store_refusal.was in
    document_refused _ _ _ p.0 p.1 (told_no_document _ (sym c.in_default.is ∙ c.check_document.ensures))

pub take_document-requires : goal.take_document-requires
take_document-requires c =
    let p = store_passed _ _ c.store_refusal.ensures c.in_ok-store_refusal.was in
    let d = told_document _ _ (sym c.in-Some.is ∙ c.check_document.ensures) in
    (p.0, p.1, d.document, d.tally)
