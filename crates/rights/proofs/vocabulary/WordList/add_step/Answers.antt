use mathlib.Core.Bool.{false}
use mathlib.Core.Path.{refl, sym, ◌∙◌}
use native.Mathlib.Omega.{arith}
use Rattle.rights.specs.Table.{rec_at}
use Rattle.rights.proofs.TextLaws.{text_first}
use Rattle.rights.proofs.PolicyWords.{uses_any, uses-own, uses-label}
use Rattle.rights.proofs.VocabularyLaws.{adds_none, adds_alike}
use Rattle.rights.proofs.vocabulary.WordList.add_step.Goals.{else-first-ne42-via-then-first-ne42+else-first-ne36, else-first-ne42-via-else-first-ne42}
use Rattle.rights.proofs.vocabulary.WordList.add_step.Goals as goal

pub returns-then-first-ne36 : goal.returns-then-first-ne36
returns-then-first-ne36 c =
    let at = c.args.at in
    let p = c.args.self.now.policy.now in
    let first = text_first p at c.requires.1 in
    adds_alike c.args.self.now c.add.new.self 1 1 _ _
    (λ x. sym (uses-label x (rec_at p at) false (λ e. c.if-first-ne42.true (sym first ∙ e)) (λ e. c.if-first-ne36.true (sym first ∙ e)) refl)) (omega arith) c.add.ensures

pub returns-else-first-ne42 : goal.returns-else-first-ne42
returns-else-first-ne42 c =
    let at = c.args.at in
    let p = c.args.self.now.policy.now in
    let first = text_first p at c.requires.1 in
    adds_none c.args.self.now 1 _
    (λ x. elim c.else-first-ne42.branch [
      | else-first-ne42-via-then-first-ne42+else-first-ne36 w ↦ uses-own x (rec_at p at) false (λ e. w.if-first-ne42.true (sym first ∙ e)) (first ∙ w.if-first-ne36.false)
      | else-first-ne42-via-else-first-ne42 w ↦ uses_any x (rec_at p at) false (first ∙ w.if-first-ne42.false)
    ])
