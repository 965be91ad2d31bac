use native.Mathlib.Omega.{arith}
use mathlib.Core.Path.{sym, ◌∙◌}
use Rattle.rights.specs.PolicyBytes.{step_of}
use Rattle.rights.specs.Rights.{step_for}
use Rattle.rights.specs.Table.{rec_at}
use Rattle.rights.specs.How.WordList.{number_in}
use Rattle.rights.specs.How.Trial.{mine_in}
use Rattle.rights.proofs.BitLaws.{one_shl}
use Rattle.rights.proofs.TextLaws.{text_first}
use Rattle.rights.proofs.PackedLaws.{packed_every, packed_mine, packed_noted, step_deep, step-every, step-own, step_label}
use Rattle.rights.proofs.groups.Trial.with_step.Goals as goal

pub returns-then-first-eq42 : goal.returns-then-first-eq42
returns-then-first-eq42 c =
    let a = c.args in
    let t = a.self.now in
    let p = t.words.now.policy.now in
    let d = c.is_deep.result in (
      (λ ss e k. rw (c.mark_if-deep.ensures, one_shl 64 a.j (omega (arith, c.requires.2)))
          (packed_every (number_in t.words.now) (mine_in t) ss a.m.deep a.m.every a.m.own a.rows.now k (step_for (mine_in t) (step_of (rec_at p a.step))) a.j e
          d (step_deep (mine_in t) p a.step d c.is_deep.ensures) (step-every (mine_in t) p a.step (text_first p a.step c.requires.0 ∙ c.if-first-eq42.true)))),
      c.requires.3,
    )

pub returns-then-first-eq36 : goal.returns-then-first-eq36
returns-then-first-eq36 c =
    let a = c.args in
    let t = a.self.now in
    let p = t.words.now.policy.now in
    let d = c.is_deep.result in
    let first = text_first p a.step c.requires.0 in (
      (λ ss e k. rw (c.mark_if-deep.ensures, one_shl 64 a.j (omega (arith, c.requires.2)))
          (packed_mine (number_in t.words.now) (mine_in t) ss a.m.deep a.m.every a.m.own a.rows.now k (step_for (mine_in t) (step_of (rec_at p a.step))) a.j e
          d (step_deep (mine_in t) p a.step d c.is_deep.ensures) (step-own (mine_in t) p a.step (λ q. c.if-first-eq42.false (sym first ∙ q)) (first ∙ c.if-first-eq36.true)))),
      c.requires.3,
    )

pub note_label-requires : goal.note_label-requires
note_label-requires c =
    let a = c.args in
    let g = c.requires in
    let first = text_first a.self.now.words.now.policy.now a.step g.0 in
    (g.0, g.1 (λ q. c.if-first-eq42.false (sym first ∙ q)) (λ q. c.if-first-eq36.false (sym first ∙ q)), g.3)

pub returns : goal.returns
returns c =
    let a = c.args in
    let t = a.self.now in
    let p = t.words.now.policy.now in
    let d = c.is_deep.result in
    let noted = rw (one_shl 64 a.j (omega (arith, c.requires.2))) at c.note_label.ensures in
    let first = text_first p a.step c.requires.0 in (
      (λ ss e k. rw c.mark_if-deep.ensures
          (packed_noted (number_in t.words.now) (mine_in t) ss a.m.deep a.m.every a.m.own a.rows.now k (step_for (mine_in t) (step_of (rec_at p a.step))) a.j e
          d (step_deep (mine_in t) p a.step d c.is_deep.ensures) _ _ noted
          (step_label (mine_in t) p a.step (λ q. c.if-first-eq42.false (sym first ∙ q)) (λ q. c.if-first-eq36.false (sym first ∙ q))))),
      noted.long ∙ c.requires.3,
    )
