use mathlib.Core.Path.{sym, ◌∙◌, ap}
use Prim.Native.Nat.{ℕ}
use Rattle.rights.specs.How.WordList.{number_in}
use Rattle.rights.specs.How.Trial.{policy_in, mine_in, rules_in}
use Rattle.rights.proofs.GroupLaws.{ruling_added, group_skip}
use Rattle.rights.proofs.groups.Trial.with_ruling.Goals as goal

pub returns-then-counts : goal.returns-then-counts
returns-then-counts c =
    let a = c.args in
    let t = a.self.now in
    let r = c.with_rule.ensures in (
      (λ i size z g. ruling_added (number_in t.words.now) (policy_in t) t.own.now t.roles.now a.right c.requires.1 i size a.k z (sym c.counts.ensures ∙ c.if-counts.true) _ _ _ _ _ _ _ _ _ _ _ _ _ _ _ _ g r.0 r.1 r.2 r.3 r.4),
      r.5,
    )

pub returns : goal.returns
returns c =
    let a = c.args in
    let t = a.self.now in
    let q = rules_in t a.right in (
      (λ i size z g. group_skip (number_in t.words.now) (mine_in t) q a.right i size _ _ _ _ _ _ _ _ g (ap (λ (m : ℕ). (q m).on) z ∙ sym c.counts.ensures ∙ c.if-counts.false)),
      c.requires.3,
    )
