use mathlib.Core.Path.{sym, ◌∙◌}
use Rattle.rights.proofs.SoundLaws.{policy_sound}
use Rattle.rights.proofs.PolicyWords.{word_named, words_with_names, words_alone}
use Rattle.rights.proofs.policy.is_policy_word.Goals as goal

pub rules_use-requires : goal.rules_use-requires
rules_use-requires c = policy_sound _ c.requires

pub rules_use_own-requires : goal.rules_use_own-requires
rules_use_own-requires c = policy_sound _ c.requires

pub is_some_name-requires : goal.is_some_name-requires
is_some_name-requires c = policy_sound _ c.requires

pub returns-then-rules_use : goal.returns-then-rules_use
returns-then-rules_use c =
    let a = c.args in
    c.if-rules_use.true ∙ sym (word_named a.policy.now a.label.now (sym c.rules_use.ensures ∙ c.if-rules_use.true))

pub returns-then-rules_use_own : goal.returns-then-rules_use_own
returns-then-rules_use_own c =
    let a = c.args in
    c.is_some_name.ensures
    ∙ (rw (sym c.rules_use.ensures ∙ c.if-rules_use.false) at (words_with_names a.policy.now a.label.now (sym c.rules_use_own.ensures ∙ c.if-rules_use_own.true)))

pub returns-else-rules_use_own : goal.returns-else-rules_use_own
returns-else-rules_use_own c =
    let a = c.args in
    c.if-rules_use_own.false ∙ sym (sym c.rules_use.ensures ∙ c.if-rules_use.false)
    ∙ words_alone a.policy.now a.label.now (sym c.rules_use_own.ensures ∙ c.if-rules_use_own.false)
