use mathlib.Core.Path.{sym, ◌∙◌}
use Rattle.trials.proofs.TrialLaws.{word_told}
use Rattle.trials.proofs.trial_word.Goals as goal

pub is_policy_word-requires : goal.is_policy_word-requires
is_policy_word-requires c = sym c.policy_ok.ensures ∙ c.if-not-policy_ok.false

pub returns : goal.returns
returns c = word_told _ _ (sym c.policy_ok.ensures ∙ c.if-not-policy_ok.false) _ c.is_policy_word.ensures
