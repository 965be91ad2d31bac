-- The labels that the rules name, and the names of the subjects if some rule uses `$`.
use Prim.Native.Nat.{ℕ}
use mathlib.Core.List.{List}
use mathlib.Core.Path.{sym, ◌∙◌, subst}
use native.Mathlib.Omega.{arith}
use Rattle.rights.specs.Labels.{same_label}
use Rattle.rights.specs.Policy.{some}
use Rattle.rights.specs.PolicyBytes.{subject_count, names_from}
use Rattle.rights.specs.How.Automaton.{Sound}
use Rattle.rights.specs.How.Vocabulary.{named}
use Rattle.rights.proofs.SoundLaws.{policy_sound}
use Rattle.rights.proofs.PolicyWords.{words_with_names, words_alone}
use Rattle.rights.proofs.VocabularyLaws.{words_first, listed_first, words_second, listed_second}
use Rattle.rights.proofs.policy.sort_policy_words.Goals as goal

pub add_rules-requires : goal.add_rules-requires
add_rules-requires c = let e = c.new-words.ensures in (subst Sound (sym e.0) (policy_sound _ c.requires), omega (arith, e.1))

pub rules_use_own-requires : goal.rules_use_own-requires
rules_use_own-requires c = policy_sound _ c.requires

pub add_names-requires : goal.add_names-requires
add_names-requires c =
    let e = c.new-words.ensures in
    let r = c.add_rules.ensures in
    (subst Sound (sym (r.policy ∙ e.0)) (policy_sound _ c.requires), omega (arith, e.1, r.few))

pub returns-then-rules_use_own : goal.returns-then-rules_use_own
returns-then-rules_use_own c =
    let p = c.args.policy.now in
    let new = c.new-words.ensures in
    let rules = c.add_rules.ensures in
    let names = c.add_names.ensures in
    let w = c.add_names.new.words in
    let g = λ (q x : List ℕ). some (same_label x) (names_from q (subject_count q) 0) in (
      names.policy ∙ rules.policy ∙ new.0,
      record {
        words = words_second c.new-words.result c.add_rules.new.self 2048 p named new.0 new.1 rules w 64 g names;
        holds = λ x. listed_second c.new-words.result c.add_rules.new.self 2048 p named new.0 new.1 rules w 64 g names x
            ∙ words_with_names p x (sym c.rules_use_own.ensures ∙ c.if-rules_use_own.true);
      },
    )

pub returns-else-rules_use_own : goal.returns-else-rules_use_own
returns-else-rules_use_own c =
    let p = c.args.policy.now in
    let new = c.new-words.ensures in
    let rules = c.add_rules.ensures in (
      rules.policy ∙ new.0,
      record {
        words = words_first c.new-words.result c.add_rules.new.self 2048 p named new.0 new.1 rules;
        holds = λ x. listed_first c.new-words.result c.add_rules.new.self 2048 p named new.0 new.1 rules x
            ∙ words_alone p x (sym c.rules_use_own.ensures ∙ c.if-rules_use_own.false);
      },
    )
