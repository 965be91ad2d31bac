use mathlib.Core.List.{List}
use mathlib.Core.Path.{◌∙◌}
use Prim.Native.Nat.{ℕ}
use Rattle.rights.specs.How.Roles.{name_among}
use Rattle.rights.specs.How.Vocabulary.{named}
use Rattle.rights.proofs.VocabularyLaws.{words_second, listed_second}
use Rattle.rights.proofs.vocabulary.WordList.for_rights.Goals as goal

pub returns : goal.returns
returns c =
    let p = c.args.policy.now in
    let own = c.add_own.ensures in
    let new = c.new-words.ensures in
    let f = λ (q : List ℕ). name_among q c.args.own.now in
    let w = c.add_rules.new.self in (
      c.add_rules.ensures.policy ∙ own.policy ∙ new.0,
      record {
        words = words_second c.new-words.result c.add_own.new.self 64 p f new.0 new.1 own w 2048 named c.add_rules.ensures;
        holds = listed_second c.new-words.result c.add_own.new.self 64 p f new.0 new.1 own w 2048 named c.add_rules.ensures;
      },
    )
