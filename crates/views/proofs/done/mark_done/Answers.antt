use mathlib.Core.Bool.{Bool}
use mathlib.Core.List.{List, ◌++◌, map}
use mathlib.Core.Path.{◌∙◌, sym, ap}
use native.Mathlib.Omega.{arith}
use lib.ListN.{drop}
use Rattle.rights.specs.Marks.{bit, marks_of}
use Rattle.rights.specs.Policy.{policy_word}
use Rattle.rights.specs.PolicyBytes.{policy_of}
use Rattle.rights.specs.Table.{count}
use Rattle.views.specs.How.Numbers.{shown_by_numbers, by_numbers}
use Rattle.views.proofs.DonePassLaws.{labels_unasked, words_unmarked}
use Rattle.views.proofs.done.mark_done.Goals as goal

pub returns-then-asks_word : goal.returns-then-asks_word
returns-then-asks_word c =
    let a = c.args in
    let n = count a.table.now in
    words_unmarked (policy_word (policy_of a.policy.now)) a.table.now a.rights.now (shown_by_numbers a.shown.now n 0) (by_numbers a.shown.now (marks_of a.marks.now) n 0)
    a.change (sym c.asks_word.ensures ∙ c.if-asks_word.true) a.done.now _ _ (omega (arith, c.requires.3, c.mark_by_rights.new.done))
    c.mark_by_rights.ensures c.unmark_words.ensures

pub returns-else-asks_word : goal.returns-else-asks_word
returns-else-asks_word c =
    let a = c.args in
    let n = count a.table.now in
    c.mark_by_rights.ensures
    ∙ ap (λ (bs : List Bool). map bit bs ++ drop n a.done.now)
    (labels_unasked (policy_word (policy_of a.policy.now)) a.table.now a.rights.now (shown_by_numbers a.shown.now n 0) (by_numbers a.shown.now (marks_of a.marks.now) n 0)
    a.change (sym c.asks_word.ensures ∙ c.if-asks_word.false))
