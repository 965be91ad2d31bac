use Prim.Native.Nat.{ℕ}
use mathlib.Core.List.{List}
use mathlib.Core.Path.{sym, ap, ◌∙◌, subst}
use native.Mathlib.Omega.{arith}
use lib.ListN.{get_or, length-set}
use Rattle.rights.specs.Table.{count}
use Rattle.rights.specs.How.Vocabulary.{PolicyWords}
use Rattle.rights.proofs.TableLaws.{table_long, table_room, table_records}
use Rattle.rights.proofs.ChainLaws.{record_text}
use Rattle.rights.proofs.EachLaws.{done_more, drop_more}
use Rattle.rights.proofs.policy.unmark_words.Invariants.{unmarked}
use Rattle.rights.proofs.policy.unmark_words.Goals as goal

pub count_of-i-end-requires : goal.count_of-i-end-requires
count_of-i-end-requires c = table_long _ c.requires.1

pub unless_word-requires : goal.unless_word-requires
unless_word-requires c =
    let t = c.args.table.now in
    let w = c.sort_policy_words-words in (
      subst (λ (p : List ℕ). PolicyWords p w.result.places w.result.count) (sym w.ensures.0) w.ensures.1,
      record_text t (count t) c.loop-i.i (table_records t c.requires.1) (omega arith) (table_room t c.requires.1),
    )

pub loop-i-preserved : goal.loop-i-preserved
loop-i-preserved c =
    let a = c.args in
    let l = c.loop-i in (
      simp length-set l.invariant.0,
      drop_more a.marks.now l.marks l.i l.invariant.1 _,
      done_more a.marks.now l.marks l.i l.invariant.1 (unmarked a.policy.now a.table.now) _ (omega arith) l.invariant.2
          (c.unless_word.ensures ∙ ap (λ (p : List ℕ). unmarked p a.table.now l.i (get_or l.marks l.i 0)) c.sort_policy_words-words.ensures.0),
    )
