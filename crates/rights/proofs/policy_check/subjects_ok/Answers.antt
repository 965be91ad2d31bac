use Rattle.std.proofs.Common.{ℕ, ◌≡◌, ◌+◌, ◌-◌, ◌*◌, sym, ◌∙◌, arith}
use Rattle.rights.specs.PolicyBytes.{subject_count}
use Rattle.rights.specs.PolicyCheck.{subject_ok, subjects_ok}
use Rattle.rights.proofs.EveryLaws.{every-none, every_more, part_many, part_stop, part_rest}
use Rattle.rights.proofs.WordLaws.{no_word, no_new, subject_is, earlier}
use Rattle.rights.proofs.policy_check.subjects_ok.Goals.{then-not-text_ok-via-then-not-text_ok, then-not-text_ok-via-else-not-text_ok+then-not-name_new}
use Rattle.rights.proofs.policy_check.subjects_ok.Goals as goal

pub returns-then-n-gt-SUBJECTS_MAX : goal.returns-then-n-gt-SUBJECTS_MAX
unfolding subjects_ok
returns-then-n-gt-SUBJECTS_MAX c =
    let p = c.args.policy.now in
    sym (part_many (subject_ok p) (subject_count p) 64 _ (omega arith))

pub loop-k-init : goal.loop-k-init
loop-k-init c = every-none (subject_ok c.args.policy.now)

pub name_new-requires : goal.name_new-requires
name_new-requires c =
    let l = c.loop-k in
    earlier c.args.policy.now l.k c.requires (omega arith) l.invariant (sym c.text_ok.ensures ∙ c.if-not-text_ok.false)

pub returns-then-not-text_ok : goal.returns-then-not-text_ok
unfolding subjects_ok
returns-then-not-text_ok c =
    let p = c.args.policy.now in
    let k : ℕ = c.loop-k.k in
    elim c.then-not-text_ok.branch [
      | then-not-text_ok-via-then-not-text_ok w ↦
          sym (part_stop (subject_ok p) (subject_count p) 64 _ k (omega arith) (no_word _ _ (sym c.text_ok.ensures ∙ w.if-not-text_ok.true)))
      | then-not-text_ok-via-else-not-text_ok+then-not-name_new w ↦
          sym (part_stop (subject_ok p) (subject_count p) 64 _ k (omega arith) (no_new _ _ (sym w.name_new.ensures ∙ w.if-not-name_new.true)))
    ]

pub loop-k-preserved : goal.loop-k-preserved
loop-k-preserved c =
    let l = c.loop-k in
    let word = sym c.text_ok.ensures ∙ c.if-not-text_ok.false in
    let new = sym c.name_new.ensures ∙ c.if-not-name_new.false in
    every_more (subject_ok c.args.policy.now) l.k l.invariant (subject_is _ _ word new)

pub returns : goal.returns
unfolding subjects_ok
returns c =
    let p = c.args.policy.now in
    let n : ℕ = subject_count p in
    let e : 2056 - (8 + n * 32) ≡ (64 - n) * 32 = omega arith in
    rw (c.from-n.ensures, e) at c.all_zero.ensures
    ∙ sym (part_rest (subject_ok p) n 64 _ c.loop-k.k (omega arith) (omega arith) c.loop-k.invariant)
