use mathlib.Core.List.{◌++◌, append-nil}
use native.Mathlib.Omega.{arith}
use Rattle.rights.specs.PolicyBytes.{steps_at}
use Rattle.rights.specs.How.Automaton.{steps_for}
use Rattle.rights.specs.How.Trial.{policy_in, mine_in}
use Rattle.rights.proofs.PackedLaws.{ready_listed, path_more, path_length}
use Rattle.rights.proofs.groups.Trial.with_rule.Goals as goal

pub loop-j-init : goal.loop-j-init
loop-j-init c = (c.requires.2, λ ss e k. unfold steps_for in rw (append-nil ss) k)

pub with_step-marks-requires : goal.with_step-marks-requires
with_step-marks-requires c =
    let t = c.args.self.now in
    let l = c.loop-j in
    let g = c.requires in
    let h = c.loop-j-test.true in
    let q = ready_listed (policy_in t) t.own.now t.words.now.places t.words.now.count t.ready in
    ((q.sound.paths c.args.k g.0).texts l.j (omega arith), q.known c.args.k l.j g.0 (omega arith), omega arith, l.invariant.0)

pub loop-j-preserved : goal.loop-j-preserved
loop-j-preserved c =
    let a = c.args in
    let l = c.loop-j in
    let r = c.with_step-marks.ensures in
    let p = policy_in a.self.now in
    let mine = mine_in a.self.now in
    let b = steps_at a.k in (
      r.1,
      (λ ss e k. rw (path_more mine p b l.j ss) at
          (r.0 (ss ++ steps_for mine p b l.j 0) (path_length mine p b l.j ss a.g.used e) (l.invariant.1 ss e k))),
    )
