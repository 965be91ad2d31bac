use mathlib.Core.Path.{refl}
use borrow.Author.Rules.{rules}
use Rattle.std.proofs.lemmas.Result.{err_from_is_err_and}
use Rattle.timetable.proofs.ByteLaws.{read_none, read_more, read_ended, read_all, read_shut, run_new}
use Rattle.timetable.proofs.StreamLaws.{bytes_none, bytes_more, bytes_last, bytes_limit, lines_room}
use Rattle.timetable.proofs.read_lines.Goals as goal

pub loop-left-init : goal.loop-left-init
loop-left-init g c =
    let a = c.args in (
      search rules,
      refl,
      refl,
      refl,
      refl,
      refl,
      read_none a.state.now a.table.now a.buffer.now a.out.now c.requires.0 c.requires.1,
      bytes_none _ (run_new a.state.now a.table.now a.buffer.now a.out.now c.requires.0 c.requires.1) _ _,
    )

pub returns-then-t-eq0 : goal.returns-then-t-eq0
returns-then-t-eq0 g c =
    let x = c.loop-left in
    let e = c.in_ok-t.ensures.run in let none = c.if-t-eq0.true in
    record {
      run = read_ended x.invariant.6 _ _ none e.3 _;
      bytes = lines_room x.invariant.5 (bytes_last x.invariant.7 c.in_ok-t.ensures.bytes none c.loop-left-test.true);
    }

pub returns-in_err-t : goal.returns-in_err-t
returns-in_err-t g c =
    let x = c.loop-left in
    rw (err_from_is_err_and c.from_residual.result c.from_residual.ensures.1).1
    (record {
      run = read_shut x.invariant.6 _ _ refl;
      bytes = lines_room x.invariant.5 (bytes_last x.invariant.7 c.in_err-t.ensures.bytes refl c.loop-left-test.true);
    })

pub loop-left-preserved : goal.loop-left-preserved
loop-left-preserved g c =
    let x = c.loop-left in
    let e = c.in_ok-t.ensures.run in let more = c.if-t-eq0.false in (
      e.0,
      search rules,
      search rules,
      search rules,
      search rules,
      search rules,
      read_more x.invariant.6 _ _ e.1 e.2 e.3,
      bytes_more x.invariant.7 c.in_ok-t.ensures.bytes more,
    )

pub returns : goal.returns
returns g c = record {
  run = read_all c.loop-left.invariant.6 c.loop-left-test.false _;
  bytes = bytes_limit c.loop-left.invariant.7 c.loop-left-test.false _ _;
}
