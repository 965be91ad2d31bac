-- A line feed ends the line, and any other byte goes behind it.
use Prim.Native.Nat.{◌≤◌}
use native.Mathlib.Omega.{arith}
use lib.ListN.{length}
use Rattle.std.proofs.lemmas.Result.{MatchResult-weaker}
use Rattle.timetable.specs.How.Run.{run_in}
use Rattle.timetable.proofs.ByteLaws.{feed_taken, feed_shut, feed_hands_some, feed_hands, other_hands, byte_taken_lem, byte_too_many, room_most}
use Rattle.timetable.proofs.StreamLaws.{writes_none, writes_as}
use Rattle.timetable.proofs.take_byte.Goals as goal

pub returns-then-b-eq10 : goal.returns-then-b-eq10
returns-then-b-eq10 g c =
    let a = c.args in
    let w = c.hold_answer-waiting.result in
    let within = (let k = c.requires in let l : a.held ≤ length a.out.now = omega arith in l) in
    let p = c.hold_answer-waiting.ensures in
    let feed = c.if-b-eq10.true in
    let s = a.state.now in let t = a.table.now in
    record {
      run =
          MatchResult-weaker c.make_room.result c.make_room.ensures.room
          (λ r m. (omega (arith, m.0), room_most w r.held m.1, feed_taken s t a.buffer.now a.out.now a.used a.held a.b w feed within p r.used r.held m.0 m.1))
          (λ e m. (feed_shut s t a.buffer.now a.out.now a.used a.held a.b w feed within p m, feed_hands_some s t a.buffer.now a.out.now a.used a.held a.b w feed within p m));
      writes = writes_as (feed_hands s t a.buffer.now a.out.now a.used a.held a.b w feed within p) c.make_room.ensures.writes;
    }

pub returns-then-used-lt-LINE_MAX : goal.returns-then-used-lt-LINE_MAX
returns-then-used-lt-LINE_MAX g c =
    let a = c.args in let k = c.requires in let other = c.if-b-eq10.false in
    record {
      run = (
        omega arith,
        k.3,
        byte_taken_lem a.state.now a.table.now a.buffer.now a.out.now a.used a.held a.b other k.0 c.if-used-lt-LINE_MAX.true,
      );
      writes = writes_as (other_hands (run_in a.state.now a.table.now a.buffer.now a.used a.out.now a.held) a.b other) (writes_none _ _);
    }

pub returns : goal.returns
returns g c =
    let a = c.args in let k = c.requires in let other = c.if-b-eq10.false in
    record {
      run = (
        omega arith,
        k.3,
        byte_too_many a.state.now a.table.now a.buffer.now a.out.now a.used a.held a.b other k.0 c.if-used-lt-LINE_MAX.false,
      );
      writes = writes_as (other_hands (run_in a.state.now a.table.now a.buffer.now a.used a.out.now a.held) a.b other) (writes_none _ _);
    }
