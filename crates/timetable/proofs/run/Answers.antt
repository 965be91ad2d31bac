use mathlib.Core.Path.{◌≡◌, refl, sym}
use native.Mathlib.Omega.{arith}
use Rattle.timetable.proofs.ByteLaws.{put_alone, line_new}
use Rattle.timetable.proofs.StreamLaws.{last_put, writes_at, last_written, none_written, answers_read, answers_whole}
use Rattle.timetable.proofs.run.Goals as goal

pub returns-then-used-gt0 : goal.returns-then-used-gt0
returns-then-used-gt0 g c =
    let n = c.read_lines.new in let used = c.in-Ok.last.used in
    let r = c.in-Ok.ensures.bytes in
    let some = c.if-used-gt0.true in
    let w = last_written r some (last_put n.state n.table n.buffer n.out used _ some c.hold_answer-held.ensures) (writes_at (sym c.is_ok-wrote.ensures.value) c.write_held.ensures) in
    record {
      run = record {
        used = used;
        last = _;
        reads = c.in-Ok.ensures.run;
        answer = λ h. put_alone _ _ _ c.hold_answer-held.ensures;
      };
      answers = answers_read r w;
      whole = answers_whole r w;
    }

pub returns : goal.returns
returns g c =
    let n = c.read_lines.new in let used = c.in-Ok.last.used in
    let r = c.in-Ok.ensures.bytes in
    let z : used ≡ 0 = omega (arith, c.if-used-gt0.false) in
    let w = none_written r (line_new n.buffer used z) in
    record {
      run = record {
        used = used;
        last = _;
        reads = c.in-Ok.ensures.run;
        answer = λ h. absurd (omega (arith, h, z));
      };
      answers = answers_read r w;
      whole = answers_whole r w;
    }

pub returns-in_default : goal.returns-in_default
returns-in_default g c =
    let r = c.in_default.ensures.bytes in
    let w = none_written r (line_new c.read_lines.new.buffer 0 refl) in
    record {
      run = record {
        used = 0;
        last = _;
        reads = c.in_default.ensures.run;
        answer = λ h. absurd (omega (arith, h));
      };
      answers = answers_read r w;
      whole = answers_whole r w;
    }
