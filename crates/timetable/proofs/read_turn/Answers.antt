use mathlib.Core.Path.{refl, sym}
use mathlib.Core.List.{[]}
use lib.ListN.{take}
use lib.Seq.{length-take-le}
use borrow.Author.Rules.{rules}
use Rattle.std.proofs.lemmas.Result.{err_from_is_err_and}
use Rattle.timetable.specs.How.Run.{run_in, chunk_taken}
use Rattle.timetable.proofs.ByteLaws.{chunk_written}
use Rattle.timetable.proofs.StreamLaws.{no_both, writes_whole, turn_writes, turn_cut, turn_none, keeps_brings}
use Rattle.timetable.proofs.read_turn.Goals as goal

pub returns : goal.returns
returns g c =
    let a = c.args in let e = c.in_ok-p.ensures.run in let b = c.in-Ok.ensures.bound in let brought = c.in-Ok.ensures.bytes in
    let m = run_in a.state.now a.table.now a.buffer.now a.used a.out.now 0 in let got = c.in-Ok.got in let chunk = c.read_chunk.new.chunk in
    record {
      run = (e.0, b.0, b.1, chunk_written m chunk got e.2);
      bytes = record {
        chunk = take got chunk;
        within = rw (length-take-le got chunk b.1) b.0;
        brought = brought.0;
        writes = turn_writes m chunk got e.2 (writes_whole _ _ c.in_ok-p.ensures.writes refl) c.in_ok-write_held.ensures;
        taken = λ o. (chunk_written m chunk got e.2, sym (length-take-le got chunk b.1));
        stops = λ o. no_both refl o;
        ended = λ heard none most room. brought.1 none most (search rules);
      };
    }

pub returns-in_err-write_held : goal.returns-in_err-write_held
returns-in_err-write_held g c =
    let a = c.args in let e = c.in_ok-p.ensures.run in let b = c.in-Ok.ensures.bound in let brought = c.in-Ok.ensures.bytes in
    let m = run_in a.state.now a.table.now a.buffer.now a.used a.out.now 0 in let got = c.in-Ok.got in let chunk = c.read_chunk.new.chunk in
    rw (err_from_is_err_and c.from_residual-in_err-write_held.result c.from_residual-in_err-write_held.ensures.1).1
    (record {
      run = tt;
      bytes = record {
        chunk = take got chunk;
        within = rw (length-take-le got chunk b.1) b.0;
        brought = brought.0;
        writes = turn_writes m chunk got e.2 (writes_whole _ _ c.in_ok-p.ensures.writes refl) c.in_err-write_held.ensures;
        taken = λ o. no_both o refl;
        stops = λ o. (refl, refl, refl);
        ended = λ heard. no_both heard refl;
      };
    })

pub returns-in_err-p : goal.returns-in_err-p
returns-in_err-p g c =
    let a = c.args in let b = c.in-Ok.ensures.bound in let brought = c.in-Ok.ensures.bytes in
    let m = run_in a.state.now a.table.now a.buffer.now a.used a.out.now 0 in let got = c.in-Ok.got in let chunk = c.read_chunk.new.chunk in
    rw (err_from_is_err_and c.from_residual.result c.from_residual.ensures.1).1
    (record {
      run = tt;
      bytes = record {
        chunk = take got chunk;
        within = rw (length-take-le got chunk b.1) b.0;
        brought = brought.0;
        writes = turn_cut m chunk got c.in_err-p.ensures.writes;
        taken = λ o. no_both o refl;
        stops = λ o. (refl, refl, refl);
        ended = λ heard. no_both heard refl;
      };
    })

pub returns-in_default : goal.returns-in_default
unfolding chunk_taken
returns-in_default g c =
    let a = c.args in let m = run_in a.state.now a.table.now a.buffer.now a.used a.out.now 0 in
    record {
      run = (search rules, search rules, search rules, refl);
      bytes = record {
        chunk = [];
        within = search rules;
        brought = keeps_brings _ _ c.in_default.ensures.bytes;
        writes = turn_none m refl _ _;
        taken = λ o. (refl, refl);
        stops = λ o. no_both refl o;
        ended = λ heard. no_both heard refl;
      };
    }
