use mathlib.Core.Path.{refl}
use borrow.Author.Rules.{rules}
use Rattle.std.proofs.KnownBytes.{Appends-nil}
use Rattle.std.proofs.lemmas.Result.{err_from_is_err_and}
use Rattle.timetable.specs.How.Run.{run_in, chunk_taken, handed}
use Rattle.timetable.proofs.ByteLaws.{chunk_more, chunk_stops, chunk_whole}
use Rattle.timetable.proofs.StreamLaws.{chunk_writes_more, chunk_writes_cut, chunk_writes_all}
use Rattle.timetable.proofs.take_chunk.Goals as goal

pub loop-b-init : goal.loop-b-init
unfolding chunk_taken handed
loop-b-init g c = (search rules, search rules, refl, refl, refl, refl, refl, Appends-nil _)

pub loop-b-preserved : goal.loop-b-preserved
loop-b-preserved g c =
    let x = c.loop-b in let e = c.in_ok-p.ensures.run in let a = c.args in
    let m = run_in a.state.now a.table.now a.buffer.now a.from a.out.now 0 in (
      e.0,
      e.1,
      search rules,
      search rules,
      search rules,
      search rules,
      chunk_more m a.chunk.now x.b-index x.invariant.6 (search rules) e.2,
      chunk_writes_more m _ a.chunk.now x.b-index x.invariant.6 (search rules) _ _ _ x.invariant.7 c.in_ok-p.ensures.writes refl,
    )

pub returns-in_err-p : goal.returns-in_err-p
returns-in_err-p g c =
    let x = c.loop-b in let e = c.in_err-p.ensures.run in let a = c.args in
    let m = run_in a.state.now a.table.now a.buffer.now a.from a.out.now 0 in
    rw (err_from_is_err_and c.from_residual.result c.from_residual.ensures.1).1
    (record {
      run = chunk_stops m a.chunk.now x.b-index x.invariant.6 e.0 e.1;
      writes = chunk_writes_cut m _ a.chunk.now x.b-index x.invariant.6 (search rules) _ _ _ x.invariant.7 c.in_err-p.ensures.writes refl;
    })

pub returns : goal.returns
returns g c =
    let x = c.loop-b in let a = c.args in
    let m = run_in a.state.now a.table.now a.buffer.now a.from a.out.now 0 in
    record {
      run = (x.invariant.0, x.invariant.1, chunk_whole m a.chunk.now x.b-index x.invariant.6 c.loop-b-test.false);
      writes = chunk_writes_all m a.chunk.now x.b-index _ _ x.invariant.7 c.loop-b-test.false;
    }
