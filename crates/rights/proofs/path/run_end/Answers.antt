use Rattle.std.proofs.Common.{◌≡◌, sym, ◌∙◌, ℕ, ◌<◌, get_or, arith}
use Rattle.rights.proofs.RunLaws.{run_end_lem, run-yes, run_no}
use Rattle.rights.proofs.path.run_end.Goals as goal

pub returns-then-not-class : goal.returns-then-not-class
returns-then-not-class g c = λ f h.
    let s = c.args.s.now in
    let i : ℕ = c.loop-i.i in
    let b : get_or s i 0 < 256 = omega (arith, c.type_inv.s i) in
    let e : c.class.result ≡ f (get_or s i 0) = h _ _ b c.class.ensures in
    let stop = run_no f s i (omega arith) (sym e ∙ c.if-not-class.true) in
    let more = c.loop-i.invariant f h in
    record { is = omega arith; from = omega arith; to = omega arith }

pub loop-i-preserved : goal.loop-i-preserved
loop-i-preserved g c = λ f h.
    let s = c.args.s.now in
    let i : ℕ = c.loop-i.i in
    let b : get_or s i 0 < 256 = omega (arith, c.type_inv.s i) in
    let e : c.class.result ≡ f (get_or s i 0) = h _ _ b c.class.ensures in
    let step = run-yes f s i (omega arith) (sym e ∙ c.if-not-class.false) in
    let more = c.loop-i.invariant f h in
    omega arith

pub returns : goal.returns
returns g c = λ f h.
    let stop = run_end_lem f c.args.s.now c.loop-i.i (omega arith) in
    let more = c.loop-i.invariant f h in
    record { is = omega arith; from = omega arith; to = omega arith }
