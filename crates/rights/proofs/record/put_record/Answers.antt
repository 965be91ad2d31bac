use Prim.Native.Nat.{ℕ, ◌+◌}
use mathlib.Core.Path.{◌≡◌, ap, ◌∙◌}
use mathlib.Core.List.{List}
use native.Mathlib.Omega.{arith}
use native.Mathlib.Numerals.{add-one}
use lib.ListN.{length, get_or, set, length-set}
use lib.Seq.{paste-zero, paste-suc}
use Rattle.rights.proofs.RecordLaws.{record_put}
use Rattle.rights.proofs.record.put_record.Goals as goal

pub loop-k-init : goal.loop-k-init
loop-k-init c =
    let a = c.args in paste-zero c.put_label.new.out (a.at + 26) a.spare.now

pub loop-k-preserved : goal.loop-k-preserved
loop-k-preserved c =
    let a = c.args in
    let l = c.loop-k in
    let q : List ℕ = c.put_label.new.out in
    let room : length q ≡ length a.out.now = c.put_label.auto.out ∙ length-set a.out.now a.at a.level in
    ap (λ (z : List ℕ). set z (a.at + 26 + l.k) (get_or a.spare.now l.k 0)) l.invariant
    ∙ rw (add-one l.k) (paste-suc q (a.at + 26) a.spare.now l.k 0 (omega (arith, c.told-spare)) (omega (arith, room)))

pub returns : goal.returns
returns c =
    let a = c.args in
    let g = c.requires in
    record_put a.out.now _ _ a.at a.level a.label.now a.spare.now c.loop-k.k g.0 g.1 c.told-spare (omega arith) c.put_label.ensures c.loop-k.invariant
