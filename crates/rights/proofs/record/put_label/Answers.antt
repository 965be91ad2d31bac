use Prim.Native.Nat.{ℕ, ◌+◌}
use mathlib.Core.Path.{◌≡◌, sym, ap, ◌∙◌}
use mathlib.Core.List.{List}
use native.Mathlib.Omega.{arith}
use native.Mathlib.Numerals.{add-one}
use lib.ListN.{length, set, length-set}
use lib.Seq.{paste-zero, paste-suc}
use Rattle.rights.specs.Record.{padded, pasted}
use Rattle.rights.proofs.RecordLaws.{length-padded, paste_all, pasted-behind}
use Rattle.rights.proofs.record.put_label.Goals as goal

pub loop-k-init : goal.loop-k-init
loop-k-init c =
    let a = c.args in
    paste-zero (set a.out.now (a.at + 1) (length a.label.now)) (a.at + 2) (padded a.label.now)

pub loop-k-preserved : goal.loop-k-preserved
loop-k-preserved c =
    let a = c.args in
    let l = c.loop-k in
    let d : List ℕ = set a.out.now (a.at + 1) (length a.label.now) in
    let x : List ℕ = padded a.label.now in
    let len : length x ≡ 24 = length-padded a.label.now c.requires.1 in
    let room : length d ≡ length a.out.now = length-set a.out.now (a.at + 1) (length a.label.now) in
    ap (λ (z : List ℕ). set z (a.at + 2 + l.k) c.padded_byte.result) l.invariant
    ∙ rw (c.padded_byte.ensures, add-one l.k) (paste-suc d (a.at + 2) x l.k 0 (omega arith) (omega arith))

pub returns : goal.returns
returns c =
    let a = c.args in
    let x : List ℕ = padded a.label.now in
    let n : ℕ = length a.label.now in
    let d : List ℕ = set a.out.now (a.at + 1) n in
    let len : length x ≡ 24 = length-padded a.label.now c.requires.1 in
    let z : a.at + 2 ≡ a.at + 1 + 1 = omega arith in
    let k : c.loop-k.k ≡ 24 = omega arith in
    c.loop-k.invariant ∙ paste_all d x (a.at + 2) c.loop-k.k (len ∙ sym k) ∙ ap (λ (i : ℕ). pasted d i x) z ∙ pasted-behind a.out.now (a.at + 1) n x (omega arith)
