use Prim.Native.Nat.{ℕ, ◌+◌, ◌<◌}
use mathlib.Core.Path.{◌≡◌, refl, ap, ◌∙◌}
use mathlib.Core.Bool.{Bool, true, false, cond}
use native.Mathlib.Omega.{arith}
use Rattle.std.specs.Int.{from_bool}
use Rattle.rights.specs.Marks.{bit}
use Rattle.rights.specs.Policy.{insert}
use Rattle.rights.specs.Table.{count}
use Rattle.rights.proofs.FiveRights.{bit_right}
use Rattle.views.proofs.StoredLaws.{record_text}
use Rattle.views.proofs.TableLaws.{facts}
use Rattle.views.proofs.DonePassLaws.{marking_start, marking_more, marking_gives}
use Rattle.views.proofs.done.mark_by_rights.Goals as goal

as_bit : (b : Bool) → from_bool b ≡ bit b
as_bit true = refl
as_bit false = refl

one_further : (j : ℕ) (on : Bool) → j + from_bool on ≡ cond on (j + 1) j
one_further j true = refl
one_further j false = omega arith

pub count_of-i-end-requires : goal.count_of-i-end-requires
count_of-i-end-requires c = (facts _ c.requires.0).head

pub loop-i-init : goal.loop-i-init
loop-i-init c =
    let a = c.args in
    marking_start a.change (λ _. false) a.table.now a.rights.now a.shown.now a.marks.now a.done.now c.count_of-i-end.result

pub bounds-table-i : goal.bounds-table-i
bounds-table-i c =
    omega (arith, c.loop-i-test.true, c.count_of-i-end.ensures, (facts c.args.table.now c.requires.0).size)

pub bounds-chosen-l : goal.bounds-chosen-l
bounds-chosen-l c =
    omega (arith, (record_text c.args.table.now c.requires.0 c.loop-i.i (omega (arith, c.loop-i-test.true, c.count_of-i-end.ensures))).1, c.from-l.ensures)

pub bounds-granting-l : goal.bounds-granting-l
bounds-granting-l c =
    omega (arith, (record_text c.args.table.now c.requires.0 c.loop-i.i (omega (arith, c.loop-i-test.true, c.count_of-i-end.ensures))).1, c.from-l.ensures)

pub pass_down-requires : goal.pass_down-requires
pass_down-requires c =
    (omega (arith, (record_text c.args.table.now c.requires.0 c.loop-i.i (omega (arith, c.loop-i-test.true, c.count_of-i-end.ensures))).1, c.from-l.ensures), c.loop-i.invariant.chosen)

pub holds_right-requires : goal.holds_right-requires
holds_right-requires c = bit_right insert

pub pass_down-requires-in-loop-i : goal.pass_down-requires-in-loop-i
pass_down-requires-in-loop-i c =
    (omega (arith, (record_text c.args.table.now c.requires.0 c.loop-i.i (omega (arith, c.loop-i-test.true, c.count_of-i-end.ensures))).1, c.from-l.ensures), c.loop-i.invariant.granting)

pub loop-i-preserved : goal.loop-i-preserved
loop-i-preserved c =
    let a = c.args in
    let l = c.loop-i in
    let below : l.i < count a.table.now = omega (arith, c.loop-i-test.true, c.count_of-i-end.ensures) in
    marking_more a.change (λ _. false) a.table.now a.rights.now a.shown.now a.marks.now a.done.now c.count_of-i-end.result
    l.done l.chosen l.granting _ _ l.j l.i c.from-l.result _ _ c.stands_at-on.result c.is_marked-sel.result c.is_done.result
    c.loop-i-test.true (omega (arith, c.count_of-i-end.ensures, c.requires.2)) ((record_text a.table.now c.requires.0 l.i below).1) c.from-l.ensures l.invariant
    c.stands_at-on.ensures c.is_marked-sel.ensures c.is_done.ensures (c.from.ensures ∙ as_bit c.is_done.result)
    c.pass_down.ensures (rw (c.holds_right.ensures insert refl) at c.pass_down-in-loop-i.ensures) (ap (λ (k : ℕ). l.j + k) c.from-j.ensures ∙ one_further l.j c.stands_at-on.result)

pub returns : goal.returns
returns c =
    let a = c.args in
    let l = c.loop-i in
    marking_gives a.change (λ _. false) a.table.now a.rights.now a.shown.now a.marks.now a.done.now c.count_of-i-end.result l.done l.chosen l.granting l.j l.i c.count_of-i-end.ensures (omega arith) l.invariant
