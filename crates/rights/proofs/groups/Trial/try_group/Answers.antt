use Prim.Native.Nat.{ℕ, ◌-◌}
use mathlib.Core.Path.{refl, sym, ◌∙◌}
use native.Mathlib.Numerals.{add-one}
use native.Mathlib.Omega.{arith}
use lib.ListN.{length, get_or, length-set}
use Rattle.rights.specs.How.Groups.{laid, firsts, ruled}
use Rattle.rights.specs.How.Automaton.{chain_of}
use Rattle.rights.specs.How.WordList.{word_in, number_in}
use Rattle.rights.specs.How.Trial.{mine_in, rules_in}
use Rattle.rights.specs.Table.{record_at, label}
use Rattle.rights.proofs.PackedLaws.{row_at}
use Rattle.rights.proofs.VocabularyLaws.{number_low}
use Rattle.rights.proofs.StateLaws.{chain_step, levels-start}
use Rattle.rights.proofs.ChainLaws.{fit, low_level, low_byte}
use Rattle.rights.proofs.EachLaws.{done_more, drop_more}
use Rattle.rights.proofs.GroupLaws.{agree, ruled-none}
use Rattle.rights.proofs.groups.Trial.try_group.Goals as goal

pub returns-then-g-eq0 : goal.returns-then-g-eq0
returns-then-g-eq0 c =
    let a = c.args in
    let t = a.self.now in
    let z = sym c.make_group-g.ensures.used_is ∙ c.if-g-eq0.true in
    record { long = refl; at = λ i h. ruled-none (rules_in t a.right) a.from a.right (chain_of t.table.now i) (a.to - a.from) (get_or a.out.now i 0) z; rest = refl }

pub loop-i-init : goal.loop-i-init
loop-i-init c =
    let a = c.args in
    let q = rules_in a.self.now a.right in
    (refl, refl, (λ j h. absurd (omega arith)), refl, levels-start (laid q a.from (a.to - a.from)) (firsts q a.from (a.to - a.from)) _ a.self.now.table.now c.make_group-g.ensures.start_is)

pub bounds-rows-from : goal.bounds-rows-from
bounds-rows-from c =
    let t = c.args.self.now in
    let w = t.words.now in
    let i = c.loop-i.i in
    omega (arith, t.numbered.at i c.loop-i-test.true, number_low (word_in w) w.count (label (record_at t.table.now i)), w.sorted.few)

pub bounds-st-l : goal.bounds-st-l
bounds-st-l c =
    let t = c.args.self.now in
    omega (arith, low_byte t.table.now (length t.numbers.now) c.loop-i.i t.numbered.records c.loop-i-test.true)

pub bounds-st-l-in-loop-i : goal.bounds-st-l-in-loop-i
bounds-st-l-in-loop-i c =
    let t = c.args.self.now in
    omega (arith, low_byte t.table.now (length t.numbers.now) c.loop-i.i t.numbered.records c.loop-i-test.true)

pub loop-i-preserved : goal.loop-i-preserved
loop-i-preserved c =
    let a = c.args in
    let tr = a.self.now in
    let n = length tr.numbers.now in
    let l = c.loop-i in
    let h = c.loop-i-test.true in
    let made = c.make_group-g.ensures in
    let t = tr.table.now in
    let q = rules_in tr a.right in
    let ss = laid q a.from (a.to - a.from) in
    let s = firsts q a.from (a.to - a.from) in
    let m = c.next_states-m.result in
    let x = label (record_at t l.i) in
    let w = chain_step ss s t l.i c.from-l.result m l.st c.from-l.ensures (fit t n l.i tr.numbered.records h) (low_level t n l.i tr.numbered.records h) l.invariant.3 l.invariant.4
    (λ b e. c.next_states-m.ensures (number_in tr.words.now) (mine_in tr) ss b _ x made.packed c.requires.3 (row_at made.packed c.from.result x (c.from.ensures ∙ tr.numbered.at l.i h)) e) in
    let v = c.settle.ensures.0 ∙ sym (made.says m (get_or l.out l.i 0) (chain_of t l.i) c.settle.ensures.1 (agree q a.from (a.to - a.from) m (chain_of t l.i) w.0)) in (
      simp length-set l.invariant.0,
      drop_more a.out.now l.out l.i l.invariant.1 _,
      done_more a.out.now l.out l.i l.invariant.1 (λ (j x : ℕ). ruled q a.right (chain_of t j) a.from (a.to - a.from) x) _ (omega arith) l.invariant.2 v,
      simp length-set l.invariant.3,
      rw add-one w.1,
    )
