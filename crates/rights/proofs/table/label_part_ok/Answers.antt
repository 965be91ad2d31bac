use Prim.Native.Nat.{ℕ, ◌≤◌, ◌<◌}
use mathlib.Core.Bool.{Bool, not, ◌&&◌}
use mathlib.Core.Path.{◌≡◌, refl, sym, ◌∙◌}
use mathlib.Core.List.{List}
use native.Mathlib.Omega.{arith}
use borrow.Author.Tests.{leb-true, ltb-true}
use Rattle.std.proofs.lemmas.Grind.{common_steps}
use lib.ListN.{get_or, take, drop}
use lib.Seq.{take-take}
use Rattle.rights.specs.Bytes.{all, is_zero}
use Rattle.rights.specs.Labels.{label_byte, same_label, restricted}
use Rattle.rights.specs.Table.{label_part_ok}
use Rattle.rights.proofs.RecordsOkLaws.{label_part_yes}
use Rattle.rights.proofs.table.label_part_ok.Goals.{then-n-gt0, else-n-gt0}
use Rattle.rights.proofs.table.label_part_ok.Goals as goal

-- the label's part by the 24 bytes for the label
by_field : (r : List ℕ) (n : ℕ) (v : Bool) → n ≡ get_or r 1 0 → 1 ≤ n → n ≤ 24
    → v ≡ (all label_byte (take n (take 24 (drop 2 r))) && (not (same_label (take n (take 24 (drop 2 r))) restricted) && all is_zero (drop n (take 24 (drop 2 r)))))
    → v ≡ label_part_ok r
by_field r n v e a b h = h ∙ rw (take-take n 24 (drop 2 r) b, e) (sym (label_part_yes r (omega arith) (omega arith)))

pub returns-then-from-le-LABEL_MAX : goal.returns-then-from-le-LABEL_MAX
returns-then-from-le-LABEL_MAX c =
    let r = c.args.r.now in
    elim c.if-n-gt0.branch [
      | then-n-gt0 w ↦
          let few : get_or r 1 0 ≤ 24 = leb-true _ _ (rw w.from.ensures at (sym w.value-is ∙ c.if-from-le-LABEL_MAX.true)) in
          by_field r (get_or r 1 0) c.label_ok.result refl (omega arith) few c.label_ok.ensures
      | else-n-gt0 w ↦ let some : 0 < get_or r 1 0 = ltb-true _ _ (sym w.value-is ∙ c.if-from-le-LABEL_MAX.true) in absurd (omega arith)
    ]

pub returns-else-from-le-LABEL_MAX : goal.returns-else-from-le-LABEL_MAX
unfolding label_part_ok
returns-else-from-le-LABEL_MAX c = grind (arith, common_steps)
