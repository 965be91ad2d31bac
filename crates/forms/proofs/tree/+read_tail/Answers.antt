-- It calls itself on the tail: the bytes left of the line fall.
use Prim.Native.Nat.{ℕ, ◌-◌, ◌*◌}
use mathlib.Core.Path.{sym, ap, ◌∙◌}
use mathlib.Core.List.{List}
use native.Mathlib.Omega.{arith}
use lib.ListN.{take, drop, length-take}
use borrow.Author.Tests.{eqb-true, eqb-false}
use Rattle.rights.specs.Record.{node_record, pasted}
use Rattle.rights.proofs.ListLaws.{rest_of}
use Rattle.std.specs.Prelude.{Some, ◌+◌}
use Rattle.forms.proofs.PartLaws.{part_says, no_part}
use Rattle.forms.proofs.TreeLaws.{opened, end_bad, end_none, end_other, end_unopened, end_last, end_close, end_open, nodes_none, nodes_last, nodes_other, nodes_unopened, put-none, put_close, put_open}
use Rattle.forms.proofs.tree.+read_tail.Goals as goal

pub put_node-requires : goal.put_node-requires
put_node-requires t c =
    let s : List ℕ = c.args.s.now in
    let e : ℕ = c.in_ok-e.e in
    let hi = c.open_end.ensures.on e c.in_ok-e.was in
    let is = sym c.open_end.ensures.is ∙ c.in_ok-e.was in
    let o = opened s 1 e is in
    (omega arith, omega (arith, length-take (e - 2) (drop 2 s)))

pub returns-then-is_empty : goal.returns-then-is_empty
returns-then-is_empty t c =
    let s : List ℕ = c.args.s.now in
    let at : ℕ = c.args.at in
    let depth : ℕ = c.args.depth in
    let n : ℕ = c.args.n in
    let tree : List ℕ = c.args.tree.now in
    let z = eqb-true _ 0 (sym c.is_empty.ensures ∙ c.if-is_empty.true) in
    record { end = end_bad s at depth (end_none s at depth z); nodes = n; put = put-none s depth n tree (nodes_none s depth z); says = no_part n }

pub returns-then-depth-eq1 : goal.returns-then-depth-eq1
returns-then-depth-eq1 t c =
    let s : List ℕ = c.args.s.now in
    let at : ℕ = c.args.at in
    let depth : ℕ = c.args.depth in
    let n : ℕ = c.args.n in
    let tree : List ℕ = c.args.tree.now in
    let some = eqb-false _ 0 (sym c.is_empty.ensures ∙ c.if-is_empty.false) in
    record { end = end_last s at depth (omega (arith, some)) c.if-b-eq41.true c.if-depth-eq1.true; nodes = n; put = put-none s depth n tree (nodes_last s depth c.if-b-eq41.true c.if-depth-eq1.true); says = part_says (Some (at + 1)) n }

pub returns-then-b-eq41 : goal.returns-then-b-eq41
returns-then-b-eq41 t c =
    let s : List ℕ = c.args.s.now in
    let at : ℕ = c.args.at in
    let depth : ℕ = c.args.depth in
    let n : ℕ = c.args.n in
    let tree : List ℕ = c.args.tree.now in
    let some = eqb-false _ 0 (sym c.is_empty.ensures ∙ c.if-is_empty.false) in
    record {
      end = end_close s at depth _ _ (omega (arith, some)) c.if-b-eq41.true c.if-depth-eq1.false (rest_of s 1) c.read_tail.ensures.end;
      nodes = c.read_tail.ensures.nodes;
      says = c.read_tail.ensures.says;
      put = put_close s depth n _ _ _ _ (omega (arith, some)) c.if-b-eq41.true c.if-depth-eq1.false (rest_of s 1) c.read_tail.ensures.put;
    }

pub returns-then-b-ne32 : goal.returns-then-b-ne32
returns-then-b-ne32 t c =
    let s : List ℕ = c.args.s.now in
    let at : ℕ = c.args.at in
    let depth : ℕ = c.args.depth in
    let n : ℕ = c.args.n in
    let tree : List ℕ = c.args.tree.now in
    record { end = end_bad s at depth (end_other s at depth c.if-b-eq41.false c.if-b-ne32.true); nodes = n; put = put-none s depth n tree (nodes_other s depth c.if-b-eq41.false c.if-b-ne32.true); says = no_part n }

pub returns-in_err-e : goal.returns-in_err-e
returns-in_err-e t c =
    let s : List ℕ = c.args.s.now in
    let at : ℕ = c.args.at in
    let depth : ℕ = c.args.depth in
    let n : ℕ = c.args.n in
    let tree : List ℕ = c.args.tree.now in
    let bad = sym c.open_end.ensures.is ∙ c.in_err-e.was in
    rw c.from_residual.ensures (record { end = end_bad s at depth (end_unopened s at depth c.if-b-ne32.false bad); nodes = n; put = put-none s depth n tree (nodes_unopened s depth c.if-b-ne32.false bad); says = no_part n })

pub returns : goal.returns
returns t c =
    let s : List ℕ = c.args.s.now in
    let at : ℕ = c.args.at in
    let depth : ℕ = c.args.depth in
    let n : ℕ = c.args.n in
    let tree : List ℕ = c.args.tree.now in
    let e : ℕ = c.in_ok-e.e in
    let hi = c.open_end.ensures.on e c.in_ok-e.was in
    let is = sym c.open_end.ensures.is ∙ c.in_ok-e.was in
    let o = opened s 1 e is in
    record {
      end = end_open s at depth _ _ e c.if-b-ne32.false is (omega arith) (omega arith) (rest_of s e) c.read_tail-2.ensures.end;
      nodes = c.read_tail-2.ensures.nodes;
      says = c.read_tail-2.ensures.says;
      put = put_open s depth n tree c.put_node.new.out _ _ _ e c.if-b-ne32.false is (omega arith) (omega arith) (omega arith) (omega arith)
          (c.put_node.ensures ∙ ap (λ (l : ℕ). pasted tree (32 * n) (node_record l (take (e - 2) (drop 2 s)))) c.level_byte.ensures) (rest_of s e) c.read_tail-2.ensures.put;
    }
