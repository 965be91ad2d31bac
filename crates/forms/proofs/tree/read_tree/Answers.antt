use Prim.Native.Nat.{ℕ, ◌+◌, ◌-◌}
use mathlib.Core.Path.{sym, ◌∙◌}
use mathlib.Core.List.{List}
use native.Mathlib.Omega.{arith}
use lib.ListN.{drop, length-take}
use Rattle.rights.proofs.ListLaws.{rest_of}
use Rattle.rights.proofs.PathLaws.{bad_onward}
use Rattle.forms.proofs.PartLaws.{no_part}
use Rattle.forms.proofs.TreeLaws.{rest-length, opened, tree_unopened, tree_opened, put_tree_none, put_tree_some}
use Rattle.forms.proofs.tree.read_tree.Goals as goal

pub returns-in_err-e : goal.returns-in_err-e
returns-in_err-e c =
    let s : List ℕ = c.args.s.now in
    let at : ℕ = c.args.at in
    let tree : List ℕ = c.args.tree.now in
    let bad = sym c.open_end.ensures.is ∙ c.in_err-e.was in
    let none = put_tree_none s at tree bad in
    rw c.from_residual.ensures (record { end = bad_onward _ _ (tree_unopened s at bad); says = no_part _; out = none.1 })

pub overflow_add-at : goal.overflow_add-at
overflow_add-at c =
    let e : ℕ = c.in_ok-e.e in
    let hi = c.open_end.ensures.on e c.in_ok-e.was in
    omega arith

pub put_node-requires : goal.put_node-requires
put_node-requires c =
    let s : List ℕ = c.args.s.now in
    let at : ℕ = c.args.at in
    let tree : List ℕ = c.args.tree.now in
    let e : ℕ = c.in_ok-e.e in
    let is = sym c.open_end.ensures.is ∙ c.in_ok-e.was in
    let hi = c.open_end.ensures.on e c.in_ok-e.was in
    let o = opened s at e is in
    (omega arith, omega (arith, length-take (e - (at + 1)) (drop (at + 1) s)))

pub slice_bounds-read_tail-count : goal.slice_bounds-read_tail-count
slice_bounds-read_tail-count c =
    let e : ℕ = c.in_ok-e.e in
    let hi = c.open_end.ensures.on e c.in_ok-e.was in
    omega arith

pub read_tail-requires : goal.read_tail-requires
read_tail-requires c =
    let s : List ℕ = c.args.s.now in
    let at : ℕ = c.args.at in
    let tree : List ℕ = c.args.tree.now in
    let e : ℕ = c.in_ok-e.e in
    let is = sym c.open_end.ensures.is ∙ c.in_ok-e.was in
    let hi = c.open_end.ensures.on e c.in_ok-e.was in
    let o = opened s at e is in
    let len = rest-length s e in
    let kept = c.put_node.new.out in
    (omega arith, omega arith, omega arith, omega arith)

pub returns : goal.returns
returns c =
    let s : List ℕ = c.args.s.now in
    let at : ℕ = c.args.at in
    let tree : List ℕ = c.args.tree.now in
    let e : ℕ = c.in_ok-e.e in
    let is = sym c.open_end.ensures.is ∙ c.in_ok-e.was in
    let hi = c.open_end.ensures.on e c.in_ok-e.was in
    let o = opened s at e is in
    let tail = c.read_tail.ensures in
    let put = put_tree_some s at tree c.put_node.new.out _ _ _ e is (omega arith) (omega arith) (omega arith) (omega arith) c.put_node.ensures (rest_of s e) tail.put in
    record { end = tree_opened s at _ _ e is (omega arith) (omega arith) (rest_of s e) tail.end; says = λ p q. tail.says p q ∙ put.0; out = put.1 }
