use Rattle.std.proofs.Common.{rules}
use Rattle.std.specs.Prelude.{◌↔◌, IsTrue, ℕ, ◌<◌, ◌≡◌, Bool, true, false, List, length, get_or}
use Rattle.std.proofs.iter.runs.Made.{chains}
use mathlib.Core.Path.{refl, sym}
use native.Mathlib.Omega.{arith}
use Rattle.rights.specs.Bytes.{all}
use Rattle.rights.proofs.ListLaws.{by_case, all_at, all_from}
use Rattle.trials.specs.Trials.{below}
use Rattle.trials.proofs.all_below.Goals as goal

all_told : (p : ℕ → Bool) (s : List ℕ) (r : Bool) → (IsTrue r ↔ ((i : ℕ) → i < length s → IsTrue (p (get_or s i 0)))) → r ≡ all p s
all_told p s true h = sym (all_from p s (h.0 refl))
all_told p s false h = by_case (all p s) (λ e. absurd (let q : false ≡ true = h.1 (all_at p s e) in let z : ◌≡◌ {A = ℕ} 0 1 = cc in omega arith)) (λ e. sym e)

pub returns : goal.returns
returns c =
    let h : IsTrue c.all.result ↔ ((i : ℕ) → i < length c.args.shown.now → IsTrue (below c.args.n (get_or c.args.shown.now i 0))) = search (rules, chains) in
    all_told (below c.args.n) c.args.shown.now _ h
