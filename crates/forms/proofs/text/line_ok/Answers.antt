use Rattle.std.proofs.Common.{rules}
use Rattle.std.specs.Prelude.{◌↔◌, IsTrue, ℕ, ◌<◌, ◌≡◌, Bool, true, false, List, length, get_or}
use Rattle.std.proofs.iter.runs.Made.{chains}
use borrow.Author.Tests.{le-leb}
use mathlib.Core.Path.{refl, sym}
use native.Mathlib.Omega.{arith}
use Rattle.rights.specs.Bytes.{all}
use Rattle.rights.proofs.ListLaws.{by_case, all_at, all_from}
use Rattle.forms.specs.Text.{line_byte, line_ok}
use Rattle.forms.proofs.text.line_ok.Goals as goal

all_told : (p : ℕ → Bool) (s : List ℕ) (r : Bool) → (IsTrue r ↔ ((i : ℕ) → i < length s → IsTrue (p (get_or s i 0)))) → r ≡ all p s
all_told p s true h = sym (all_from p s (h.0 refl))
all_told p s false h = by_case (all p s) (λ e. absurd (let q : false ≡ true = h.1 (all_at p s e) in let z : ◌≡◌ {A = ℕ} 0 1 = cc in omega arith)) (λ e. sym e)

pub returns-then-s-le-LINE_MAX : goal.returns-then-s-le-LINE_MAX
unfolding line_ok
returns-then-s-le-LINE_MAX c =
    let h : IsTrue c.all.result ↔ ((i : ℕ) → i < length c.args.s.now → IsTrue (line_byte (get_or c.args.s.now i 0))) = search (rules, chains) in
    rw (le-leb (length c.args.s.now) 1024 c.if-s-le-LINE_MAX.true) (all_told line_byte c.args.s.now _ h)
