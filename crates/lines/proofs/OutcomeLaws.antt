-- What is made of an outcome. Assumes nothing.
use Prim.Native.Nat.{ℕ, ◌≤◌}
use mathlib.Core.Path.{◌≡◌, sym, ap, ◌∙◌}
use mathlib.Core.List.{List}
use native.Mathlib.Omega.{arith}
use lib.ListN.{length, drop, length-append}
use Rattle.lines.specs.Outcome.{Answer, Accepted, Reply, says, refuses, Outcome, Made, answer_of, area_after}

-- what is made for an outcome is made for one that equals it
pub made_at : {o p : Outcome} {area s t area' : List ℕ} {r : Answer} → o ≡ p → Made p area r s t area' → Made o area r s t area'
made_at e m = rw e m

-- an answer is no refusal
pub said-refused : {C : Type 0} {x : List ℕ} {n : ℕ} → says x ≡ refuses n → C
said-refused e = absurd (let y : ◌≡◌ {A = ℕ} 0 1 = cc in omega arith)

-- an accepted line's answer lies within the area
pub accepted_within : {o : Outcome} {before s' t' after : List ℕ} {r : Answer} {n : ℕ} → Made o before r s' t' after → r ≡ Accepted n → n ≤ length after
accepted_within {o} {before} {s'} {t'} {after} {r} {n} m e = go o.reply (sym e ∙ m.answer) m.area
  where
    go : (p : Reply) → Accepted n ≡ answer_of p → after ≡ area_after p before → n ≤ length after
    go (says b) q a = let z : n ≡ length b = cc in omega (arith, ap length a, length-append b (drop (length b) before))
    go (refuses k) q a = let z : ◌≡◌ {A = ℕ} 0 1 = cc in absurd (omega arith)
