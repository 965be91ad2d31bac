-- Laws of bytes that are moved, shifted and cleared in place. Assumes nothing.
use Prim.Native.Nat.{ℕ, ◌+◌, ◌-◌, ◌≤◌}
use mathlib.Core.Path.{◌≡◌, sym, ap, ◌∙◌}
use mathlib.Core.List.{List, ◌++◌}
use native.Mathlib.Omega.{arith}
use lib.ListN.{length, take, drop, length-drop}
use lib.Seq.{drop-drop, paste, take-paste, drop-paste}

-- equal from a on, and so from further on
pub drop_more : (a n : ℕ) (x y : List ℕ) (b : ℕ) → b ≡ a + n → drop a x ≡ drop a y → drop b x ≡ drop b y
drop_more a n x y b e h = rw e (sym (drop-drop n a x) ∙ ap (drop n) h ∙ drop-drop n a y)

-- bytes that move down: what stands behind them is as it was, one more of them, and all
module _ (t t₀ : List ℕ) (from to j : ℕ) (below : to ≤ from) (e : t ≡ paste t₀ to (drop from t₀) j) (fits : from + j ≤ length t₀) where
  some_left : j ≤ length (drop from t₀)
  some_left = rw length-drop (omega arith)

  behind : drop (from + j) t ≡ drop (from + j) t₀
  behind = drop_more (to + j) (from - to) t t₀ (from + j) (omega arith) (ap (drop (to + j)) e ∙ drop-paste t₀ to (drop from t₀) j (omega arith) some_left)

  pub moved_down : (take (to + j) t ≡ take to t₀ ++ take j (drop from t₀)) × (drop (from + j) t ≡ drop (from + j) t₀)
  moved_down = (ap (take (to + j)) e ∙ take-paste t₀ to (drop from t₀) j (omega arith) some_left, behind)
