-- A loop that writes a slice from the front: what it has written is `take i s`, and from i on the slice is as it was.
-- `push_take` and `push_drop` are its step, `filled` its end; `put-take` and `put-drop` those of a loop that writes some of what it meets. Assumes nothing.
use Prim.Native.Nat.{ℕ, ◌+◌, ◌≤◌, ◌<◌}
use mathlib.Core.Bool.{Bool, true, false, cond}
use mathlib.Core.Path.{◌≡◌, refl, sym, ap, ◌∙◌}
use mathlib.Core.List.{List, [], ◌∷◌, ◌++◌, append_assoc, append-nil}
use native.Mathlib.Numerals.{add-one}
use native.Mathlib.Omega.{arith}
use lib.ListN.{length, take, drop, set, take-append-drop, length-set}
use lib.Seq.{take-suc-set, drop-set-lt, drop-drop, length-take-le}

module _ (s : List ℕ) (i m : ℕ) where
  pub push_take : {xs ys : List ℕ} → i < length s → xs ≡ m ∷ ys → take i s ++ xs ≡ take (i + 1) (set s i m) ++ ys
  push_take h e = rw (add-one, take-suc-set s i m, append_assoc, e)

  pub push_drop : (s₀ : List ℕ) → drop i s ≡ drop i s₀ → drop (i + 1) (set s i m) ≡ drop (i + 1) s₀
  push_drop s₀ e = drop-set-lt (i + 1) s i m (omega arith) ∙ sym (drop-drop 1 i s) ∙ ap (drop 1) e ∙ drop-drop 1 i s₀

  pub put-take : (b : Bool) (ys : List ℕ) → i < length s
      → take i s ++ cond b (m ∷ ys) ys ≡ take (cond b (i + 1) i) (cond b (set s i m) s) ++ ys
  put-take true ys h = push_take h refl
  put-take false ys h = refl

  pub put-drop : (b : Bool) (s₀ : List ℕ) → drop i s ≡ drop i s₀ → drop (cond b (i + 1) i) (cond b (set s i m) s) ≡ drop (cond b (i + 1) i) s₀
  put-drop true s₀ e = push_drop s₀ e
  put-drop false s₀ e = e

  pub put-length : (b : Bool) → length (cond b (set s i m) s) ≡ length s
  put-length true = length-set s i m
  put-length false = refl

  pub put_next : (b : Bool) → cond b (i + 1) i ≤ i + 1
  put_next true = omega arith
  put_next false = omega arith

pub filled : (s s₀ f : List ℕ) (n : ℕ) → take n s ++ [] ≡ f → drop n s ≡ drop n s₀ → s ≡ f ++ drop n s₀
filled s s₀ f n e d = rw (← e, ← d, append-nil, take-append-drop)

pub filled_length : (s f : List ℕ) (n : ℕ) → n ≤ length s → take n s ++ [] ≡ f → n ≡ length f
filled_length s f n h e = sym (length-take-le n s h) ∙ ap length (sym (append-nil (take n s)) ∙ e)
