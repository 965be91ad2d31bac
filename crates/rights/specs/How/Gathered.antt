-- What a loop with one exit gathers of bytes.
use Rattle.std.specs.Prelude.{ℕ, cond}
use Rattle.rights.specs.Labels.{label_byte}

-- 1 for a byte of a label, else 0
abbrev pub label_bit : ℕ → ℕ
label_bit a = cond (label_byte a) 1 0
