-- Where the parts of a line end (document 01, "Lines"; for refusal 2 "any run of one or more bytes without space or parenthesis passes as a path").
use Rattle.std.specs.Prelude.{Option, Some, None, ℕ, ◌+◌, Bool, cond, ◌&&◌, ◌||◌, List, take, drop, leb, eqb}
use Rattle.rights.specs.Limits.{label_max}
use Rattle.rights.specs.Bytes.{within, digit_byte}
use Rattle.rights.specs.Labels.{label_byte}
use Rattle.rights.specs.PathReader.{run_at, number_of}

-- 33 to 126 without the parentheses 40 and 41
unfoldable pub path_byte : ℕ → Bool
path_byte b = within 33 39 b || within 42 126 b

-- one byte or more of a class, and at most so many
abbrev pub short_end : (ℕ → Bool) → ℕ → List ℕ → ℕ → Option ℕ
short_end f most s at = cond (leb 1 (run_at f s at) && leb (run_at f s at) most) (Some (at + run_at f s at)) None

-- a label of 1 to 24 bytes
unfoldable pub label_end : List ℕ → ℕ → Option ℕ
label_end s at = short_end label_byte label_max s at

-- "A day is typed as 1 to 3 digits" (document 02, card 7)
abbrev pub day_digits : ℕ
day_digits = 3

unfoldable pub day_end : List ℕ → ℕ → Option ℕ
day_end s at = short_end digit_byte day_digits s at

-- the number that a day's digits write, and 0 where they are too many
unfoldable pub day_at : List ℕ → ℕ → ℕ
day_at s at = cond (leb (run_at digit_byte s at) day_digits) (number_of 0 (take (run_at digit_byte s at) (drop at s))) 0

-- one byte or more of a class: a path's bytes, or a word's, which are label bytes
unfoldable pub run_end : (ℕ → Bool) → List ℕ → ℕ → Option ℕ
run_end f s at = cond (leb 1 (run_at f s at)) (Some (at + run_at f s at)) None

-- a word that a table has as n; 0 says that it has none
unfoldable pub known_end : ℕ → List ℕ → ℕ → Option ℕ
known_end n s at = cond (eqb n 0) None (run_end label_byte s at)
