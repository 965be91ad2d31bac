-- The bytes of a line (document 01, "Lines"): "a line holds at most 1,024 bytes without its line feed, each 32 to 126".
use Rattle.std.specs.Prelude.{ℕ, Bool, ◌&&◌, List, leb, length}
use Rattle.rights.specs.Bytes.{within, all}

unfoldable pub line_byte : ℕ → Bool
line_byte b = within 32 126 b

-- a line that is not refused with 1
unfoldable pub line_ok : List ℕ → Bool
line_ok s = leb (length s) 1024 && all line_byte s
