-- Words by their letters: accept and deny, and the rights (document 01, "Lines"). Those that begin a form stand in Layout.
use Rattle.std.specs.Prelude.{ℕ, Bool, true, false, cond, ◌&&◌, List, [], ◌∷◌, eqb, take, drop}
use Rattle.rights.specs.Bytes.{bytes}
use Rattle.rights.specs.Labels.{label_byte}
use Rattle.rights.specs.PathReader.{run_at}
use Rattle.rights.specs.Policy.{bit_of, position, read, insert, update, delete}

abbrev pub accept : List ℕ
accept = bytes "accept"

abbrev pub deny : List ℕ
deny = bytes "deny"

-- tables of texts and what each stands for
abbrev pub signs : List (List ℕ × ℕ)
signs = (accept, 1) ∷ (deny, 2) ∷ []

abbrev pub rights : List (List ℕ × ℕ)
rights =
    (bytes "position", bit_of position)
    ∷ (bytes "read", bit_of read)
    ∷ (bytes "insert", bit_of insert)
    ∷ (bytes "update", bit_of update)
    ∷ (bytes "delete", bit_of delete)
    ∷ []

-- two texts are equal, byte by byte
unfoldable pub same_text : List ℕ → List ℕ → Bool
same_text [] [] = true
same_text [] (y ∷ ys) = false
same_text (x ∷ xs) [] = false
same_text (x ∷ xs) (y ∷ ys) = eqb x y && same_text xs ys

-- what a table has for a text, and other if it has nothing
unfoldable pub among : {A : Type 0} → A → List (List ℕ × A) → List ℕ → A
among other [] s = other
among other ((w, x) ∷ rest) s = cond (same_text s w) x (among other rest s)

-- the label bytes that stand at a place
abbrev pub label_bytes_at : List ℕ → ℕ → List ℕ
label_bytes_at s at = take (run_at label_byte s at) (drop at s)

-- the sign's number and the right's bit that they write, and 0 if they write none
unfoldable pub sign_at : List ℕ → ℕ → ℕ
sign_at s at = among 0 signs (label_bytes_at s at)

unfoldable pub right_at : List ℕ → ℕ → ℕ
right_at s at = among 0 rights (label_bytes_at s at)
