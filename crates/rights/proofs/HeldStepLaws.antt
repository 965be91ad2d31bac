-- A step that is held passes the check and is read again; and a step that passes is one that may be held. Assumes nothing.
use Prim.Native.Nat.{ℕ, zero, suc, ◌+◌, ◌≤◌}
use mathlib.Core.Path.{◌≡◌, refl, sym, ap, ap₂, ◌∙◌, subst}
use mathlib.Core.Bool.{true, ◌||◌, or-true, and-eq-true_iff}
use mathlib.Core.List.{List, [], ◌∷◌}
use native.Mathlib.Omega.{arith}
use borrow.Author.Tests.{le-leb, ne_eqb, leb-true, eqb-true}
use lib.Dec.{lit<, eqb}
use lib.ListN.{length, get_or, take, drop, replicate, length-drop}
use lib.Seq.{length-take-le}
use Rattle.rights.specs.Bytes.{all, is_zero, zeros}
use Rattle.rights.specs.Labels.{label_byte}
use Rattle.rights.specs.Path.{Test, label, any, own, Axis, Child, Descendant}
use Rattle.rights.specs.PathText.{write_test, GoodTest}
use Rattle.rights.specs.PolicyBytes.{axis_of, test_of, step_of}
use Rattle.rights.specs.PolicyCheck.{text_ok, sign_ok, step_ok}
use Rattle.rights.specs.Record.{no_spare, padded, record_of, name_record}
use Rattle.rights.specs.Table as table
use Rattle.rights.specs.Table.{rec_at, level}
use Rattle.rights.specs.Allowed.{AllowedTest}
use Rattle.rights.specs.Held.{axis_byte, step_record}
use Rattle.rights.proofs.BoolLaws.{or_split}
use Rattle.rights.proofs.PathComplete.{label-not}
use Rattle.rights.proofs.PathTexts.{and_left}
use Rattle.rights.proofs.PartLaws.{part_in, next_byte}
use Rattle.rights.proofs.PlaceLaws.{zero_replicate}
use Rattle.rights.proofs.RecordOfLaws.{length_name, level_made, label_made, name_ok}
use Rattle.rights.proofs.HeldRecordLaws.{name_made, record_long}
use Rattle.rights.proofs.TextLaws.{byte_at, first_at}

-- a step is read again as it was stored
axis_back : (a : Axis) → axis_of (axis_byte a) ≡ a
axis_back Child = refl
axis_back Descendant = refl

test_back : (t : Test) → GoodTest t → test_of (write_test t) ≡ t
unfolding test_of write_test GoodTest all label_byte
test_back (label []) g = absurd (omega arith)
test_back (label (x ∷ xs)) g =
    let y = and_left (label_byte x) (all label_byte xs) g.2 in
    rw (ne_eqb x 42 (label-not x 42 refl y), ne_eqb x 36 (label-not x 36 refl y))
test_back any g = refl
test_back own g = refl

pub step_back : (w : Axis × Test) → GoodTest w.1 → step_of (step_record w) ≡ w
step_back (a, t) g =
    ap₂ (λ (u : Axis) (v : Test). (u, v))
    (ap axis_of (level_made (axis_byte a) (write_test t) no_spare) ∙ axis_back a)
    (ap test_of (label_made (axis_byte a) (write_test t) no_spare) ∙ test_back t g)

-- a test's text has at most 24 bytes
pub test_short : (t : Test) → GoodTest t → length (write_test t) ≤ 24
unfolding GoodTest write_test
test_short (label l) g = g.1
test_short any g = omega arith
test_short own g = omega arith

pub step-length : (w : Axis × Test) → GoodTest w.1 → length (step_record w) ≡ 32
step-length w g = length_name (axis_byte w.0) (write_test w.1) (test_short w.1 g)

-- a step that may be held may be written
pub allowed_good : (t : Test) → AllowedTest t → GoodTest t
unfolding GoodTest
allowed_good (label l) h = (h.some, h.short, h.bytes)
allowed_good any h = tt
allowed_good own h = tt

-- a step that may be held passes
axis_low : (a : Axis) → axis_byte a ≤ 1
axis_low Child = omega arith
axis_low Descendant = omega arith

sign_passes : (q : List ℕ) (at b g : ℕ) → b ≤ 1 → eqb g 42 || eqb g 36 ≡ true → rec_at q at ≡ name_record b (g ∷ []) → sign_ok q at ≡ true
unfolding sign_ok record_of padded all
sign_passes q at b g h s e =
    let e0 : get_or q at 0 ≡ b = sym (first_at q at) ∙ ap (λ (r : List ℕ). get_or r 0 0) e in
    let e1 : get_or q (at + 1) 0 ≡ 1 = sym (byte_at q at 1 (lit< tt)) ∙ ap (λ (r : List ℕ). get_or r 1 0) e in
    let e2 : get_or q (at + 2) 0 ≡ g = sym (byte_at q at 2 (lit< tt)) ∙ ap (λ (r : List ℕ). get_or r 2 0) e in
    let e3 : zeros q (at + 3) 29 ≡ true = ap (all is_zero) (part_in q at 32 3 29 (omega arith)) ∙ ap (λ (r : List ℕ). all is_zero (take 29 (drop 3 r))) e in
    rw (e0, le-leb b 1 h, e1, e2, s, e3)

pub step-passes : (q : List ℕ) (at : ℕ) (w : Axis × Test) → rec_at q at ≡ step_record w → AllowedTest w.1 → step_ok q at ≡ true
unfolding step_ok write_test
step-passes q at (a, label l) e h =
    rw (ap (text_ok 1) e ∙ name_ok (axis_byte a) l h.some h.short h.bytes h.free 1 (axis_low a)) (or-true (sign_ok q at))
step-passes q at (a, any) e h = rw (sign_passes q at (axis_byte a) 42 (axis_low a) refl e)
step-passes q at (a, own) e h = rw (sign_passes q at (axis_byte a) 36 (axis_low a) refl e)

-- A step that passes is the step that its bytes hold, and it may be held.
abbrev pub StepHeld : List ℕ → Type 0
StepHeld r = (r ≡ step_record (step_of r)) × AllowedTest (step_of r).1

axis_made : (b : ℕ) → b ≤ 1 → axis_byte (axis_of b) ≡ b
axis_made zero h = refl
axis_made (suc zero) h = refl
axis_made (suc (suc b)) h = absurd (omega arith)

sign_held : (b g : ℕ) → b ≤ 1 → eqb g 42 || eqb g 36 ≡ true → StepHeld (b ∷ 1 ∷ g ∷ replicate 29 0)
unfolding record_of padded test_of write_test
sign_held b g h s =
    or_split (eqb g 42) (eqb g 36) s
    (λ e. rw (eqb-true g 42 e) (ap (λ (a : ℕ). a ∷ 1 ∷ 42 ∷ replicate 29 0) (sym (axis_made b h)), tt))
    (λ e. rw (eqb-true g 36 e) (ap (λ (a : ℕ). a ∷ 1 ∷ 36 ∷ replicate 29 0) (sym (axis_made b h)), tt))

-- the first three bytes of a record, and the others
three : (q : List ℕ) (at : ℕ) → at + 32 ≤ length q → rec_at q at ≡ get_or q at 0 ∷ get_or q (at + 1) 0 ∷ get_or q (at + 2) 0 ∷ take 29 (drop (at + 3) q)
three q at h =
    let b : at + 1 + 1 ≡ at + 2 = omega arith in
    let d : at + 2 + 1 ≡ at + 3 = omega arith in
    let e1 = rw b at (next_byte q (at + 1) (omega arith)) in
    let e2 = rw d at (next_byte q (at + 2) (omega arith)) in
    ap (take 32) (next_byte q at (omega arith) ∙ ap (λ (l : List ℕ). get_or q at 0 ∷ l) (e1 ∙ ap (λ (l : List ℕ). get_or q (at + 1) 0 ∷ l) e2))

label-held : (r : List ℕ) → length r ≡ 32 → text_ok 1 r ≡ true → StepHeld r
unfolding write_test GoodTest
label-held r l e =
    let m = name_made 1 r l e in
    let ok = m.2 in
    let t : test_of (table.label r) ≡ label (table.label r) = test_back (label (table.label r)) (ok.some, ok.short, ok.bytes) in
    rw (t, axis_made (level r) m.0) (sym m.1, ok)

pub step-held : (q : List ℕ) (at : ℕ) → at + 32 ≤ length q → step_ok q at ≡ true → StepHeld (rec_at q at)
unfolding step_ok sign_ok
step-held q at h e =
    or_split (sign_ok q at) (text_ok 1 (rec_at q at)) e
    (λ s.
    let f = simp (sign_ok, and-eq-true_iff) at s in
    let z : take 29 (drop (at + 3) q) ≡ replicate 29 0 =
    zero_replicate (take 29 (drop (at + 3) q)) f.1.1.1 ∙ ap (λ (k : ℕ). replicate k 0) (length-take-le 29 (drop (at + 3) q) (rw length-drop (omega arith))) in
    let one : get_or q (at + 1) 0 ≡ 1 = eqb-true (get_or q (at + 1) 0) 1 f.1.0 in
    subst StepHeld (sym (three q at h ∙ ap₂ (λ (k : ℕ) (l : List ℕ). get_or q at 0 ∷ k ∷ get_or q (at + 2) 0 ∷ l) one z))
    (sign_held (get_or q at 0) (get_or q (at + 2) 0) (leb-true _ _ f.0) f.1.1.0))
    (label-held (rec_at q at) (record_long q at h))
