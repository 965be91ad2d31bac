-- A refusal's number says which refusal it is: no two have one number, 1 to 15 are those of the fifteen, and 0 is none's. So what is returned is known by
-- the paper's numbers. Assumes nothing.
use Rattle.std.specs.Prelude.{Result, Ok, Err}
use Prim.Native.Nat.{ℕ, ◌≤◌}
use mathlib.Core.Bool.{true, cond}
use mathlib.Core.Path.{◌≡◌, refl, sym, ap, ◌∙◌}
use native.Mathlib.Omega.{arith}
use borrow.Author.Tests.{eqb-true}
use lib.Dec.{eqb}
use Rattle.rights.proofs.RangeLaws.{on_range}
use Rattle.lines.specs.Refusal.{bad_line, no_form, wrong_stage, bad_path, bad_name, rule_bracket, policy_full, no_user_yet, banned_label, level_too_deep, table_full, area_short, bad_store, no_document, number_of, numbered}
use Rattle.lines.specs.declared.refusals.Refusal.{Refusal}
use Rattle.lines.specs.declared.refusals.Refusal.TheVariants.{BadLine, NoForm, WrongStage, BadPath, BadName, RuleBracket, PolicyFull, NoUserYet, BannedLabel, LevelTooDeep, TableFull, AreaShort, BadStore, NoDocument, BadDay}

-- the refusal of a number
abbrev of_number : ℕ → Refusal
of_number n =
    cond (eqb n bad_line) BadLine
    (cond (eqb n no_form) NoForm
    (cond (eqb n wrong_stage) WrongStage
    (cond (eqb n bad_path) BadPath
    (cond (eqb n bad_name) BadName
    (cond (eqb n rule_bracket) RuleBracket
    (cond (eqb n policy_full) PolicyFull
    (cond (eqb n no_user_yet) NoUserYet
    (cond (eqb n banned_label) BannedLabel
    (cond (eqb n level_too_deep) LevelTooDeep
    (cond (eqb n table_full) TableFull
    (cond (eqb n area_short) AreaShort
    (cond (eqb n bad_store) BadStore
    (cond (eqb n no_document) NoDocument
    BadDay)))))))))))))

told : (r : Refusal) → (of_number (number_of r) ≡ r) × (1 ≤ number_of r)
told BadLine = (refl, omega arith)
told NoForm = (refl, omega arith)
told WrongStage = (refl, omega arith)
told BadPath = (refl, omega arith)
told BadName = (refl, omega arith)
told RuleBracket = (refl, omega arith)
told PolicyFull = (refl, omega arith)
told NoUserYet = (refl, omega arith)
told BannedLabel = (refl, omega arith)
told LevelTooDeep = (refl, omega arith)
told TableFull = (refl, omega arith)
told AreaShort = (refl, omega arith)
told BadStore = (refl, omega arith)
told NoDocument = (refl, omega arith)
told BadDay = (refl, omega arith)

pub number_some : (r : Refusal) → 1 ≤ number_of r
number_some r = (told r).1

-- no two refusals have one number
pub one_number : (r q : Refusal) → number_of r ≡ number_of q → r ≡ q
one_number r q e = sym (told r).0 ∙ ap of_number e ∙ (told q).0

-- each number from 1 to 15 is that of a refusal
pub every_number : (n : ℕ) → 1 ≤ n → n ≤ 15 → (r : Refusal) × (number_of r ≡ n)
every_number n h k = (of_number n, eqb-true (number_of (of_number n)) n (sym (on_range (λ m. eqb (number_of (of_number m)) m) true 1 15 tt n h (omega arith))))

-- so nothing is lost of what is returned
pub one_answer : (r q : Result ℕ Refusal) → numbered r ≡ numbered q → r ≡ q
one_answer (Ok m) (Ok n) e = let z : m ≡ n = cc in ap Ok z
one_answer (Ok m) (Err y) e = absurd (let z : ◌≡◌ {A = ℕ} 0 1 = cc in omega arith)
one_answer (Err x) (Ok n) e = absurd (let z : ◌≡◌ {A = ℕ} 0 1 = cc in omega arith)
one_answer (Err x) (Err y) e = let z : number_of x ≡ number_of y = cc in ap Err (one_number x y z)
