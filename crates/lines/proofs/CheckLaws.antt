-- Lists of checks: what is refused by one of them leaves all as it was, or every check passes. Assumes nothing.
use Prim.Native.Nat.{ℕ}
use mathlib.Core.Path.{◌≡◌, refl, sym, ap, ◌∙◌}
use mathlib.Core.Bool.{false}
use mathlib.Core.List.{List, [], ◌∷◌, ◌++◌}
use mathlib.Core.Logic.{◌⊎◌, inl, inr}
use Rattle.rights.proofs.ListLaws.{by_case}
use Rattle.lines.specs.Outcome.{Outcome, says, refuses, refusal}
use Rattle.lines.specs.Refusal.{Check, checked, Passed}
use Rattle.lines.proofs.OutcomeLaws.{said-refused}

pub passed_both : (cs ds : List Check) → Passed (cs ++ ds) → Passed cs × Passed ds
passed_both [] ds p = (tt, p)
passed_both (c ∷ cs) ds p = let q = passed_both cs ds p.1 in ((p.0, q.0), q.1)

-- what is refused leaves all as it was
pub record Refused (s t : List ℕ) (o : Outcome) : Type 0 where
  pub number : ℕ
  pub is : o ≡ refusal number s t

pub record Went (cs : List Check) (s t : List ℕ) (o : Outcome) : Type 0 where
  pub passed : Passed cs
  pub is : checked cs s t o ≡ o

pub checked-cases : (cs : List Check) (s t : List ℕ) (o : Outcome) → Refused s t (checked cs s t o) ⊎ Went cs s t o
unfolding checked
checked-cases [] s t o = inr (record { passed = tt; is = refl })
checked-cases (c ∷ cs) s t o =
    by_case c.fails
    (λ e. inl (record { number = c.number; is = rw e }))
    (λ e. rest e (checked-cases cs s t o))
  where
    rest : c.fails ≡ false → Refused s t (checked cs s t o) ⊎ Went cs s t o → Refused s t (checked (c ∷ cs) s t o) ⊎ Went (c ∷ cs) s t o
    rest e (inl x) = inl (record { number = x.number; is = rw e x.is })
    rest e (inr x) = inr (record { passed = (e, x.passed); is = rw e x.is })

-- What answers passed every check.
pub answered-passed : (cs : List Check) (s t : List ℕ) (o : Outcome) {text : List ℕ} → (checked cs s t o).reply ≡ says text → Passed cs
answered-passed cs s t o {text} e = go (checked-cases cs s t o)
  where
    go : Refused s t (checked cs s t o) ⊎ Went cs s t o → Passed cs
    go (inl x) = said-refused (sym e ∙ ap (λ (p : Outcome). p.reply) x.is)
    go (inr x) = x.passed

-- What is refused with a number, where an answer follows the checks, leaves all as it was.
pub refused-is : (cs : List Check) (s t : List ℕ) (o : Outcome) {text : List ℕ} {n : ℕ} → o.reply ≡ says text → (checked cs s t o).reply ≡ refuses n
    → checked cs s t o ≡ refusal n s t
refused-is cs s t o {text} {n} said e = go (checked-cases cs s t o)
  where
    go : Refused s t (checked cs s t o) ⊎ Went cs s t o → checked cs s t o ≡ refusal n s t
    go (inl x) =
        let z : refuses x.number ≡ refuses n = sym (ap (λ (p : Outcome). p.reply) x.is) ∙ e in
        let k : x.number ≡ n = cc in
        x.is ∙ ap (λ m. refusal m s t) k
    go (inr x) = said-refused (sym said ∙ sym (ap (λ (p : Outcome). p.reply) x.is) ∙ e)
