-- Checks, and a work that is carried out: what a check that fails refuses, what passed checks let follow. Assumes nothing.
use Rattle.std.specs.Prelude.{Result, Ok, Err, IsErrAnd}
use Prim.Native.Nat.{ℕ, ◌+◌, ◌≤◌, ◌<◌}
use mathlib.Core.Bool.{Bool, true, false, cond, beq, and-eq-true_iff}
use mathlib.Core.Path.{◌≡◌, refl, sym, ap, subst, ◌∙◌}
use mathlib.Core.List.{List, [], ◌∷◌, ◌++◌, append_assoc}
use native.Mathlib.Omega.{arith}
use borrow.Author.Tests.{leb-true, ltb-true, ltb-false, le-leb, lt-leb, eqb-true}
use lib.Dec.{T, leb, ltb, eqb}
use lib.ListN.{length, drop, length-append, length-drop}
use Rattle.rights.proofs.ListLaws.{by_case}
use Rattle.rights.proofs.RangeLaws.{flat, beq_eq, on_range}
use Rattle.answers.specs.How.AnswerArea.{Answered, written}
use Rattle.lines.specs.Outcome.{Accepted, Outcome, says, refusal, Made}
use Rattle.lines.specs.Refusal.{number_of, refusal_number, numbered, Check, order, rank, index_in, area_short, area_check, checked, first_refusal, Passed, all_numbered}
use Rattle.lines.specs.Effect.{Work, state_after, table_after, guarded, performed, Performs}
use Rattle.lines.specs.declared.refusals.Refusal.{Refusal}
use Rattle.lines.proofs.NumberLaws.{number_some}
use Rattle.lines.proofs.OutcomeLaws.{made_at}

-- "13 is tested first, then 1 to 12 rising.", "14, after 4", and "15, after 10"
abbrev pub placed : ℕ → ℕ
placed n = cond (eqb n 13) 0 (cond (eqb n 14) 5 (cond (eqb n 15) 12 (cond (leb n 4) n (cond (leb n 10) (n + 1) (n + 2)))))

pub rank_is : (n : ℕ) → 1 ≤ n → n ≤ 15 → rank n ≡ placed n
unfolding index_in
rank_is n h k = eqb-true (rank n) (placed n) (sym (on_range (λ m. eqb (rank m) (placed m)) true 1 15 tt n h (omega arith)))

-- so 1 to 12 rise
abbrev same : ℕ → ℕ → Bool
same j k = beq (ltb (rank j) (rank k)) (ltb j k)

pub rank_rises : (m n : ℕ) → 1 ≤ m → m ≤ 12 → 1 ≤ n → n ≤ 12 → ltb (rank m) (rank n) ≡ ltb m n
unfolding index_in
rank_rises m n a b c d =
    let row : true ≡ flat (same m) true 1 12 = on_range (λ k. flat (same k) true 1 12) true 1 12 tt m a (omega arith) in
    let all : T (flat (same m) true 1 12) = subst T row tt in
    beq_eq (ltb (rank m) (rank n)) (ltb m n) (subst T (on_range (same m) true 1 12 all n c (omega arith)) tt)

pub rank_small : (n : ℕ) → 1 ≤ n → n ≤ 15 → rank n < length order
unfolding index_in
rank_small n h k = ltb-true (rank n) 15 (sym (on_range (λ m. ltb (rank m) 15) true 1 15 tt n h (omega arith)))

-- the first check that fails

pub first_behind : (cs ds : List Check) → Passed cs → first_refusal (cs ++ ds) ≡ first_refusal ds
first_behind [] ds p = refl
first_behind (c ∷ cs) ds p = rw p.0 (first_behind cs ds p.1)

pub first_front : (cs ds : List Check) (n : ℕ) → n ≡ first_refusal cs → (n ≡ 0 → ⊥) → n ≡ first_refusal (cs ++ ds)
first_front [] ds n e h = absurd (h e)
first_front (c ∷ cs) ds n e h =
    by_case c.fails (λ z. rw z (rw z at e)) (λ z. rw z (first_front cs ds n (rw z at e) h))

-- where no number is returned, every check passed
pub passed : (cs : List Check) (n : ℕ) → all_numbered cs ≡ true → n ≡ first_refusal cs → n ≡ 0 → Passed cs
passed [] n k e z = tt
passed (c ∷ cs) n k e z =
    let f = simp and-eq-true_iff at k in
    by_case c.fails
    (λ q. let m : n ≡ c.number = rw q at e in absurd (omega (arith, ltb-true 0 c.number f.0)))
    (λ q. (q, passed cs n f.1 (rw q at e) z))

pub passed-append : (cs ds : List Check) → Passed cs → Passed ds → Passed (cs ++ ds)
passed-append [] ds p q = q
passed-append (c ∷ cs) ds p q = (p.0, passed-append cs ds p.1 q)

-- what follows checks

pub checked-behind : (cs ds : List Check) (s t : List ℕ) (o : Outcome) → Passed cs → checked (cs ++ ds) s t o ≡ checked ds s t o
unfolding checked
checked-behind [] ds s t o p = refl
checked-behind (c ∷ cs) ds s t o p = rw p.0 (checked-behind cs ds s t o p.1)

pub checked-passed : (cs : List Check) (s t : List ℕ) (o : Outcome) → Passed cs → checked cs s t o ≡ o
unfolding checked
checked-passed [] s t o p = refl
checked-passed (c ∷ cs) s t o p = rw p.0 (checked-passed cs s t o p.1)

pub checked_refused : (cs : List Check) (s t : List ℕ) (o : Outcome) (n : ℕ) → n ≡ first_refusal cs → (n ≡ 0 → ⊥) → checked cs s t o ≡ refusal n s t
unfolding checked
checked_refused [] s t o n e h = absurd (h e)
checked_refused (c ∷ cs) s t o n e h =
    by_case c.fails
    (λ z. rw z (let m : n ≡ c.number = rw z at e in ap (λ k. refusal k s t) (sym m)))
    (λ z. rw z (checked_refused cs s t o n (rw z at e) h))

-- an area that an answer was put into keeps its length
pub length-written : (text area : List ℕ) → length (written text area) ≡ length area
length-written text area = go (leb (length text) (length area)) refl
  where
    go : (b : Bool) → leb (length text) (length area) ≡ b → length (cond b (text ++ drop (length text) area) area) ≡ length area
    go true q = omega (arith, length-append text (drop (length text) area), length-drop (length text) area, leb-true (length text) (length area) q)
    go false q = refl

-- By what a test returns, and `?` hands on

-- where it refuses nothing, every check passed
pub passed_ok : {A : Type 0} (cs : List Check) {r : Result A Refusal} {v : A} → all_numbered cs ≡ true → refusal_number r ≡ first_refusal cs → r ≡ Ok v → Passed cs
passed_ok cs k e q = passed cs _ k e (ap refusal_number q)

-- what it refuses with is the first check that fails, and that of a longer list
module _ {A : Type 0} {r : Result A Refusal} {x : Refusal} (q : r ≡ Err x) (cs : List Check) (e : refusal_number r ≡ first_refusal cs) where
  number_err : number_of x ≡ first_refusal cs
  number_err = sym (ap refusal_number q) ∙ e

  pub front_err : (ds : List Check) → refusal_number r ≡ first_refusal (cs ++ ds)
  front_err ds = first_front cs ds _ e (λ z. let i : number_of x ≡ 0 = sym (ap refusal_number q) ∙ z in omega (arith, number_some x, i))

-- `?` hands on what it is given
pub handed_on : {A : Type 0} (o : Result A Refusal) (x : Refusal) → IsErrAnd o (λ y. y ≡ x) → o ≡ Err x
handed_on (Ok v) x p = absurd p
handed_on (Err y) x p = ap Err p

-- Checks, behind them that of the area for an answer, and what follows: the text, the state s' and the table t'

module _ (cs : List Check) (text s t s' t' : List ℕ) where
  abbrev pub answering : ℕ → Outcome
  answering room = checked (cs ++ (area_check room (length text) ∷ [])) s t (record { reply = says text; state = s'; table = t' })

  -- refused by one of the checks
  pub answering_refused : {area : List ℕ} (x : Refusal) → number_of x ≡ first_refusal cs → Made (answering (length area)) area (numbered (Err x)) s t area
  answering_refused {area} x e =
      let h : number_of x ≡ 0 → ⊥ = λ z. omega (arith, number_some x, z) in
      made_at (checked_refused (cs ++ (area_check (length area) (length text) ∷ [])) s t _ (number_of x) (first_front cs _ (number_of x) e h) h)
      (record { answer = refl; state = refl; table = refl; area = refl })

  -- where they passed, and the answer was put if it fits
  module _ {before area : List ℕ} {need : ℕ} (p : Passed cs) (a : Answered text before area need)
      {d : Result Unit Refusal} (e : refusal_number d ≡ first_refusal (area_check (length area) need ∷ [])) where
    last : {r : Result Unit Refusal} → d ≡ r → refusal_number r ≡ first_refusal (area_check (length before) (length text) ∷ [])
    last q =
        sym (ap refusal_number q)
        ∙ e
        ∙ ap (λ k. first_refusal (area_check k need ∷ [])) (ap length a.area ∙ length-written text before)
        ∙ ap (λ k. first_refusal (area_check (length before) k ∷ [])) a.size

    pub answering_short : {x : Refusal} → d ≡ Err x → Made (answering (length before)) before (numbered (Err x)) s t area
    answering_short {x} h =
        let k : number_of x ≡ first_refusal (area_check (length before) (length text) ∷ []) = last h in
        let n : number_of x ≡ 0 → ⊥ = λ z. omega (arith, number_some x, z) in
        by_case (ltb (length before) (length text))
        (λ z.
        let q : leb (length text) (length before) ≡ false = lt-leb (length text) (length before) (ltb-true (length before) (length text) z) in
        made_at (checked-behind cs _ s t _ p ∙ checked_refused (area_check (length before) (length text) ∷ []) s t _ (number_of x) k n)
        (record { answer = refl; state = refl; table = refl; area = rw q at a.area }))
        (λ z. absurd (n (rw z at k)))

    pub answering_done : {s'' t'' : List ℕ} {v : Unit} → d ≡ Ok v → s'' ≡ s' → t'' ≡ t' → Made (answering (length before)) before (numbered (Ok need)) s'' t'' area
    answering_done h es et =
        let k : 0 ≡ first_refusal (area_check (length before) (length text) ∷ []) = last h in
        by_case (ltb (length before) (length text))
        (λ z. let m : 0 ≡ area_short = rw z at k in absurd (omega (arith, m)))
        (λ z.
        let q : leb (length text) (length before) ≡ true = le-leb (length text) (length before) (ltb-false (length before) (length text) z) in
        made_at (checked-behind cs _ s t _ p ∙ checked-passed (area_check (length before) (length text) ∷ []) s t _ (z, tt))
        (record { answer = ap Accepted a.size; state = es; table = et; area = rw q at a.area }))

-- So with a work that is carried out; o is what the line returns where a test refused

module _ (w : Work) (s t : List ℕ) where
  pub performs_refused : {A : Type 0} {area : List ℕ} {r : Result A Refusal} {x : Refusal} → refusal_number r ≡ first_refusal w.checks → r ≡ Err x
      → (o : Result ℕ Refusal) → IsErrAnd o (λ y. y ≡ x) → Performs w s t area (numbered o) s t area
  unfolding performed
  performs_refused {x} e q o p = rw (handed_on o x p) (answering_refused w.checks w.text s t _ _ x (number_err q w.checks e))

  module _ {before area : List ℕ} {need : ℕ} (p : Passed w.checks) (a : Answered w.text before area need)
      {d : Result Unit Refusal} (e : refusal_number d ≡ first_refusal (area_check (length area) need ∷ [])) where
    pub performs_short : {x : Refusal} → d ≡ Err x → (o : Result ℕ Refusal) → IsErrAnd o (λ y. y ≡ x) → Performs w s t before (numbered o) s t area
    unfolding performed
    performs_short {x} h o q = rw (handed_on o x q) (answering_short w.checks w.text s t _ _ p a e h)

    pub performs_done : {s' t' : List ℕ} {v : Unit} → d ≡ Ok v → s' ≡ state_after w.effect s → t' ≡ table_after w.effect t → Performs w s t before (numbered (Ok need)) s' t' area
    unfolding performed
    performs_done k es et = answering_done w.checks w.text s t _ _ p a e k es et

-- checks in front that passed
pub performed-guarded : (cs : List Check) (w : Work) (room : ℕ) (s t : List ℕ) → Passed cs → performed (guarded cs w) room s t ≡ performed w room s t
unfolding performed
performed-guarded cs w room s t p =
    ap (λ l. checked l s t (record { reply = says w.text; state = state_after w.effect s; table = table_after w.effect t }))
    (append_assoc cs w.checks (area_check room (length w.text) ∷ []))
    ∙ checked-behind cs _ s t _ p
